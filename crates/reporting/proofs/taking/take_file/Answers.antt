-- Not read; or stopped, or added.
use Rattle.std.proofs.Common.{◌∙◌, ◌≡◌, None, Some, arith, refl, true, false, []}
use Rattle.std.proofs.lemmas.Result.{err_from_is_err_and}
use Rattle.reporting.specs.declared.parts.Apart.TheVariants.{Unread}
use Rattle.reporting.proofs.Files.{met_unread, met_stopped, met_taken}
use Rattle.reporting.proofs.taking.take_file.Goals as goal

pub returns-in_err-bytes : goal.returns-in_err-bytes
returns-in_err-bytes c =
    let a = c.args in
    let p = err_from_is_err_and c.from_residual.result c.from_residual.ensures.1 in
    let o : c.load.result ≡ None = grind arith in
    let e : c.in_err-bytes.field-0.0 ≡ Unread = grind arith in
    rw (p.1, p.2 ∙ e) (met_unread a.n a.report.now _ [] c.word-name.ensures.called false (rw o at c.load.ensures.load) refl)

pub returns-in_err-stop : goal.returns-in_err-stop
returns-in_err-stop c =
    let a = c.args in
    let p = err_from_is_err_and c.from_residual-in_err-stop.result c.from_residual-in_err-stop.ensures.1 in
    let o : c.load.result ≡ Some c.in_ok-bytes.bytes = grind arith in
    rw (p.1, p.2)
    (met_stopped a.n a.report.now _ _ c.word-name.ensures.called true (rw o at c.load.ensures.load) refl
    c.stop.result c.stop.ensures _ c.in_err-stop.was)

pub returns : goal.returns
returns c =
    let a = c.args in
    let o : c.load.result ≡ Some c.in_ok-bytes.bytes = grind arith in
    met_taken a.n a.report.now _ _ c.word-name.ensures.called true (rw o at c.load.ensures.load) refl
    c.stop.result c.stop.ensures _ _ c.in_ok-stop.was c.add.ensures
