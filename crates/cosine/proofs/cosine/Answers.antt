-- `cosine` meets its contract: its calls give the steps, and these lie near the sum (angle's `Reaching` and `Near`).
use Rattle.std.proofs.Common.{◌≡◌, Ok, Err, ◌∙◌, arith}
use Rattle.std.proofs.lemmas.Result.{err_from_is_err_and}
use Rattle.laws.specs.laws.Flags.{holds}
use Rattle.angle.specs.Alternating.{Viewed, Refuses}
use Rattle.angle.specs.Cosine.{cosine_at, cosine_of}
use Rattle.angle.proofs.Reaching.{is_cosine}
use Rattle.angle.proofs.Near.{cosine_promise}
use Rattle.cosine.proofs.cosine.Goals as goal

pub returns-in_err-a : goal.returns-in_err-a
unfolding cosine_of
returns-in_err-a c =
    let p = err_from_is_err_and c.from_residual.result c.from_residual.ensures.1 in
    let e : c.view.result ≡ Err p.0 = grind arith in
    let v : Refuses c.args.x p.0 = rw e at c.view.ensures in
    cosine_promise c.args.x _ (holds c.well_formed.0.1) (p.1 ∙ v cosine_at)

pub returns : goal.returns
returns c =
    let a = c.in_ok-a.a in
    let e : c.view.result ≡ Ok a = grind arith in
    let v : Viewed c.args.x a.negative a.digits a.exponent a.square = rw e at c.view.ensures in
    cosine_promise c.args.x _ (holds c.well_formed.0.1) (is_cosine v c.cosine_by.ensures)
