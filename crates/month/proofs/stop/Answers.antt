-- 7 by the total's refusal, 10 by the first row rejected.
use Rattle.std.proofs.Common.{◌≡◌, Some, None, refl, sym, arith}
use Rattle.ledger.specs.laws.Refusals.{sheet_refused, sheet_taken}
use Rattle.inspection.specs.laws.Rejected.{row_rejected, none_rejected}
use Rattle.month.specs.Month.{stop_of}
use Rattle.month.proofs.stop.Goals as goal

pub returns-then-is_err : goal.returns-then-is_err
unfolding stop_of
returns-then-is_err c = rw (sheet_refused _ _ c.total_refusal.ensures (sym c.if-is_err.ensures.value)) refl

pub returns-in-Some : goal.returns-in-Some
unfolding stop_of
returns-in-Some c =
    let e : c.first_rejected.result ≡ Some c.in-Some.row = grind arith in
    let f = row_rejected c.args.sheet.now _ c.first_rejected.ensures _ e in
    rw (sheet_taken _ _ c.total_refusal.ensures (sym c.if-is_err.ensures.value), f.1, f.0) refl

pub returns-in-None : goal.returns-in-None
unfolding stop_of
returns-in-None c =
    let sheet = sheet_taken _ _ c.total_refusal.ensures (sym c.if-is_err.ensures.value) in
    let e : c.first_rejected.result ≡ None = grind arith in
    rw (sheet, none_rejected c.args.sheet.now _ c.first_rejected.ensures sheet e) refl
