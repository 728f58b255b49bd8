-- Refused, or the limbs as they stand.
use mathlib.Core.Path.{ap, ◌∙◌, sym}
use Rattle.total.specs.Total.{val}
use Rattle.ledger.proofs.Answered.{total_room, exact_refused, exact-given}
use Rattle.ledger.proofs.exact_total.Goals as goal

pub returns-then-is_err : goal.returns-then-is_err
returns-then-is_err c =
    ap val c.limbs.ensures ∙ c.zero.ensures.0 ∙ exact_refused c.args.sheet.now _ c.total_refusal.ensures (sym c.if-is_err.ensures.value)

pub read_total-requires : goal.read_total-requires
read_total-requires c = total_room c.args.sheet.now _ c.total_refusal.ensures (sym c.if-is_err.ensures.value)

pub returns : goal.returns
returns c = c.read_total.ensures ∙ exact-given c.args.sheet.now _ c.total_refusal.ensures (sym c.if-is_err.ensures.value)
