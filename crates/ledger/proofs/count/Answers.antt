-- Refused, no such class, or the count.
use mathlib.Core.Path.{sym}
use Rattle.ledger.proofs.Answered.{total_room, count_refused, count_none, count-given}
use Rattle.ledger.proofs.count.Goals as goal

pub returns-then-is_err : goal.returns-then-is_err
returns-then-is_err c = count_refused c.args.sheet.now _ c.total_refusal.ensures (sym c.if-is_err.ensures.value) c.args.class

pub returns-then-class-gt4 : goal.returns-then-class-gt4
returns-then-class-gt4 c = count_none c.args.sheet.now _ c.total_refusal.ensures (sym c.if-is_err.ensures.value) c.args.class c.if-class-gt4.true

pub read_counts-requires : goal.read_counts-requires
read_counts-requires c = total_room c.args.sheet.now _ c.total_refusal.ensures (sym c.if-is_err.ensures.value)

pub returns : goal.returns
returns c =
    count-given c.args.sheet.now _ c.total_refusal.ensures (sym c.if-is_err.ensures.value) c.args.class c.read_counts.result c.read_counts.ensures
