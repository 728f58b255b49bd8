-- `round_digits` meets its contract: the leading 64 digits, and what is below them (`Shifted`).
use Rattle.std.proofs.Common.{◌∙◌, arith}
use Rattle.bits.proofs.Shifted.{full_leads, leads, some_lead, none_lead}
use Rattle.bits.proofs.rounding.round_digits.Goals as goal

pub returns-then-digits : goal.returns-then-digits
returns-then-digits c = let a = c.args in full_leads c.round_full.result a.negative a.digits a.e a.more c.round_full.ensures

pub returns-then-n-eq0 : goal.returns-then-n-eq0
returns-then-n-eq0 c = let a = c.args in c.packed.ensures ∙ none_lead a.negative a.digits c.from.result a.e a.more (grind arith) c.if-n-eq0.true

pub round_full-requires-2 : goal.round_full-requires-2
round_full-requires-2 c = (leads c.args.digits c.from.result c.args.more c.if-digits.false (grind arith) c.if-n-eq0.false, omega (arith, c.requires))

pub returns : goal.returns
returns c = let a = c.args in some_lead a.digits c.from.result a.more c.if-digits.false (grind arith) c.if-n-eq0.false c.round_full-2.result a.negative a.e c.round_full-2.ensures
