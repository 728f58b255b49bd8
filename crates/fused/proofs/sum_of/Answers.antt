-- `sum_of` meets its contract: the terms may be exchanged.
use Rattle.std.proofs.Common.{◌∙◌}
use lib.Ieee.{binary64}
use Rattle.laws.specs.laws.Sum.{sum_comm}
use Rattle.fused.proofs.sum_of.Goals as goal

pub returns-else-b-a : goal.returns-else-b-a
returns-else-b-a c = let a = c.args in c.sum_at-else-b-a.ensures ∙ sum_comm binary64 a.b.negative a.a.negative _ _ _
