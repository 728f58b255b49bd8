-- `lower` meets its contract.
use mathlib.Core.Path.{refl}
use lib.Dec.{lit≤}
use Rattle.floor.proofs.Fractions.{lower_far, lower_le}
use Rattle.floor.proofs.lower.Goals as goal

pub returns-then-s-ge64 : goal.returns-then-s-ge64
returns-then-s-ge64 c = (lower_far c.args.w c.args.s c.requires c.if-s-ge64.true, lit≤ tt)

pub returns-else-s-ge64 : goal.returns-else-s-ge64
returns-else-s-ge64 c = (refl, lower_le c.args.w c.args.s c.requires)
