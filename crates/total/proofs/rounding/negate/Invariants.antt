-- The invariant: the digits passed are turned over.
use Rattle.total.proofs.FirstLimbs.{Turned}
use Rattle.total.proofs.rounding.negate.Given as goal

abbrev pub invariant-loop-limb : goal.invariant-loop-limb
invariant-loop-limb l = Turned l.initial.limbs l.limbs l.limb-index
