-- The invariant: the limbs and what is left to carry are in balance with the word asked for.
use Rattle.std.proofs.Common.{◌≡◌, ◌+◌, ◌*◌, length}
use Rattle.total.specs.Total.{val}
use Rattle.total.specs.Carry.{W, Balance}
use Rattle.total.specs.laws.Limbs.{Fit}
use Rattle.total.proofs.Lent.{joined}
use Rattle.total.proofs.limbs.ripple.Given as goal

abbrev pub invariant-loop-limb : goal.invariant-loop-limb
invariant-loop-limb l = record {
  whole : length (joined l.at l.fn.limbs l.limb-items) ≡ 34;
  fit : Fit (joined l.at l.fn.limbs l.limb-items);
  balance : Balance l.negative (val (joined l.at l.fn.limbs l.limb-items)) (val l.fn.limbs) (W l.at * l.word) (W (l.at + l.limb-index) * l.carry);
}
