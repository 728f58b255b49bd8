-- The digits of the highest limbs stand in the buffer; the others are what is left of them.
use Rattle.std.proofs.Common.{◌≡◌, ◌-◌, ◌*◌, ◌++◌, true, length, drop}
use Rattle.total.specs.Total.{val}
use Rattle.text.specs.Text.{digits_of}
use Rattle.placing.specs.Placed.{Placed}
use Rattle.exact.proofs.put_limbs.Given as goal

abbrev pub invariant-loop-limb : goal.invariant-loop-limb
invariant-loop-limb l = let rest = l.limb-iterator.iter.rest.now in
    let digits = 16 * (length l.limbs - length rest) in
    record {
      whole : l.limbs ≡ rest ++ drop (length rest) l.limbs;
      placed : Placed l.initial.out l.out l.from l.at digits (digits_of true 16 digits (val (drop (length rest) l.limbs)));
    }
