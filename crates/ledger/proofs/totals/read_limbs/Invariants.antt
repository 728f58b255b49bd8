-- The limbs so far are the number in the bytes so far.
use Rattle.std.proofs.Common.{◌≡◌, ◌*◌, take}
use Rattle.total.specs.Total.{val}
use Rattle.ledger.specs.Bytes.{number}
use Rattle.ledger.proofs.totals.read_limbs.Given as goal

abbrev pub invariant-loop-i : goal.invariant-loop-i
invariant-loop-i l = val (take l.i l.limb-items) ≡ number (take (8 * l.i) l.s)
