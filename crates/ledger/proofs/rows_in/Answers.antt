-- Too short for any, or what the length holds.
use mathlib.Core.Path.{◌≡◌, refl}
use Prim.Native.Nat.{◌-◌}
use native.Mathlib.Omega.{arith}
use lib.ListN.{length}
use Rattle.ledger.specs.Calls.{rows_in}
use Rattle.ledger.proofs.rows_in.Goals as goal

pub returns-then-sheet-lt328 : goal.returns-then-sheet-lt328
unfolding rows_in
returns-then-sheet-lt328 c = let e : length c.args.sheet.now - 328 ≡ 0 = omega arith in rw e

pub returns : goal.returns
unfolding rows_in
returns c = refl
