-- The first word of a sheet is 3 or 1.
use mathlib.Core.Path.{◌∙◌, ap}
use Prim.Native.Nat.{ℕ}
use native.Mathlib.Omega.{arith}
use lib.Dec.{eqb}
use Rattle.ledger.specs.laws.Refusals.{sheet_length}
use Rattle.ledger.proofs.Words.{part_4}
use Rattle.ledger.proofs.Tested.{by_first_word}
use Rattle.ledger.proofs.checks.keeps_times.Goals as goal

pub part-requires : goal.part-requires
part-requires c = (omega arith, omega (arith, sheet_length c.args.s.now c.requires))

pub returns : goal.returns
returns c = ap (λ (n : ℕ). eqb n 3) (part_4 c.args.s.now 0 _ _ (omega (arith, sheet_length c.args.s.now c.requires)) c.part.ensures c.from_le_bytes.ensures) ∙ by_first_word c.args.s.now c.requires
