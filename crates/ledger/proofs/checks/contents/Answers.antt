-- The eight words.
use mathlib.Core.List.{[], ◌∷◌}
use Prim.Native.Nat.{◌*◌}
use Rattle.ledger.specs.Sheet.{entries}
use Rattle.ledger.proofs.checks.contents.Goals as goal

pub returns : goal.returns
unfolding entries
returns c = let r = c.args.rows in λ i. c.args.kind ∷ 32 ∷ 48 * r ∷ r ∷ 2 ∷ c.row_place-end.ensures i ∷ 296 ∷ 1 ∷ []
