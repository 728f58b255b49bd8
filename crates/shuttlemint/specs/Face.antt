-- What goes over the face beside the sheet's own calls. Definitions only.
use Rattle.std.specs.Prelude.{ℕ, List, [], ◌∷◌, eqb, length}
use Rattle.std.specs.Float.{binary64}
use Rattle.std.specs.Float.Ieee.{to_bits}
use Rattle.laws.specs.Ladder.{when◌gives◌else◌}
use Rattle.answer.specs.Answer.{refusal_of, first_of, second_of}
use Rattle.sheet.specs.Functions.{evaluate_of}
use Rattle.ledger.specs.Sheet.{row_place}
use Rattle.ledger.specs.Calls.{row_refusal}

-- 7 for an `out` of n numbers, where n is not 2
unfoldable pub evaluate_refusal : ℕ → ℕ → ℕ → ℕ → ℕ → ℕ
evaluate_refusal n f a b c = when eqb n 2 gives refusal_of (evaluate_of f a b c) else 7

-- the two answers' patterns
unfoldable pub evaluate_out : List ℕ → ℕ → ℕ → ℕ → ℕ → List ℕ
evaluate_out out f a b c =
    when eqb (length out) 2 gives to_bits binary64 (first_of (evaluate_of f a b c)) ∷ to_bits binary64 (second_of (evaluate_of f a b c)) ∷ [] else
    out

-- where row i starts; the sheet's length where it can't be read
unfoldable pub row_place_of : List ℕ → ℕ → ℕ
row_place_of s i = when eqb (row_refusal s i) 0 gives row_place i else length s
