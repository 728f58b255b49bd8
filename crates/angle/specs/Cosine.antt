-- The steps of cosine: docs/STEPS.md, "Cosine". Definitions only.
use Rattle.std.specs.Prelude.{Bool, ℕ, ◌^◌, ltb, Float, Result}
use Rattle.std.specs.Float.{binary64}
use Rattle.std.specs.Float.Ieee.{round}
use Rattle.answer.specs.declared.Answer.{Answer}
use Rattle.answer.specs.declared.Refusal.{Refusal}
use Rattle.bounds.specs.Close.{distance_of}
use Rattle.angle.specs.Alternating.{square_of, alternating_of, up_to_four}

-- 1 - x² / 1·2 (1 - x² / 3·4 (.. x² / 41·42)) by x² in units of 2^-59, rounded once
unfoldable pub cosine_by : ℕ → Float
cosine_by t =
    let b = alternating_of t 0 21 in
    round binary64 (ltb b.added b.taken) (distance_of b.added b.taken) (2 ^ 60)

-- of x = ± p / q
unfoldable pub cosine_at : Bool → ℕ → ℕ → Float
cosine_at s p q = cosine_by (square_of p q)

unfoldable pub cosine_of : Float → Result Answer Refusal
cosine_of = up_to_four cosine_at
