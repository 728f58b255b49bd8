-- The steps of sine: docs/STEPS.md, "Sine". Definitions only.
use Rattle.std.specs.Prelude.{Bool, ℕ, ◌*◌, ◌^◌, ltb, Float, Result}
use Rattle.std.specs.Float.{binary64}
use Rattle.std.specs.Float.Ieee.{unlike, round}
use Rattle.answer.specs.declared.Answer.{Answer}
use Rattle.answer.specs.declared.Refusal.{Refusal}
use Rattle.bounds.specs.Close.{distance_of}
use Rattle.angle.specs.Alternating.{square_of, alternating_of, up_to_four}

-- x (1 - x² / 2·3 (1 - x² / 4·5 (.. x² / 40·41))) of x = ± p / q, the product exact and rounded once
unfoldable pub sine_at : Bool → ℕ → ℕ → Float
sine_at s p q =
    let b = alternating_of (square_of p q) 1 20 in
    round binary64 (unlike s (ltb b.added b.taken)) (p * distance_of b.added b.taken) (q * 2 ^ 60)

unfoldable pub sine_of : Float → Result Answer Refusal
sine_of = up_to_four sine_at
