-- What is promised of each of the three functions, for every f64 (01: refusals exactly 1 for NaN and 2 for m > 1, NaN never handed out). Definitions only.
use Rattle.std.specs.Prelude.{◌≡◌, ℕ, T, Float, Result}
use Rattle.std.specs.Float.{binary64}
use Rattle.std.specs.Float.Ieee.{fits}
use Rattle.laws.specs.Arithmetic.{◌<·◌, ◌≠·◌, 1·0}
use Rattle.laws.specs.Ladder.{when◌gives◌else◌}
use Rattle.answer.specs.Answer.{refusal_of}
use Rattle.answer.specs.Sound.{Sound}
use Rattle.answer.specs.declared.Answer.{Answer}
use Rattle.answer.specs.declared.Refusal.{Refusal}

-- 1 for NaN, 2 above 1, and 0 where there is an answer
unfoldable pub refused_of : Float → ℕ
refused_of m = when m ≠· m gives 1 else when 1·0 <· m gives 2 else 0

pub record Answers (f : Float → Result Answer Refusal) : Type 0 where
  pub refusal : (m : Float) → refusal_of (f m) ≡ refused_of m
  pub sound : (m : Float) → T (fits binary64 m) → Sound (f m)
