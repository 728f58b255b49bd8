-- ellipf without its reduction, which is what it is where m ≥ 1 (laws: Ellipf, `without-k`). Definitions only.
use Rattle.std.specs.Prelude.{Float, Result, Err}
use Rattle.laws.specs.Arithmetic.{◌⊗◌, ◌≤·◌, 1·0}
use Rattle.laws.specs.Ladder.{when◌gives◌else◌}
use Rattle.answer.specs.declared.Answer.{Answer}
use Rattle.answer.specs.declared.Refusal.{Refusal}
use Rattle.answer.specs.declared.Refusal.TheVariants.{Beyond}
use Rattle.answer.specs.Answer.{value_of}
use Rattle.angle.specs.Sine.{sine_of}
use Rattle.angle.specs.Cosine.{cosine_of}
use Rattle.whole.specs.Whole.{magnitude_of}
use Rattle.ellipf.specs.Ellipf.{signum_of, recipe_of, closed_of}

unfoldable pub unreduced_of : Float → Float → Result Answer Refusal
unreduced_of φ m =
    let sine = value_of (sine_of (magnitude_of φ)) in
    let t = recipe_of 1·0 m sine (value_of (cosine_of (magnitude_of φ))) in
    when 1·0 ≤· m ⊗ (sine ⊗ sine) gives Err Beyond else
    closed_of m t.met (signum_of φ ⊗ t.value)
