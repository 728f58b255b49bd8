-- The three kinds of value by tests: only an infinity equals one, std's tests tell them apart as the definitions do, and what is no finite value is NaN or an infinity. Assumes nothing.
use Rattle.std.specs.Prelude.{◌≡◌, refl, Bool, true, false, cond, not, ◌||◌, Ok, Err, Float}
use Rattle.std.proofs.Common.{ap, ◌∙◌}
use Rattle.std.specs.Float.{nan, inf, fin, float_is_finite, float_is_infinite}
use Rattle.std.specs.Float.Ieee.{eq, lt, of_bits, is_nan}
use Rattle.laws.specs.Arithmetic.{◌=·◌, ◌<·◌, ◌≠·◌, +0, +∞, -∞}
use Rattle.laws.specs.laws.Kinds.{differs_is}
use Rattle.laws.specs.Ladder.{when◌gives◌else◌}
use Rattle.answer.specs.declared.Answer.TheVariants.{One, Infinite}
use Rattle.answer.specs.declared.Refusal.TheVariants.{NotFinite}
use Rattle.answer.specs.Settle.{infinite_of, finite_of, handed_of}

pub infinite_is : (v : Float) → (v =· +∞ || v =· -∞) ≡ infinite_of v
unfolding infinite_of eq of_bits
infinite_is nan = refl
infinite_is (inf true) = refl
infinite_is (inf false) = refl
infinite_is (fin s m e) = refl

pub finite_kinds : (v : Float) → cond (float_is_finite v) (Ok (One v)) (Err NotFinite) ≡ finite_of v
unfolding float_is_finite finite_of
finite_kinds nan = refl
finite_kinds (inf s) = refl
finite_kinds (fin s m e) = refl

pub handed_kinds : (v : Float) → (when is_nan v gives Err NotFinite else when float_is_infinite v gives Ok (Infinite (v <· +0)) else Ok (One v)) ≡ handed_of v
unfolding is_nan float_is_infinite handed_of lt of_bits
handed_kinds nan = refl
handed_kinds (inf s) = refl
handed_kinds (fin s m e) = refl

-- what is no finite value is NaN or an infinity
pub lost_kinds : (v : Float) → (v ≠· v || infinite_of v) ≡ not (float_is_finite v)
unfolding is_nan float_is_finite infinite_of
lost_kinds v = ap (λ (t : Bool). t || infinite_of v) (differs_is v) ∙ kinds v
  where
    kinds : (v : Float) → (is_nan v || infinite_of v) ≡ not (float_is_finite v)
    kinds nan = refl
    kinds (inf s) = refl
    kinds (fin s m e) = refl
