-- The code tells the three kinds of value apart by tests: `v != v` holds of NaN alone. Assumes nothing.
use Rattle.std.specs.Prelude.{◌≡◌, refl, Bool, cond, ◌||◌, Float, Ok, Err}
use Rattle.std.proofs.Common.{◌∙◌, ap}
use Rattle.std.specs.Float.{nan, inf, fin}
use Rattle.std.specs.Float.Ieee.{lt, of_bits, is_nan}
use Rattle.laws.specs.Arithmetic.{◌<·◌, ◌≠·◌, +0}
use Rattle.laws.specs.Ladder.{when◌gives◌else◌}
use Rattle.laws.specs.laws.Kinds.{differs_is}
use Rattle.answer.specs.declared.Answer.TheVariants.{One, Infinite}
use Rattle.answer.specs.declared.Refusal.TheVariants.{NotFinite}
use Rattle.answer.specs.Settle.{infinite_of, finite_of, handed_of}

pub finite_is : (v : Float) → cond (v ≠· v || infinite_of v) (Err NotFinite) (Ok (One v)) ≡ finite_of v
unfolding is_nan infinite_of finite_of
finite_is v = ap (λ (t : Bool). cond (t || infinite_of v) (Err NotFinite) (Ok (One v))) (differs_is v) ∙ kinds v
  where
    kinds : (v : Float) → cond (is_nan v || infinite_of v) (Err NotFinite) (Ok (One v)) ≡ finite_of v
    kinds nan = refl
    kinds (inf s) = refl
    kinds (fin s m e) = refl

pub handed_is : (v : Float) → (when v ≠· v gives Err NotFinite else when infinite_of v gives Ok (Infinite (v <· +0)) else Ok (One v)) ≡ handed_of v
unfolding is_nan infinite_of handed_of lt of_bits
handed_is v = ap (λ (t : Bool). cond t (Err NotFinite) (cond (infinite_of v) (Ok (Infinite (v <· +0))) (Ok (One v)))) (differs_is v) ∙ kinds v
  where
    kinds : (v : Float) → cond (is_nan v) (Err NotFinite) (cond (infinite_of v) (Ok (Infinite (v <· +0))) (Ok (One v))) ≡ handed_of v
    kinds nan = refl
    kinds (inf s) = refl
    kinds (fin s m e) = refl
