-- What the answers of ellipeinc can be, for every argument. Assumes nothing.
use Rattle.std.specs.Prelude.{[], ◌∷◌, Bool, true, not, ◌&&◌, ◌||◌, T, Float}
use Rattle.std.specs.Float.{binary64}
use Rattle.std.specs.Float.Ieee.{fits, of_bits}
use Rattle.std.specs.Float.Ieee.Fits.{mul-fits}
use Rattle.laws.specs.Arithmetic.{◌⊗◌, ◌<·◌, ◌≤·◌, ◌=·◌, ◌≠·◌, +0, +∞, -∞, 1·0}
use Rattle.whole.specs.Whole.{magnitude_of}
use Rattle.answer.specs.declared.Refusal.TheVariants.{NotANumber, AboveOne, Beyond, Unmet}
use Rattle.answer.specs.Answer.{value_of}
use Rattle.answer.specs.laws.Fair.{May, Fair, FairOf, among, refused, answered, rung, handed_fair}
use Rattle.angle.specs.Sine.{sine_of}
use Rattle.incomplete.specs.declared.Fold.{Fold}
use Rattle.incomplete.specs.Period.{far_out, folded_of}
use Rattle.ellipeinc.specs.Ellipeinc.{sign_of, itself_of, far_of, line_of, own_of, with_periods_of, by_recipe_of, reduced_of, on_size_of, counted_of, ellipeinc_of}

abbrev pub ellipeinc_may : May
ellipeinc_may = record { tests = 1 ∷ 2 ∷ 3 ∷ []; infinite = true }

periods_fair : (sign m mm : Float) (met : Bool) (v : Float) → Fair ellipeinc_may (with_periods_of sign m mm met v)
unfolding with_periods_of among
periods_fair sign m mm met v =
    rung (Fair ellipeinc_may) (mm ≠· +0 && 1·0 <· m) _ _ (refused ellipeinc_may AboveOne tt)
    (rung (Fair ellipeinc_may) (not met) _ _ (refused ellipeinc_may Unmet tt)
    (rung (Fair ellipeinc_may) (mm ≠· +0) _ _ (handed_fair ellipeinc_may _ tt (mul-fits binary64 _ _)) (handed_fair ellipeinc_may _ tt (mul-fits binary64 _ _))))

recipe_fair : (sign m : Float) (f : Fold) → FairOf ellipeinc_may (by_recipe_of sign m f)
unfolding by_recipe_of among
recipe_fair sign m f =
    let s = value_of (sine_of f.angle) in
    rung (FairOf ellipeinc_may) (1·0 ≤· m ⊗ (s ⊗ s)) _ _ (refused ellipeinc_may Beyond tt) (periods_fair sign m _ _ _)

reduced_fair : (sign size m : Float) → FairOf ellipeinc_may (reduced_of sign size m)
unfolding reduced_of
reduced_fair sign size m =
    let f = folded_of size in
    rung (FairOf ellipeinc_may) (own_of f.angle m) _ _ (periods_fair sign m _ _ _) (recipe_fair sign m f)

size_fair : (sign size m : Float) → FairOf ellipeinc_may (on_size_of sign size m)
unfolding on_size_of far_of line_of among
size_fair sign size m =
    rung (FairOf ellipeinc_may) (far_out <· size) _ _ (rung (Fair ellipeinc_may) (1·0 <· m) _ _ (refused ellipeinc_may AboveOne tt) (handed_fair ellipeinc_may _ tt (mul-fits binary64 _ _)))
    (rung (FairOf ellipeinc_may) (m =· 1·0) _ _ (handed_fair ellipeinc_may _ tt (mul-fits binary64 _ _)) (reduced_fair sign size m))

pub ellipeinc_fair : (φ m : Float) → T (fits binary64 φ) → Fair ellipeinc_may (ellipeinc_of φ m)
unfolding ellipeinc_of counted_of itself_of of_bits fits Fair among
ellipeinc_fair φ m F =
    rung (FairOf ellipeinc_may) (φ =· +0) _ _ (answered ellipeinc_may +0 tt)
    (rung (FairOf ellipeinc_may) (m =· +0) _ _ (rung (Fair ellipeinc_may) (φ ≠· φ) _ _ (refused ellipeinc_may NotANumber tt) (handed_fair ellipeinc_may φ tt F))
    (rung (FairOf ellipeinc_may) (magnitude_of φ =· +∞) _ _ tt
    (rung (FairOf ellipeinc_may) (φ ≠· φ && 1·0 <· m) _ _ (refused ellipeinc_may AboveOne tt)
    (rung (FairOf ellipeinc_may) (φ ≠· φ || m ≠· m) _ _ (refused ellipeinc_may NotANumber tt)
    (rung (FairOf ellipeinc_may) (m =· -∞) _ _ tt (size_fair (sign_of φ) (magnitude_of φ) m))))))
