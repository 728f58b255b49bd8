-- What the answers of ellipf can be, for every argument. Assumes nothing.
use Rattle.std.specs.Prelude.{[], ◌∷◌, Bool, true, not, ◌&&◌, ◌||◌, T, Float}
use Rattle.std.specs.Float.{binary64}
use Rattle.std.specs.Float.Ieee.{fits, of_bits}
use Rattle.std.specs.Float.Ieee.Fits.{mul-fits}
use Rattle.laws.specs.Arithmetic.{◌⊗◌, ◌<·◌, ◌≤·◌, ◌=·◌, ◌≠·◌, +0, +∞, -∞, 1·0}
use Rattle.whole.specs.Whole.{magnitude_of}
use Rattle.answer.specs.declared.Refusal.TheVariants.{NotANumber, Beyond}
use Rattle.answer.specs.Answer.{value_of}
use Rattle.answer.specs.laws.Fair.{May, Fair, FairOf, among, refused, answered, rung, settled_fair, handed_fair}
use Rattle.angle.specs.Sine.{sine_of}
use Rattle.answer.specs.declared.Term.{Term}
use Rattle.answer.specs.Settle.{infinite_of}
use Rattle.incomplete.specs.Period.{far_out, folded_of}
use Rattle.ellipf.specs.Ellipf.{signum_of, pole_of, far_of, closed_of, with_periods_of, reduced_of, counted_of, ellipf_of}

-- not 2: ellipk's own refusal does not arise
abbrev pub ellipf_may : May
ellipf_may = record { tests = 1 ∷ 3 ∷ []; infinite = true }

closed_fair : (m : Float) (met : Bool) (v : Float) → T (fits binary64 v) → Fair ellipf_may (closed_of m met v)
unfolding closed_of of_bits fits
closed_fair m met v h = rung (Fair ellipf_may) (m =· -∞ && (not met || (v ≠· v || infinite_of v))) _ _ (answered ellipf_may +0 tt) (settled_fair ellipf_may met v h)

periods_fair : (sign m mm : Float) (t : Term) → Fair ellipf_may (with_periods_of sign m mm t)
unfolding with_periods_of
periods_fair sign m mm t = rung (Fair ellipf_may) (mm ≠· +0) _ _ (closed_fair m t.met _ (mul-fits binary64 _ _)) (closed_fair m t.met _ (mul-fits binary64 _ _))

reduced_fair : (sign size m : Float) → FairOf ellipf_may (reduced_of sign size m)
unfolding reduced_of among
reduced_fair sign size m =
    let s = value_of (sine_of (folded_of size).angle) in
    rung (FairOf ellipf_may) (1·0 ≤· m ⊗ (s ⊗ s)) _ _ (refused ellipf_may Beyond tt) (periods_fair sign m _ _)

pub ellipf_fair : (φ m : Float) → T (fits binary64 φ) → Fair ellipf_may (ellipf_of φ m)
unfolding ellipf_of counted_of far_of among
ellipf_fair φ m F =
    let size = magnitude_of φ in
    rung (FairOf ellipf_may) (φ ≠· φ || m ≠· m) _ _ (refused ellipf_may NotANumber tt)
    (rung (FairOf ellipf_may) (m =· +0) _ _ (handed_fair ellipf_may φ tt F)
    (rung (FairOf ellipf_may) (pole_of φ m) _ _ (refused ellipf_may Beyond tt)
    (rung (FairOf ellipf_may) (far_out <· size) _ _ (rung (Fair ellipf_may) (size =· +∞) _ _ (handed_fair ellipf_may _ tt (mul-fits binary64 _ _)) (handed_fair ellipf_may _ tt (mul-fits binary64 _ _))) (reduced_fair (signum_of φ) size m))))
