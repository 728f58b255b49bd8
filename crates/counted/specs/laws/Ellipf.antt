-- How many rounds ellipf's recipe makes (02, [3]): at most 64; none where it is not asked. Assumes nothing.
use Rattle.std.specs.Prelude.{◌≡◌, false, ◌||◌, ◌≤◌, ◌<◌, Float}
use Rattle.std.proofs.Common.{arith}
use Rattle.laws.specs.Arithmetic.{◌⊖◌, ◌⊗◌, ◌⊘◌, ◌<·◌, ◌≤·◌, ◌=·◌, ◌≠·◌, +0, 1·0}
use Rattle.whole.specs.Whole.{magnitude_of}
use Rattle.angle.specs.Sine.{sine_of}
use Rattle.answer.specs.Answer.{value_of}
use Rattle.answer.specs.Settle.{infinite_of}
use Rattle.answer.specs.declared.Counted.{Counted}
use Rattle.answer.specs.declared.Term.{Term}
use Rattle.answer.specs.laws.Fair.{rung}
use Rattle.counted.specs.laws.Asked.{asked}
use Rattle.rf.specs.laws.Counts.{rf_counts}
use Rattle.incomplete.specs.Period.{far_out, folded_of}
use Rattle.incomplete.specs.Scaling.{λ4, large_of}
use Rattle.ellipf.specs.Ellipf.{pole_of, middle_of, recipe_of, reduced_of, counted_of}

-- ---- the most
abbrev Few : Term → Type 0
Few t = t.rounds ≤ 64

abbrev FewOf : Counted → Type 0
FewOf c = c.rounds ≤ 64

recipe_few : (s m sine cosine : Float) → Few (recipe_of s m sine cosine)
unfolding recipe_of
recipe_few s m sine cosine =
    let c2 = cosine ⊗ cosine in
    let c = 1·0 ⊘ (sine ⊗ sine) in
    let c1 = c2 ⊘ (sine ⊗ sine) in
    let y = middle_of m c c1 in
    rung Few (infinite_of c) _ _ (rf_counts c2 (1·0 ⊖ m ⊗ sine ⊗ sine) 1·0).most (rung Few (large_of m c) _ _ (rf_counts (c1 ⊘ λ4) (y ⊘ λ4) (c ⊘ λ4)).most (rf_counts c1 y c).most)

pub ellipf_few : (φ m : Float) → (counted_of φ m).rounds ≤ 64
unfolding counted_of reduced_of
ellipf_few φ m =
    let s = value_of (sine_of (folded_of (magnitude_of φ)).angle) in
    rung FewOf (φ ≠· φ || m ≠· m) _ _ none
    (rung FewOf (m =· +0) _ _ none
    (rung FewOf (pole_of φ m) _ _ none
    (rung FewOf (far_out <· magnitude_of φ) _ _ none
    (rung FewOf (1·0 ≤· m ⊗ (s ⊗ s)) _ _ none (recipe_few _ m _ _)))))
  where
    none : 0 ≤ 64
    none = omega arith

-- ---- none, unless every test that asks no recipe has failed
pub record Asked (φ m : Float) : Type 0 where
  pub numbers : (φ ≠· φ || m ≠· m) ≡ false
  pub circle : (m =· +0) ≡ false
  pub pole : pole_of φ m ≡ false
  pub far : (far_out <· magnitude_of φ) ≡ false
  pub three : let s = value_of (sine_of (folded_of (magnitude_of φ)).angle) in (1·0 ≤· m ⊗ (s ⊗ s)) ≡ false

pub ellipf_asked : (φ m : Float) → 0 < (counted_of φ m).rounds → Asked φ m
unfolding counted_of reduced_of
ellipf_asked φ m h =
    let s = value_of (sine_of (folded_of (magnitude_of φ)).angle) in
    let a = asked (φ ≠· φ || m ≠· m) _ _ h in
    let b = asked (m =· +0) _ _ a.1 in
    let c = asked (pole_of φ m) _ _ b.1 in
    let d = asked (far_out <· magnitude_of φ) _ _ c.1 in
    let e = asked (1·0 ≤· m ⊗ (s ⊗ s)) _ _ d.1 in
    record { numbers = a.0; circle = b.0; pole = c.0; far = d.0; three = e.0 }
