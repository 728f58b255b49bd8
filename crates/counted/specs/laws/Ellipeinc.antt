-- How many rounds ellipeinc's recipes make in all (02, [3]): at most 64 of RF and 64 of RD; none where no recipe is asked. Assumes nothing.
use Rattle.std.specs.Prelude.{◌≡◌, false, ◌&&◌, ◌||◌, ◌≤◌, ◌<◌, ◌+◌, Float}
use Rattle.std.proofs.Common.{arith}
use Rattle.laws.specs.Arithmetic.{◌⊖◌, ◌⊗◌, ◌⊘◌, ◌<·◌, ◌≤·◌, ◌=·◌, ◌≠·◌, +0, +∞, -∞, 1·0}
use Rattle.whole.specs.Whole.{magnitude_of}
use Rattle.angle.specs.Sine.{sine_of}
use Rattle.answer.specs.Answer.{value_of}
use Rattle.answer.specs.declared.Counted.{Counted}
use Rattle.answer.specs.declared.Term.{Term}
use Rattle.answer.specs.laws.Fair.{rung}
use Rattle.counted.specs.laws.Asked.{asked}
use Rattle.rf.specs.Rf.{rf_of}
use Rattle.rf.specs.laws.Counts.{rf_counts}
use Rattle.rd.specs.Rd.{rd_of}
use Rattle.rd.specs.laws.Counts.{rd_counts}
use Rattle.incomplete.specs.Period.{far_out, folded_of}
use Rattle.incomplete.specs.Scaling.{λ4, large_of}
use Rattle.ellipeinc.specs.Ellipeinc.{own_of, cancelling, two_terms_of, trusted_terms_of, below_of, above_of, recipe_of, by_recipe_of, reduced_of, on_size_of, counted_of}

-- ---- the most
abbrev Few : Term → Type 0
Few t = t.rounds ≤ 128

abbrev FewOf : Counted → Type 0
FewOf c = c.rounds ≤ 128

asked_few : (x y z : Float) → (rf_of x y z).rounds + (rd_of x y z).rounds ≤ 128
asked_few x y z =
    let f = (rf_counts x y z).most in
    let d = (rd_counts x y z).most in
    omega arith

recipe_few : (m s2 c2 : Float) → Few (recipe_of m s2 c2)
unfolding recipe_of below_of two_terms_of trusted_terms_of above_of
recipe_few m s2 c2 =
    let c = 1·0 ⊘ s2 in
    let c1 = c2 ⊘ s2 in
    rung Few (m <· +0 || cancelling <· m) _ _ (rung Few (large_of m c || cancelling <· m) _ _ (asked_few (c1 ⊘ λ4) (c ⊘ λ4 ⊖ m ⊘ λ4) (c ⊘ λ4)) (asked_few c1 (c ⊖ m) c)) (asked_few c1 c (c ⊖ m))

pub ellipeinc_few : (φ m : Float) → (counted_of φ m).rounds ≤ 128
unfolding counted_of on_size_of reduced_of by_recipe_of
ellipeinc_few φ m =
    let size = magnitude_of φ in
    let f = folded_of size in
    let s = value_of (sine_of f.angle) in
    rung FewOf (φ =· +0) _ _ none
    (rung FewOf (m =· +0) _ _ none
    (rung FewOf (size =· +∞) _ _ none
    (rung FewOf (φ ≠· φ && 1·0 <· m) _ _ none
    (rung FewOf (φ ≠· φ || m ≠· m) _ _ none
    (rung FewOf (m =· -∞) _ _ none
    (rung FewOf (far_out <· size) _ _ none
    (rung FewOf (m =· 1·0) _ _ none
    (rung FewOf (own_of f.angle m) _ _ none
    (rung FewOf (1·0 ≤· m ⊗ (s ⊗ s)) _ _ none (recipe_few m _ _))))))))))
  where
    none : 0 ≤ 128
    none = omega arith

-- ---- none, unless every test that asks no recipe has failed
pub record Asked (φ m : Float) : Type 0 where
  pub origin : (φ =· +0) ≡ false
  pub circle : (m =· +0) ≡ false
  pub infinite : (magnitude_of φ =· +∞) ≡ false
  pub domain : (φ ≠· φ && 1·0 <· m) ≡ false
  pub numbers : (φ ≠· φ || m ≠· m) ≡ false
  pub bottom : (m =· -∞) ≡ false
  pub far : (far_out <· magnitude_of φ) ≡ false
  pub line : (m =· 1·0) ≡ false
  pub own : own_of (folded_of (magnitude_of φ)).angle m ≡ false
  pub three : let s = value_of (sine_of (folded_of (magnitude_of φ)).angle) in (1·0 ≤· m ⊗ (s ⊗ s)) ≡ false

pub ellipeinc_asked : (φ m : Float) → 0 < (counted_of φ m).rounds → Asked φ m
unfolding counted_of on_size_of reduced_of by_recipe_of
ellipeinc_asked φ m h =
    let size = magnitude_of φ in
    let f = folded_of size in
    let s = value_of (sine_of f.angle) in
    let a = asked (φ =· +0) _ _ h in
    let b = asked (m =· +0) _ _ a.1 in
    let c = asked (size =· +∞) _ _ b.1 in
    let d = asked (φ ≠· φ && 1·0 <· m) _ _ c.1 in
    let e = asked (φ ≠· φ || m ≠· m) _ _ d.1 in
    let g = asked (m =· -∞) _ _ e.1 in
    let i = asked (far_out <· size) _ _ g.1 in
    let j = asked (m =· 1·0) _ _ i.1 in
    let k = asked (own_of f.angle m) _ _ j.1 in
    let l = asked (1·0 ≤· m ⊗ (s ⊗ s)) _ _ k.1 in
    record { origin = a.0; circle = b.0; infinite = c.0; domain = d.0; numbers = e.0; bottom = g.0; far = i.0; line = j.0; own = k.0; three = l.0 }
