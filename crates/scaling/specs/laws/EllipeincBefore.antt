-- Where ellipeinc does not scale it answers as before the change for far_out arguments, after as many rounds. Assumes nothing.
use Rattle.std.specs.Prelude.{◌≡◌, Bool, true, false, cond, ◌||◌, ◌&&◌, T, Float}
use Rattle.std.proofs.Math.Path.{refl, ap}
use Rattle.std.proofs.Common.{sym, ◌∙◌, true≢false}
use Rattle.std.specs.Float.{binary64, nan, inf, fin}
use Rattle.std.specs.Float.Ieee.{fits, of_bits, lt, eq, ne, add, sub, sum, mul, div, rem, neg, round}
use Rattle.std.specs.Float.Ieee.Scale.{finite}
use Rattle.laws.specs.Arithmetic.{◌⊖◌, ◌⊗◌, ◌⊘◌, ◌<·◌, ◌≤·◌, ◌=·◌, ◌≠·◌, +0, +∞, -∞, ½, 1·0}
use Rattle.laws.specs.Ladder.{passed}
use Rattle.whole.specs.Whole.{magnitude_of, round_of}
use Rattle.answer.specs.Answer.{value_of}
use Rattle.answer.specs.declared.Counted.{Counted}
use Rattle.answer.specs.declared.Term.{Term}
use Rattle.angle.specs.Alternating.{square_of, alternating_of, up_to_four}
use Rattle.angle.specs.Sine.{sine_at, sine_of}
use Rattle.incomplete.specs.Period.{far_out, folded_of}
use Rattle.incomplete.specs.Scaling.{large_of}
use Rattle.ellipeinc.specs.Ellipeinc.{sign_of, own_of, two_terms_of, below_of, cancelling, above_of, recipe_of, with_periods_of, by_recipe_of, reduced_of, on_size_of, counted_of}
use Rattle.scaling.specs.Before.{Same, angle_of, sin_of, cos_of, C, C1, Given}
use Rattle.scaling.specs.EllipeincBefore.{two_terms_before, above_before, recipe_before, by_recipe_before, reduced_before, on_size_before, ellipeinc_before, Unscaled, EllipeincAsBefore}
use Rattle.scaling.specs.laws.Folded.{neither}
use Rattle.scaling.specs.laws.Before.{as_before}

-- what holds in each case of a test holds of both ladders
pub by_test : {A : Type 0} (Q : A → A → Type 0) {a b c d : A} (t : Bool) → Q a c → (t ≡ false → Q b d) → Q (cond t a b) (cond t c d)
by_test Q true p q = p
by_test Q false p q = q refl

abbrev Equal : Counted → Counted → Type 0
Equal before now = now ≡ before

-- ---- the terms: RF is as before, and RD and all else are the same

two_terms_same : (m c c1 : Float) → Same c1 (c ⊖ m) c → two_terms_of m c c1 ≡ two_terms_before m c c1
unfolding two_terms_before two_terms_of
two_terms_same m c c1 e = rw (e)

above_same : (m c c1 : Float) → Same c1 c (c ⊖ m) → above_of m c c1 ≡ above_before m c c1
unfolding above_before above_of
above_same m c c1 e = rw (e)

-- where nothing is scaled
below_unscaled : (m c c1 : Float) → large_of m c ≡ false → cancelling <· m ≡ false → two_terms_of m c c1 ≡ below_of m c c1
unfolding below_of
below_unscaled m c c1 l a = passed _ _ (λ i. l i || a i) refl

recipe_same : (m s2 c2 : Float) → cancelling <· m ≡ false → (m <· +0 ≡ true → large_of m (1·0 ⊘ s2) ≡ false) → (m <· +0 ≡ true → Same (c2 ⊘ s2) (1·0 ⊘ s2 ⊖ m) (1·0 ⊘ s2)) → (m <· +0 ≡ false → Same (c2 ⊘ s2) (1·0 ⊘ s2) (1·0 ⊘ s2 ⊖ m))
    → recipe_of m s2 c2 ≡ recipe_before m s2 c2
unfolding recipe_before recipe_of
recipe_same m s2 c2 a l below over = go (m <· +0) refl
  where
    c : Float
    c = 1·0 ⊘ s2

    c1 : Float
    c1 = c2 ⊘ s2

    go : (t : Bool) → m <· +0 ≡ t → cond (t || cancelling <· m) (below_of m c c1) (above_of m c c1) ≡ cond t (two_terms_before m c c1) (above_before m c c1)
    go true e = sym (below_unscaled m c c1 (l e) a) ∙ two_terms_same m c c1 (below e)
    go false e = sym (passed (below_of m c c1) (above_of m c c1) a refl) ∙ above_same m c c1 (over e)

-- ---- the answer

module _ (φ m : Float) (g : Given φ m) (u : Unscaled φ m) where
  recipe : own_of (angle_of φ) m ≡ false → recipe_of m (sin_of φ ⊗ sin_of φ) (cos_of φ ⊗ cos_of φ) ≡ recipe_before m (sin_of φ ⊗ sin_of φ) (cos_of φ ⊗ cos_of φ)
  recipe o = recipe_same m (sin_of φ ⊗ sin_of φ) (cos_of φ ⊗ cos_of φ) u.not-above u.not_large (λ t. as_before.ellipeinc_below φ m g (u.not_large t)) (λ t. as_before.ellipeinc_above φ m g o (λ i. t i || u.not-above i))

  by_recipe : (sign : Float) → own_of (angle_of φ) m ≡ false → by_recipe_of sign m (folded_of (magnitude_of φ)) ≡ by_recipe_before sign m (folded_of (magnitude_of φ))
  unfolding by_recipe_before by_recipe_of
  by_recipe sign o =
      let f = folded_of (magnitude_of φ) in
      by_test Equal (1·0 ≤· m ⊗ (sin_of φ ⊗ sin_of φ)) refl (λ _. ap (λ (e : Term). record { answer = with_periods_of sign m f.mm e.met (f.s ⊗ e.value); rounds = e.rounds }) (recipe o))

  reduced : (sign : Float) → reduced_of sign (magnitude_of φ) m ≡ reduced_before sign (magnitude_of φ) m
  unfolding reduced_before reduced_of
  reduced sign = by_test Equal (own_of (angle_of φ) m) refl (by_recipe sign)

  on_size : (sign : Float) → on_size_of sign (magnitude_of φ) m ≡ on_size_before sign (magnitude_of φ) m
  unfolding on_size_before on_size_of
  on_size sign = by_test Equal (far_out <· magnitude_of φ) refl (λ _. by_test Equal (m =· 1·0) refl (λ _. reduced sign))

-- past the tests φ is finite
angles : (φ : Float) → φ ≠· φ ≡ false → magnitude_of φ =· +∞ ≡ false → T (finite φ)
unfolding eq ne of_bits magnitude_of
angles nan a b = absurd (true≢false a)
angles (inf s) a b = absurd (true≢false b)
angles (fin s q e) a b = tt

counted_same : (φ m : Float) → T (fits binary64 m) → Unscaled φ m → counted_of φ m ≡ ellipeinc_before φ m
unfolding ellipeinc_before counted_of
counted_same φ m f64 u =
    by_test Equal (φ =· +0) refl (λ _.
    by_test Equal (m =· +0) refl (λ _.
    by_test Equal (magnitude_of φ =· +∞) refl (λ a.
    by_test Equal (φ ≠· φ && 1·0 <· m) refl (λ _.
    by_test Equal (φ ≠· φ || m ≠· m) refl (λ b.
    by_test Equal (m =· -∞) refl (λ _.
    let d = neither (φ ≠· φ) (m ≠· m) b in
    on_size φ m (record { finite_φ = angles φ d.0 a; f64_m = f64; number_m = d.1 }) u (sign_of φ)))))))

pub ellipeinc_as_before : EllipeincAsBefore
ellipeinc_as_before = record {
  two_terms = λ φ m g l. two_terms_same m (C φ) (C1 φ) (as_before.ellipeinc_below φ m g l);
  three_terms = λ φ m g o t. above_same m (C φ) (C1 φ) (as_before.ellipeinc_above φ m g o t);
  ellipeinc = counted_same;
}

-- ---- the tests come out so somewhere: at φ = 1 and m = -1/2
pub unscaled_point : Unscaled 1·0 (neg ½)
unfolding large_of folded_of sine_of sine_at up_to_four square_of alternating_of value_of magnitude_of round_of of_bits fits lt eq ne add sub sum mul div rem neg round
unscaled_point = record { not-above = refl; not_large = λ _. refl }
