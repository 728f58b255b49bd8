-- RF(0, 1 - m, 1), as ellippi asks it, has the bits that it had, for every finite m. Assumes nothing.
use Rattle.std.specs.Prelude.{◌≡◌, refl, ◌⊎◌, Bool, false, ℕ, ◌+◌, ◌*◌, ◌^◌, ◌≤◌, ◌<◌, Float}
use Rattle.std.proofs.Common.{sym, ap, ◌∙◌, inl, inr, le_trans, le_of_eq, le_of_lt, lt_of_lt_of_le, add_comm, mul-one, mul-le-mul_right, arith, lit≤, lit<, pow_pos}
use Rattle.std.proofs.Math.Path.{subst}
use Rattle.std.proofs.Math.Dec.{T}
use Rattle.std.specs.Float.{binary64}
use Rattle.std.specs.Float.Ieee.{round, fits, of_bits, div}
use Rattle.std.specs.Float.Ieee.Exact.{HasValue}
use Rattle.std.specs.Float.Ieee.Fits.{sub-fits, div-fits}
use Rattle.std.specs.Float.Ieee.Scale.{finite, grid}
use Rattle.laws.specs.Arithmetic.{◌⊕◌, ◌⊖◌, ◌⊗◌, ◌⊘◌, +0, 1·0, 3·0, 4·0}
use Rattle.laws.specs.laws.Bounds.{Small, double, small, small_round, small_div, small_mul}
use Rattle.laws.specs.laws.Flags.{lt-or-le}
use Rattle.laws.specs.laws.Sizes.{finite_of_lem, grid_least, units-same}
use Rattle.scaling.specs.Clear.{ClearQuotient}
use Rattle.scaling.specs.Before.{Same, ClearMeans}
use Rattle.scaling.specs.laws.Operations.{Times, undivided}
use Rattle.scaling.specs.laws.Multiples.{Coarse, coarse_summed, coarse_quarter, coarse_at, added, taken, rounded, within_four}
use Rattle.scaling.specs.laws.Ranges.{apart}
use Rattle.scaling.specs.laws.Most.{top, most, size-most, summed_small, small_finite, zero-plus}
use Rattle.scaling.specs.laws.Moderate.{clear_over, within-three, coarse_finite, finite_small, rf_as_before-moderate}
use Rattle.scaling.specs.laws.Quarters.{rf_as_before}
use Rattle.scaling.specs.laws.Arguments.{one_less}

-- ---- 1 and its quarter, in units
coarse_one : Coarse 1000 1074 1·0
unfolding of_bits
coarse_one = record { sign = false; count = 2 ^ 74; value = (refl, refl); most = lit≤ tt }

one_value : HasValue 1·0 false (2 ^ 1074) (2 ^ 1074)
unfolding of_bits
one_value = (refl, refl)

quarter-value : HasValue (1·0 ⊘ 4·0) false (2 ^ 1072) (2 ^ 1074)
unfolding div round of_bits
quarter-value = (refl, refl)

zero-quarter : +0 ⊘ 4·0 ≡ +0
unfolding div round of_bits
zero-quarter = refl

-- ---- y of 2 ^ 398 at least: only 1 is added to it, and to its quarter a quarter
module _ (y : Float) (fy : T (fits binary64 y)) (s : Bool) (n : ℕ) (v : HasValue y s n (2 ^ 1074)) (l : 2 ^ 1472 ≤ n) where
  c : Coarse 1000 2098 y
  c = coarse_at 1000 2098 y s n fy v (le_trans (lit≤ tt) l) (le_trans (most y s n fy v) (lit≤ tt))

  fine : T (finite y)
  fine = finite_of_lem y s n (2 ^ 1074) v

  over_four : ClearQuotient y 4·0
  unfolding of_bits
  over_four = clear_over 998 2096 4·0 tt within_four (lit< tt) (lit< tt) (lit< tt) (lit≤ tt) c

  q : Coarse 998 2096 (y ⊘ 4·0)
  q = coarse_quarter 998 2096 (lit< tt) (lit≤ tt) c

  t : Times 2 0 (y ⊘ 4·0) y
  unfolding of_bits
  t = undivided 2 4·0 y (refl, refl) fine fy over_four

  -- four quarters
  four : t.before * 4 ≡ n
  four = t.ratio ∙ mul-one t.after ∙ units-same y t.sign s t.after n (2 ^ 1074) t.second v

  some : 0 < t.before
  some = go t.before n four (lt_of_lt_of_le (pow_pos 1472) l)
    where
      go : (b n : ℕ) → b * 4 ≡ n → 0 < n → 0 < b
      go b n e h = omega arith

  two : +0 ⊕ y ≡ y
  two = zero-plus y s n fy v (lt_of_lt_of_le (pow_pos 1472) l)

  two_quarters : +0 ⊘ 4·0 ⊕ y ⊘ 4·0 ≡ y ⊘ 4·0
  two_quarters = ap (λ (z : Float). z ⊕ y ⊘ 4·0) zero-quarter ∙ zero-plus (y ⊘ 4·0) t.sign t.before (div-fits binary64 y 4·0) t.first some

  three : Coarse 1000 2098 (y ⊕ 1·0)
  three =
      coarse_summed 1000 2098 c.count coarse_one.count (y ⊕ 1·0)
      (summed_small n (2 ^ 1074) (y ⊕ 1·0) (plus (2 ^ 1074) (most y s n fy v)) (added y 1·0 s false n (2 ^ 1074) v one_value))
      (added y 1·0 c.sign coarse_one.sign (c.count * 2 ^ 1000) (coarse_one.count * 2 ^ 1000) c.value coarse_one.value)
    where
      plus : (u : ℕ) {a b : ℕ} → a ≤ b → a + u ≤ b + u
      plus u h = omega arith

  -- at most 2 ^ 1022, so that four thirds of it do not overflow
  quarters : Small 2096 (y ⊘ 4·0 ⊕ 1·0 ⊘ 4·0)
  quarters =
      let u = added (y ⊘ 4·0) (1·0 ⊘ 4·0) t.sign false t.before (2 ^ 1072) t.first quarter-value in
      let h : u.size ≤ 2 ^ 2096 = le_trans (size-most u.size t.before (2 ^ 1072) u.how) (fourth t.before n top (2 ^ 1072) (2 ^ 2096) four (most y s n fy v) (lit≤ tt)) in
      subst (Small 2096) (sym u.is) (small_round u.sign u.size (2 ^ 1074) 2096 (pow_pos 1074) (lit< tt) (mul-le-mul_right (2 ^ 1074) h))
    where
      fourth : (b n m u p : ℕ) → b * 4 ≡ n → n ≤ m → m + u * 4 ≤ p * 4 → b + u ≤ p
      fourth b n m u p e h k = omega arith

  three_quarters : Coarse 998 2096 (y ⊘ 4·0 ⊕ 1·0 ⊘ 4·0)
  three_quarters =
      let o = coarse_quarter 998 1074 (lit< tt) (lit≤ tt) coarse_one in
      coarse_summed 998 2096 q.count o.count (y ⊘ 4·0 ⊕ 1·0 ⊘ 4·0) quarters (added (y ⊘ 4·0) (1·0 ⊘ 4·0) q.sign o.sign (q.count * 2 ^ 998) (o.count * 2 ^ 998) q.value o.value)

  third : Small 2095 ((y ⊘ 4·0 ⊕ 1·0 ⊘ 4·0) ⊘ 3·0)
  third = small_div 2095 (lit< tt) (lit≤ tt) quarters within-three

  far_clear : ClearMeans +0 y 1·0
  unfolding of_bits div round
  far_clear = record {
    finite_x = tt;
    finite_y = fine;
    finite_z = tt;
    quarter_x = tt;
    quarter_y = over_four;
    quarter-z = tt;
    two = subst (λ (z : Float). T (finite z)) (sym two) fine;
    three = subst (λ (z : Float). T (finite (z ⊕ 1·0))) (sym two) (coarse_finite three);
    two_quarters = subst (λ (z : Float). T (finite z)) (sym two_quarters) (coarse_finite q);
    three_quarters = subst (λ (z : Float). T (finite (z ⊕ 1·0 ⊘ 4·0))) (sym two_quarters) (coarse_finite three_quarters);
    mean = subst (λ (z : Float). ClearQuotient (z ⊕ 1·0) 3·0) (sym two) (clear_over 998 2097 3·0 tt within-three (lit< tt) (lit< tt) (lit< tt) (lit≤ tt) three);
    mean_quarters = subst (λ (z : Float). ClearQuotient (z ⊕ 1·0 ⊘ 4·0) 3·0) (sym two_quarters) (clear_over 996 2096 3·0 tt within-three (lit< tt) (lit< tt) (lit< tt) (lit≤ tt) three_quarters);
    finite_quartered = subst (λ (z : Float). T (finite ((z ⊕ 1·0 ⊘ 4·0) ⊘ 3·0))) (sym two_quarters) (finite_small third);
    finite_before = subst (λ (z : Float). T (finite (4·0 ⊗ ((z ⊕ 1·0 ⊘ 4·0) ⊘ 3·0)))) (sym two_quarters) (finite_small (small_mul 2097 (lit< tt) (lit≤ tt) (small within_four) third));
  }

-- ---- every finite m: small ones leave a moderate 1 - m, large ones a large one
pub rest_same : (m : Float) → T (fits binary64 m) → T (finite m) → Same +0 (1·0 ⊖ m) 1·0
unfolding of_bits fits
rest_same m f h = go (lt-or-le v.units (2 ^ 1473))
  where
    v : Small 2098 m
    v = small_finite m f h

    turned : {d a b : ℕ} → (d ≡ a + b) ⊎ ((d + b ≡ a) ⊎ (d + a ≡ b)) → (d ≡ b + a) ⊎ ((d + a ≡ b) ⊎ (d + b ≡ a))
    turned {d} {a} {b} (inl e) = inl (e ∙ add_comm a b)
    turned (inr (inl e)) = inr (inr e)
    turned (inr (inr e)) = inr (inl e)

    plus : (u : ℕ) {a b : ℕ} → a ≤ b → u + a ≤ b + u
    plus u h = omega arith

    go : (v.units < 2 ^ 1473) ⊎ (2 ^ 1473 ≤ v.units) → Same +0 (1·0 ⊖ m) 1·0
    go (inl l) = rf_as_before-moderate +0 (1·0 ⊖ m) 1·0 tt (sub-fits binary64 1·0 m) tt tt (one_less f (record { sign = v.sign; units = v.units; value = v.value; most = le_of_lt l })) tt
    go (inr l) =
        let u = taken 1·0 m false v.sign (2 ^ 1074) v.units one_value v.value in
        let r = rounded u.sign u.size (2 ^ 1074) u.is (summed_small (2 ^ 1074) v.units (1·0 ⊖ m) (plus (2 ^ 1074) (most m v.sign v.units f v.value)) u) in
        let d : 2 ^ 1472 ≤ u.size = apart u.size v.units (2 ^ 1074) (2 ^ 1472) (turned u.how) (le_trans (le_of_eq (sym (double 1472))) l) (lit< tt) in
        rf_as_before +0 (1·0 ⊖ m) 1·0 tt (sub-fits binary64 1·0 m) tt
        (far_clear (1·0 ⊖ m) (sub-fits binary64 1·0 m) u.sign (grid binary64 u.size (2 ^ 1074)) r.value (grid_least u.size (2 ^ 1074) 1472 (pow_pos 1074) (lit< tt) (mul-le-mul_right (2 ^ 1074) d) r.fine))
