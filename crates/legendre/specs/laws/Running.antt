-- The means and the sums during the run, from 1 and a y0 of at most 1: finite throughout, with room to spare. Assumes nothing.
use Rattle.std.specs.Prelude.{◌≡◌, ◌⊎◌, Bool, ℕ, suc, ◌+◌, ◌*◌, ◌^◌, ◌≤◌, ◌<◌, Float}
use Rattle.std.proofs.Math.Path.{refl}
use Rattle.std.proofs.Common.{sym, ◌∙◌, subst, inl, inr, le_of_eq, le_of_lt, lt_of_le_of_lt, mul_assoc, mul-pos, mul-le-mul, mul-le-mul_right, arith, lit<, pow_pos}
use Rattle.std.proofs.Math.Bool.{true, false}
use Rattle.std.proofs.Math.Nat.{le_trans}
use Rattle.std.proofs.Math.Dec.{lit≤}
use Rattle.std.specs.Float.{binary64}
use Rattle.std.specs.Float.Ieee.{round, of_bits, unlike}
use Rattle.std.specs.Float.Ieee.Exact.{HasValue}
use Rattle.std.specs.Float.Ieee.Scale.{grid, round_under}
use Rattle.laws.specs.Arithmetic.{◌⊕◌, ◌⊖◌, ◌⊗◌, dec, 1·0}
use Rattle.laws.specs.laws.Flags.{fails}
use Rattle.laws.specs.laws.Rounding.{round-value}
use Rattle.fused.specs.Fused.{fused_of}
use Rattle.fused.specs.laws.Meaning.{fused_fraction}
use Rattle.whole.specs.Whole.{magnitude_of}
use Rattle.legendre.specs.Mean.{arithmetic_of, geometric_of, goes_on_of, iterate}
use Rattle.legendre.specs.Ellipk as k
use Rattle.legendre.specs.Ellipk.{k_from_of}
use Rattle.legendre.specs.Ellipe.{¼, start_of, next_of, goes_on, last_sums_of, e_from_of}
use Rattle.legendre.specs.declared.k.Means.{Means}
use Rattle.legendre.specs.declared.e.Sums.{Sums}
use Rattle.laws.specs.laws.Operations.{gap, gap_most, difference, summed}
use Rattle.whole.specs.laws.Magnitude.{magnitude_value}
use Rattle.laws.specs.laws.Sizes.{finite_of_lem, units-same, units_lt, grid_mono}
use Rattle.laws.specs.laws.Bounds.{Small, Within, small, wider, looser, add-plain, small_round, small_mul, small_sub, small_neg, small_div, within-add, within-mul}
use Rattle.legendre.specs.laws.Rounds.{one, one_value, two, arithmetic_within, geometric_within, add-one_unit, add-one-most, first_arithmetic, first_geometric, run_keeps, run_grows}
use Rattle.legendre.specs.laws.Closing.{pi, k_small}

-- ---- sum and difference of two positive numbers
pub difference_small : {i j : ℕ} {x y : Float} → j < 2098 → Within i j x → Within i j y → Small j (x ⊖ y)
difference_small {i} {j} {x} {y} J v w =
    let z = difference binary64 x y v.units w.units (2 ^ 1074) (pow_pos 1074) v.value w.value in
    subst (Small j) (sym z.is) (small_round z.sign z.size (2 ^ 1074) j (pow_pos 1074) J (mul-le-mul_right (2 ^ 1074) (gap_most z.size v.units w.units (2 ^ j) z.how v.most w.most)))

pub difference_le : {i j k l p q r : ℕ} {x y : Float} → Within i j x → Within k l y → (s : Within p q (x ⊕ y)) (d : Small r (x ⊖ y)) → d.units ≤ s.units
difference_le {x = x} {y = y} v w s d =
    let z = difference binary64 x y v.units w.units (2 ^ 1074) (pow_pos 1074) v.value w.value in
    let c = v.units + w.units in
    let e = add-plain v w in
    let o = round_under binary64 c (2 ^ 1074) (finite_of_lem (round binary64 false c (2 ^ 1074)) false s.units (2 ^ 1074) (subst (λ (u : Float). HasValue u false s.units (2 ^ 1074)) e s.value)) in
    let g = grid_mono z.size (2 ^ 1074) c (2 ^ 1074) (pow_pos 1074) (pow_pos 1074) (mul-le-mul_right (2 ^ 1074) (gap z.size v.units w.units z.how)) o in
    let a : d.units ≡ grid binary64 z.size (2 ^ 1074) = units-same (x ⊖ y) d.sign z.sign d.units (grid binary64 z.size (2 ^ 1074)) (2 ^ 1074) d.value (subst (λ (u : Float). HasValue u z.sign (grid binary64 z.size (2 ^ 1074)) (2 ^ 1074)) (sym z.is) (round-value binary64 z.sign z.size (2 ^ 1074) (lt_of_le_of_lt g o))) in
    let b : grid binary64 c (2 ^ 1074) ≡ s.units = units-same (x ⊕ y) false false (grid binary64 c (2 ^ 1074)) s.units (2 ^ 1074) (subst (λ (u : Float). HasValue u false (grid binary64 c (2 ^ 1074)) (2 ^ 1074)) (sym e) (round-value binary64 false c (2 ^ 1074) o)) s.value in
    le_trans (le_of_eq a) (le_trans g (le_of_eq b))

-- ---- one round of the sums
fused_small : {x z : Float} → Small 1074 x → Small 1074 z → Small 1075 (fused_of x x z)
fused_small {x} {z} v w =
    let u = 2 ^ 1074 in
    let e = fused_fraction x x z v.sign v.sign w.sign v.units u v.units u w.units u (pow_pos 1074) (pow_pos 1074) (pow_pos 1074) v.value v.value w.value in
    let t = summed binary64 (unlike v.sign v.sign) w.sign (v.units * v.units * u) (w.units * (u * u)) (u * u * u) in
    subst (Small 1075) (sym (e ∙ t.is))
    (small_round t.sign t.size (u * u * u) 1075 (mul-pos (mul-pos (pow_pos 1074) (pow_pos 1074)) (pow_pos 1074)) (lit< tt)
    (both t.size (v.units * v.units * u) (w.units * (u * u)) (u * u * u) u (2 ^ 1075) t.how (mul-le-mul_right u (mul-le-mul v.most v.most)) (le_trans (mul-le-mul_right (u * u) w.most) (le_of_eq (sym (mul_assoc u u u)))) (lit≤ tt)))
  where
    both : (d a b p u q : ℕ) → (d ≡ a + b) ⊎ ((d + b ≡ a) ⊎ (d + a ≡ b)) → a ≤ p → b ≤ p → 2 * u ≤ q → d * u ≤ q * p
    both d a b p u q h k l m =
        let x : d * u ≤ 2 * p * u = mul-le-mul_right u (two-at-most d a b p h k l) in
        let y : 2 * u * p ≤ q * p = mul-le-mul_right p m in
        omega arith
      where
        two-at-most : (d a b p : ℕ) → (d ≡ a + b) ⊎ ((d + b ≡ a) ⊎ (d + a ≡ b)) → a ≤ p → b ≤ p → d ≤ 2 * p
        two-at-most d a b p (inl e) k l = omega arith
        two-at-most d a b p (inr (inl e)) k l = omega arith
        two-at-most d a b p (inr (inr e)) k l = omega arith

pub record Terms (n : ℕ) (s : Sums) : Type 0 where
  pub e : Small n s.e
  pub compensation : Small n s.compensation
  pub power : Small n s.power

pub next_terms : (n : ℕ) (s : Sums) → 1074 ≤ n → n + 7 < 2098 → Small 1074 (arithmetic_of s.x s.y) → Small 1074 (geometric_of s.x s.y) → Terms n s → Terms (n + 7) (next_of s)
unfolding next_of
next_terms n s N L x y t =
    let power = small_mul (n + 1) (omega arith) (omega arith) t.power (small two) in
    let d = small_sub {j = 1074} (lit< tt) x y in
    let once = small_mul (n + 2) (omega arith) (omega arith) power d in
    let term = small_mul (n + 3) (omega arith) (omega arith) once d in
    let correction = raise (n + 4) (omega arith) (small_sub (omega arith) term (wider (n + 3) (omega arith) t.compensation)) in
    let e = raise (n + 5) (omega arith) (small_sub (omega arith) (wider (n + 4) (omega arith) t.e) correction) in
    let lost = raise (n + 6) (omega arith) (small_sub (omega arith) (wider (n + 5) (omega arith) t.e) e) in
    record {
      e = wider (n + 7) (omega arith) e;
      compensation = raise (n + 7) (omega arith) (small_sub (omega arith) lost (wider (n + 6) (omega arith) correction));
      power = wider (n + 7) (omega arith) power;
    }
  where
    raise : {k : ℕ} (j : ℕ) {x : Float} → suc k ≡ j → Small (suc k) x → Small j x
    raise j {x} e w = subst (λ (j : ℕ). Small j x) e w

-- ---- the run
pub record Running (n : ℕ) (s : Sums) : Type 0 where
  pub x : Within 805 1074 s.x
  pub y : Within 805 1074 s.y
  pub terms : Terms n s

widen : (n k : ℕ) (s : Sums) → n ≤ k → Running n s → Running k s
widen n k s h r = record { x = r.x; y = r.y; terms = record { e = wider k h r.terms.e; compensation = wider k h r.terms.compensation; power = wider k h r.terms.power } }

next_running : (n : ℕ) (s : Sums) → 1074 ≤ n → n + 7 ≤ 2000 → Running n s → Running (n + 7) (next_of s)
unfolding next_of
next_running n s N L r =
    let x = arithmetic_within (lit< tt) (lit< tt) r.x r.y in
    let y = geometric_within (lit≤ tt) (lit≤ tt) (lit< tt) r.x r.y in
    record { x = x; y = y; terms = next_terms n s N (omega arith) (small x) (small y) r.terms }

module _ (y0 : Float) (w : Within 537 1074 y0) where
  mean : Within 1073 1074 (arithmetic_of 1·0 y0)
  mean = first_arithmetic 1074 y0 (lit< tt) (add-one_unit w)

  quarter : Small 1075 ¼
  unfolding of_bits
  quarter = record { sign = false; units = 2 ^ 1072; value = (refl, refl); most = lit≤ tt }

  start_terms : Terms 1075 (start_of y0)
  unfolding start_of
  start_terms =
      let e = small_mul 1074 (lit< tt) (lit≤ tt) (small mean) (small mean) in
      record { e = wider 1075 (lit≤ tt) e; compensation = fused_small (small mean) (small_neg e); power = quarter }

  first_running : Running 1082 (next_of (start_of y0))
  unfolding start_of next_of
  first_running =
      let y = first_geometric 1074 1074 (lit< tt) (lit< tt) (lit≤ tt) w in
      record { x = looser 805 1074 (lit≤ tt) (lit≤ tt) mean; y = y; terms = next_terms 1075 (start_of y0) (lit≤ tt) (lit< tt) (small mean) (small y) start_terms }

-- ---- where the run of the sums ends
pub record Ended (s : Sums) : Type 0 where
  pub e : Small 1569 (e_from_of s)
  pub k : Small 1345 (k_from_of s.x s.y)

ended : (i k : ℕ) (s : Sums) → Within i 1074 s.x → Within k 1074 s.y → Within 806 1075 (s.x ⊕ s.y) → Small 1585 (s.x ⊖ s.y) → Small 1299 s.e → Ended s
unfolding e_from_of
ended i k s x y z d e =
    let w = looser 806 1587 (lit≤ tt) (lit≤ tt) z in
    record {
      e = small_mul 1569 (lit< tt) (lit≤ tt) e (small_div 1344 (lit< tt) (lit≤ tt) (small pi) z);
      k = k_small s.x s.y w d (difference_le x y w d);
    }

running_ended : (s : Sums) → Running 1299 s → Ended s
running_ended s r =
    ended 805 805 s r.x r.y (within-add (lit< tt) (lit< tt) r.x r.y) (wider 1585 (lit≤ tt) (difference_small (lit< tt) r.x r.y)) r.terms.e

start_ended : (y0 : Float) → Within 537 1074 y0 → Ended (start_of y0)
unfolding start_of
start_ended y0 w =
    ended 1074 537 (start_of y0) one w (looser 806 1075 (lit≤ tt) (lit≤ tt) (add-one_unit w)) (wider 1585 (lit≤ tt) (difference_small (lit< tt) (looser 537 1074 (lit≤ tt) (lit≤ tt) one) w)) (wider 1299 (lit≤ tt) (start_terms y0 w).e)

pub last_sums_ended : (tolerance y0 : Float) → Within 537 1074 y0 → Ended (last_sums_of 32 tolerance y0)
unfolding last_sums_of iterate
last_sums_ended tolerance y0 w = go (goes_on tolerance (start_of y0))
  where
    P : ℕ → Sums → Type 0
    P k s = (1074 ≤ k) × Running k s

    go : (b : Bool) → Ended (iterate (goes_on tolerance) next_of 32 b (start_of y0))
    go false = start_ended y0 w
    go true =
        running_ended _
        (run_grows (goes_on tolerance) next_of P 7 2000 (λ k s l p. (let a = p.0 in let z : 1074 ≤ k + 7 = omega arith in z, next_running k s p.0 l p.1)) (λ k l s h p. (le_trans p.0 h, widen k l s h p.1))
        31 1082 (goes_on tolerance (next_of (start_of y0))) (next_of (start_of y0)) (lit≤ tt) (lit≤ tt, first_running y0 w)).1

-- ---- and of the means alone, from a y0 of at most 2 ^ 512
pub record Between (s : Means) : Type 0 where
  pub x : Within 805 1585 s.x
  pub y : Within 805 1585 s.y

next_between : (s : Means) → Between s → Between (k.next_of s)
unfolding k.next_of
next_between s b = record { x = arithmetic_within (lit< tt) (lit< tt) b.x b.y; y = geometric_within (lit≤ tt) (lit≤ tt) (lit< tt) b.x b.y }

module _ (y0 : Float) (w : Within 537 1586 y0) where
  abbrev first : Means
  first = record { x = 1·0; y = y0 }

  first-between : Between (k.next_of first)
  unfolding k.next_of
  first-between =
      record {
        x = looser 805 1585 (lit≤ tt) (lit≤ tt) (first_arithmetic 1585 y0 (lit< tt) (add-one-most w));
        y = looser 805 1585 (lit≤ tt) (lit≤ tt) (first_geometric 1586 1330 (lit< tt) (lit< tt) (lit≤ tt) w);
      }

  -- where no round is made, the test has found y0 close to 1
  tolerance : Within 1050 1051 k.k_tolerance
  unfolding dec
  tolerance = record { units = 944473296573929 * 2 ^ 1001; value = (refl, refl); least = lit≤ tt; most = lit≤ tt }

  magnitude_one : Within 1074 1074 (magnitude_of 1·0)
  magnitude_one = record { units = 2 ^ 1074; value = magnitude_value 1·0 false (2 ^ 1074) (2 ^ 1074) one_value; least = lit≤ tt; most = lit≤ tt }

  close : goes_on_of k.k_tolerance 1·0 y0 ≡ false → Small 1585 (1·0 ⊖ y0)
  unfolding goes_on_of
  close t =
      let d = difference_small {j = 1586} (lit< tt) (looser 537 1586 (lit≤ tt) (lit≤ tt) one) w in
      let p = within-mul 1050 1051 (lit< tt) (lit< tt) (lit≤ tt) (lit≤ tt) tolerance magnitude_one in
      let l = units_lt (k.k_tolerance ⊗ magnitude_of 1·0) (magnitude_of (1·0 ⊖ y0)) p.units d.units (2 ^ 1074) (pow_pos 1074) p.value (magnitude_value (1·0 ⊖ y0) d.sign d.units (2 ^ 1074) d.value) (fails t) in
      record { sign = d.sign; units = d.units; value = d.value; most = le_trans (le_of_lt l) (le_trans p.most (lit≤ tt)) }

  pub last_means_k : Small 1345 (k.k_mean_of y0)
  unfolding k.k_mean_of k.last_means_of iterate k.goes_on
  last_means_k = go (k.goes_on first) refl
    where
      go : (b : Bool) → k.goes_on first ≡ b → Small 1345 (k_from_of (iterate k.goes_on k.next_of 32 b first).x (iterate k.goes_on k.next_of 32 b first).y)
      go false t =
          let z = looser 806 1587 (lit≤ tt) (lit≤ tt) (add-one-most w) in
          let d = close t in
          k_small 1·0 y0 z d (difference_le one w z d)
      go true t =
          let b = run_keeps k.goes_on k.next_of Between next_between 31 (k.goes_on (k.next_of first)) (k.next_of first) first-between in
          let z = looser 806 1587 (lit≤ tt) (lit≤ tt) (within-add (lit< tt) (lit< tt) b.x b.y) in
          let d = difference_small (lit< tt) b.x b.y in
          k_small _ _ z d (difference_le b.x b.y z d)
