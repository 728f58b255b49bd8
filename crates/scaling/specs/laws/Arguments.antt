-- What ellippi, ellipeinc and ellipf ask RF for, where they do not scale, is moderate. Assumes nothing.
use Rattle.std.specs.Prelude.{◌≡◌, ◌⊎◌, Bool, not, cond, ◌&&◌, ◌||◌, ℕ, zero, suc, ◌+◌, ◌*◌, ◌^◌, ◌≤◌, ◌<◌, ℤ, pos, ltb}
use Rattle.std.proofs.Math.Path.{refl}
use Rattle.std.proofs.Common.{sym, ap, ◌∙◌, subst, inl, inr, true≢false, le_trans, le_of_eq, le_of_lt, lt_of_lt_of_le, one-mul, mul-pos, mul-le-mul_left, mul-le-mul_right, arith, ltb→lt, nltb→le, lt→ltb, lit≤, lit<, pow-add, pow_pos}
use Rattle.std.proofs.Math.Bool.{true, false}
use Rattle.std.proofs.Math.Dec.{T, eqb-suc-zero}
use Rattle.std.proofs.Math.Pow.{pow-lt}
use lib.Ieee.{Float, nan, inf, fin, binary64, up, down, round, sum, fits, of_bits, div, lt}
use Rattle.std.proofs.Math.Arith.{le→nltb}
use Rattle.std.specs.Float.Ieee.Bits.{is_true, is_false}
use Rattle.std.specs.Float.Ieee.Exact.{HasValue}
use Rattle.std.specs.Float.Ieee.Fits.{down_pos, round_is, add-fits, mul-fits, div-fits}
use Rattle.std.specs.Float.Ieee.Order.{drop, kept}
use Rattle.std.specs.Float.Ieee.Scale.{finite, grid, overflow}
use Rattle.laws.specs.Arithmetic.{◌⊕◌, ◌⊖◌, ◌⊗◌, ◌⊘◌, ◌<·◌, ◌≠·◌, +0, 1·0, dec}
use Rattle.laws.specs.laws.Bounds.{Small, Within, wider, looser, within-round, within-div, small_mul, double}
use Rattle.laws.specs.laws.Flags.{lt-or-le, none_of}
use Rattle.laws.specs.laws.Kinds.{not-nan}
use Rattle.laws.specs.laws.Operations.{add_is, div_is}
use Rattle.laws.specs.laws.Rounding.{round-value, units_over}
use Rattle.laws.specs.laws.Sizes.{grid_least, finite_of_lem}
use Rattle.whole.specs.Whole.{magnitude_of}
use Rattle.whole.specs.laws.Magnitude.{magnitude_value}
use Rattle.identities.specs.laws.Magnitude.{within, within-size}
use Rattle.answer.specs.Settle.{infinite_of}
use Rattle.incomplete.specs.Scaling.{huge, large_of}
use Rattle.ellipeinc.specs.Ellipeinc.{cancelling}
use Rattle.ellipf.specs.Ellipf.{middle_of}
use Rattle.scaling.specs.Before.{c_of, c1_of}
use Rattle.scaling.specs.Moderate.{moderate}
use Rattle.scaling.specs.laws.Operations.{lt-units, some_units}
use Rattle.scaling.specs.laws.Multiples.{digits}
use Rattle.scaling.specs.laws.Ranges.{Ranged, ranged, ranged_looser, ranged_square, small_square, within-square, ranged_div, ranged_sub}
use Rattle.scaling.specs.laws.Moderate.{moderate_of, most-units}
use Rattle.scaling.specs.laws.Folded.{neither}
use Rattle.scaling.specs.laws.Most.{small_finite}

pub within-one : Within 1074 1074 1·0
unfolding of_bits
within-one = record { units = 2 ^ 1074; value = (refl, refl); least = lit≤ tt; most = lit≤ tt }

-- ---- m at most 2 ^ k in size
pub small_of : (k j : ℕ) (x : Float) → T (fits binary64 x) → T (not (lib.Ieee.is_nan x)) → k + 1074 ≡ j → (fin false 1 (pos k) <· magnitude_of x) ≡ false → Small j x
small_of k j x f n e h = go x (within x 1 (pos k) n h) f h
  where
    plain : (a d P : ℕ) → a * 1 ≤ 1 * P * d → a ≤ P * d
    plain a d P h = omega arith

    go : (x : Float) → T (finite x) → T (fits binary64 x) → (fin false 1 (pos k) <· magnitude_of x) ≡ false → Small j x
    go (fin s m e') g f h =
        let d = digits (fin s m e') g f in
        let u = d.lead * 2 ^ d.place in
        record { sign = d.sign; units = u; value = d.value; most = most-units (m * up e') (down e') u (2 ^ k) (2 ^ 1074) (2 ^ j) (down_pos e') (ap (λ (z : ℕ). 2 ^ z) (sym e) ∙ pow-add 2 k 1074) d.value.1 (plain (m * up e') (down e') (2 ^ k) (within-size s m e' 1 (pos k) h)) }
    go nan g f h = elim g [ ]
    go (inf _) g f h = elim g [ ]

-- ---- a sine whose square is below 2 ^ -201 has a C above 2 ^ 200
over : (huge <· inf false) ≡ true
unfolding lt of_bits
over = refl

far-above : (a c : ℕ) → 0 < c → 2 ^ 1275 * c ≤ a * 2 ^ 1074 → (huge <· round binary64 false a c) ≡ true
unfolding of_bits
far-above a c C h = go (ltb g (overflow binary64)) (ltb→lt g (overflow binary64)) (nltb→le g (overflow binary64))
  where
    g : ℕ
    g = grid binary64 a c

    go : (b : Bool) → (T b → g < overflow binary64) → (T (not b) → overflow binary64 ≤ g) → (huge <· round binary64 false a c) ≡ true
    go true p q =
        lt-units huge (round binary64 false a c) false false (2 ^ 1274) g (2 ^ 1074) (pow_pos 1074) (refl, refl) (round-value binary64 false a c (p tt))
        ∙ is_true (ltb (2 ^ 1274) g) (lt→ltb (2 ^ 1274) g (lt_of_lt_of_le (pow-lt (let z : 1274 < 1275 = lit< tt in z)) (grid_least a c 1275 C (lit< tt) h (p tt))))
    go false p q = ap (λ (z : Float). huge <· z) (round_is binary64 false a c ∙ units_over binary64 false (kept 53 (a * 2 ^ 1074) c) (drop 53 (a * 2 ^ 1074) c) (q tt)) ∙ over

over_zero : (e : ℤ) → (huge <· 1·0 ⊘ fin false 0 e) ≡ true
unfolding lt div of_bits
over_zero e = refl

far_quotient : (x : Float) (u : ℕ) → HasValue x false u (2 ^ 1074) → u < 2 ^ 873 → (huge <· 1·0 ⊘ x) ≡ true
unfolding of_bits
far_quotient nan u v h = absurd v
far_quotient (inf t) u v h = absurd v
far_quotient (fin true zero e) u v h = absurd (true≢false v.0)
far_quotient (fin false zero e) u v h = over_zero e
far_quotient (fin t (suc m) e) u v h =
    let some = some_units (fin t (suc m) e) false u v (subst (λ (b : Bool). T (not b)) (sym (eqb-suc-zero m)) tt) in
    ap (λ (z : Float). huge <· z) (div_is binary64 1·0 (fin t (suc m) e) false false 1 u 1 (2 ^ 1074) (lit< tt) (pow_pos 1074) some (refl, refl) v)
    ∙ far-above (1 * 2 ^ 1074) (1 * u) (mul-pos (lit< tt) some)
    (le_trans (mul-le-mul_left (2 ^ 1275) (le_trans (le_of_eq (one-mul u)) (le_of_lt h))) (let z : 2 ^ 1275 * 2 ^ 873 ≤ 1 * 2 ^ 1074 * 2 ^ 1074 = lit≤ tt in z))

square-within : {x : Float} → Ranged false 0 1238 x → (huge <· 1·0 ⊘ x) ≡ false → Within 873 1238 x
square-within {x} v h = go (lt-or-le v.units (2 ^ 873))
  where
    go : (v.units < 2 ^ 873) ⊎ (2 ^ 873 ≤ v.units) → Within 873 1238 x
    go (inl l) = absurd (true≢false (sym (far_quotient x v.units v.value l) ∙ h))
    go (inr l) = record { units = v.units; value = v.value; least = l; most = v.most }

-- 1 and more
pub plain-sum : (a b : ℕ) → sum binary64 false a false b (2 ^ 1074) ≡ round binary64 false (a + b) (2 ^ 1074)
unfolding sum
plain-sum a b = refl

plus_one : {i : ℕ} {x : Float} → Ranged false i 1443 x → Within 1074 1444 (x ⊕ 1·0)
plus_one {i} {x} v =
    let n = v.units in
    let w = within-one in
    subst (Within 1074 1444) (sym (add_is binary64 x 1·0 false false n w.units (2 ^ 1074) (pow_pos 1074) v.value w.value ∙ plain-sum n w.units))
    (within-round (n + w.units) (2 ^ 1074) 1074 1444 (pow_pos 1074) (lit< tt) (lit< tt)
    (mul-le-mul_right (2 ^ 1074) (more n w.least))
    (mul-le-mul_right (2 ^ 1074) (le_trans (both v.most (le_trans w.most (lit≤ tt))) (le_of_eq (sym (double 1443))))))
  where
    more : (n : ℕ) {a b : ℕ} → a ≤ b → a ≤ n + b
    more n h = omega arith

    both : {a b p : ℕ} → a ≤ p → b ≤ p → a + b ≤ p + p
    both h k = omega arith

-- ---- what is asked, from sizes of sine, cosine and m
module _ (sine cosine m : Float) (f : T (fits binary64 m)) (s2 : Within 873 1238 (sine ⊗ sine)) (M : Small 1274 m) where
  pub c-within : Within 910 1275 (c_of sine)
  c-within = within-div 910 1275 (lit< tt) (lit< tt) (lit≤ tt) (lit≤ tt) within-one s2

  pub c-moderate : T (moderate (c_of sine))
  c-moderate = moderate_of (ranged (looser 674 1474 (lit≤ tt) (lit≤ tt) c-within))

  pub below-moderate : T (moderate (c_of sine ⊖ m))
  below-moderate = let r = ranged_sub 856 (lit< tt) (lit< tt) (lit≤ tt) (div-fits binary64 1·0 (sine ⊗ sine)) f c-within (wider 1275 (lit≤ tt) M) in moderate_of (ranged_looser 674 1474 (lit≤ tt) (lit≤ tt) r.1)

  module _ (t : Bool) (K : Ranged t 1014 1158 cosine) where
    pub c1_ranged : Ranged false 790 1443 (c1_of sine cosine)
    c1_ranged = ranged_div 790 1443 (lit< tt) (lit< tt) (lit≤ tt) (lit≤ tt) (ranged_square 954 1242 (lit< tt) (lit< tt) (lit≤ tt) (lit≤ tt) K) s2

    pub c1_moderate : T (moderate (c1_of sine cosine))
    c1_moderate = moderate_of (ranged_looser 674 1474 (lit≤ tt) (lit≤ tt) c1_ranged)

    above-moderate : T (moderate (c1_of sine cosine ⊕ 1·0 ⊖ m))
    above-moderate = let r = ranged_sub 1020 (lit< tt) (lit< tt) (lit≤ tt) (add-fits binary64 (c1_of sine cosine) 1·0) f (plus_one c1_ranged) (wider 1444 (lit≤ tt) M) in moderate_of (ranged_looser 674 1474 (lit≤ tt) (lit≤ tt) r.1)

    pub middle_moderate : T (moderate (middle_of m (c_of sine) (c1_of sine cosine)))
    unfolding middle_of
    middle_moderate = go (dec 9 1 <· magnitude_of (c_of sine ⊘ m) && magnitude_of (c_of sine ⊘ m) <· dec 11 1)
      where
        go : (b : Bool) → T (moderate (cond b (c1_of sine cosine ⊕ 1·0 ⊖ m) (c_of sine ⊖ m)))
        go true = above-moderate
        go false = below-moderate

-- those sizes, where neither C nor m is large
module _ (sine m : Float) (S : Small 1156 sine) (f : T (fits binary64 m)) (n : (m ≠· m) ≡ false) (h : large_of m (c_of sine) ≡ false) where
  pub s2_within : Within 873 1238 (sine ⊗ sine)
  unfolding large_of
  s2_within = square-within (small_square 1238 (lit< tt) (lit≤ tt) S) (neither (huge <· c_of sine) (huge <· magnitude_of m) h).0

  pub m_small : Small 1274 m
  unfolding large_of of_bits
  m_small = small_of 200 1274 m f (not-nan m n) refl (neither (huge <· c_of sine) (huge <· magnitude_of m) h).1

-- m from 0 to 2^12
upto : (m : Float) → (m <· +0) ≡ false → (cancelling <· m) ≡ false → (cancelling <· magnitude_of m) ≡ false
unfolding lt magnitude_of of_bits
upto nan p q = refl
upto (inf true) p q = absurd (true≢false p)
upto (inf false) p q = q
upto (fin false k e) p q = q
upto (fin true k e) p q = is_false (ltb (1 * 2 ^ 12 * down e) (k * up e * 1)) (le→nltb (1 * 2 ^ 12 * down e) (k * up e * 1) (none (k * up e * 1) (0 * 1 * down e) (1 * 2 ^ 12 * down e) (none_of (k * up e * 1 + 0 * 1 * down e) p)))
  where
    none : (a b c : ℕ) → a + b ≡ 0 → a ≤ c
    none a b c e = omega arith

pub few_small : (m : Float) → T (fits binary64 m) → (m ≠· m) ≡ false → (m <· +0 || cancelling <· m) ≡ false → Small 1086 m
unfolding of_bits
few_small m f n h = let t = neither (m <· +0) (cancelling <· m) h in small_of 12 1086 m f (not-nan m n) refl (upto m t.0 t.1)

pub magnitude_small : {j : ℕ} {x : Float} → Small j x → Small j (magnitude_of x)
magnitude_small {j} {x} v = record { sign = false; units = v.units; value = magnitude_value x v.sign v.units (2 ^ 1074) v.value; most = v.most }

-- ---- 1 less anything up to 2 ^ 399
pub one_less : {x : Float} → T (fits binary64 x) → Small 1473 x → T (moderate (1·0 ⊖ x))
unfolding of_bits fits
one_less f v = let r = ranged_sub 1020 (lit< tt) (lit< tt) (lit≤ tt) tt f (looser 1074 1473 (lit≤ tt) (lit≤ tt) within-one) v in moderate_of (ranged_looser 674 1474 (lit≤ tt) (lit≤ tt) r.1)

-- ---- the homogeneous form: where C is infinite, sine is at most 2 ^ -511, so that m sin² is at most 4 for every finite m
infinite_none : (x : Float) → T (finite x) → infinite_of x ≡ false
unfolding infinite_of
infinite_none (fin s m e) h = refl
infinite_none nan h = elim h [ ]
infinite_none (inf _) h = elim h [ ]

tiny_sine : {sine : Float} → Small 1156 sine → infinite_of (c_of sine) ≡ true → Small 563 sine
tiny_sine {sine} S h = go (lt-or-le S.units (2 ^ 563))
  where
    go : (S.units < 2 ^ 563) ⊎ (2 ^ 563 ≤ S.units) → Small 563 sine
    go (inl l) = record { sign = S.sign; units = S.units; value = S.value; most = le_of_lt l }
    go (inr l) =
        let s2 = within-square 563 1156 52 1238 sine S.sign S.units (lit< tt) (lit< tt) (lit≤ tt) (lit≤ tt) S.value l S.most in
        let c = within-div 910 2096 (lit< tt) (lit< tt) (lit≤ tt) (lit≤ tt) within-one s2 in
        absurd (true≢false (sym h ∙ infinite_none (c_of sine) (finite_of_lem (c_of sine) false c.units (2 ^ 1074) c.value)))

pub c2_moderate : (cosine : Float) (t : Bool) → Ranged t 1014 1158 cosine → T (moderate (cosine ⊗ cosine))
c2_moderate cosine t K = moderate_of (ranged_looser 674 1474 (lit≤ tt) (lit≤ tt) (ranged_square 954 1242 (lit< tt) (lit< tt) (lit≤ tt) (lit≤ tt) K))

pub tiny-moderate : (sine m : Float) → Small 1156 sine → T (fits binary64 m) → T (finite m) → infinite_of (c_of sine) ≡ true → T (moderate (1·0 ⊖ m ⊗ sine ⊗ sine))
tiny-moderate sine m S f g h =
    let s = tiny_sine S h in
    let y = small_mul 1076 (lit< tt) (lit≤ tt) (small_mul 1587 (lit< tt) (lit≤ tt) (small_finite m f g) s) s in
    one_less (mul-fits binary64 (m ⊗ sine) sine) (wider 1473 (lit≤ tt) y)
