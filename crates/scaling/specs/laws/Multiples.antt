-- Whole multiples of 2 ^ k units of 2 ^ -1074: sums, differences and quarters of such are such, so none is subnormal unless it is zero. An f64 of 2 ^ (53 + k) units or more is one. Assumes nothing.
use Rattle.std.specs.Prelude.{◌≡◌, refl, ◌⊎◌, Bool, false, not, ℕ, zero, suc, ◌+◌, ◌-◌, ◌*◌, ◌^◌, ◌≤◌, ◌<◌, pos, negsuc, T, Float}
use Rattle.std.proofs.Common.{sym, ap, ◌∙◌, subst, inl, inr, le_trans, le_of_eq, le_of_lt, mul-one, zero-mul, mul_assoc, add-mul, arith, lit<, lit≤, pow-add, pow_pos, pow_mono, shl_lt}
use Rattle.std.specs.Float.{nan, inf, fin, binary64}
use Rattle.std.specs.Float.Ieee.{up, down, round, unlike, fits, of_bits}
use Rattle.std.specs.Float.Ieee.Digits.{back}
use Rattle.std.specs.Float.Ieee.Exact.{HasValue}
use Rattle.std.specs.Float.Ieee.Scale.{finite, grid, overflow, round_same}
use Rattle.laws.specs.Arithmetic.{◌⊕◌, ◌⊖◌, ◌⊘◌, 4·0}
use Rattle.laws.specs.laws.Bounds.{Small, Within, small_add, small_sub, small_div}
use Rattle.laws.specs.laws.Exact.{fits_bounds, pow_back}
use Rattle.laws.specs.laws.Operations.{add_is, sub_is, div_is, Summed, summed}
use Rattle.laws.specs.laws.Rounding.{round-value}
use Rattle.laws.specs.laws.Sizes.{finite_of_lem, units-same}
use Rattle.scaling.specs.laws.Operations.{fine-round, whole_scales, sub-mul}

-- ± count * 2 ^ k units, at most 2 ^ j of them
pub record Coarse (k j : ℕ) (x : Float) : Type 0 where
  pub sign : Bool
  pub count : ℕ
  pub value : HasValue x sign (count * 2 ^ k) (2 ^ 1074)
  pub most : count * 2 ^ k ≤ 2 ^ j

pub coarse_small : {k j : ℕ} {x : Float} → Coarse k j x → Small j x
coarse_small {k} x = record { sign = x.sign; units = x.count * 2 ^ k; value = x.value; most = x.most }

pub coarse_wider : {k i : ℕ} (j : ℕ) {x : Float} → i ≤ j → Coarse k i x → Coarse k j x
coarse_wider j h x = record { sign = x.sign; count = x.count; value = x.value; most = le_trans x.most (pow_mono h) }

-- what a / c rounds to, in units, where it is finite
pub record Rounded (s : Bool) (a c : ℕ) (z : Float) : Type 0 where
  pub fine : grid binary64 a c < overflow binary64
  pub value : HasValue z s (grid binary64 a c) (2 ^ 1074)

pub rounded : (s : Bool) (a c : ℕ) {j : ℕ} {z : Float} → z ≡ round binary64 s a c → Small j z → Rounded s a c z
rounded s a c {z = z} e v =
    let fine = fine-round s a c (subst (λ (y : Float). T (finite y)) e (finite_of_lem z v.sign v.units (2 ^ 1074) v.value)) in
    record { fine = fine; value = subst (λ (y : Float). HasValue y s (grid binary64 a c) (2 ^ 1074)) (sym e) (round-value binary64 s a c fine) }

-- what a multiple rounds to is one
coarse_round : (s : Bool) (n k : ℕ) {j : ℕ} (z : Float) → z ≡ round binary64 s (n * 2 ^ k) (2 ^ 1074) → Small j z → Coarse k j z
coarse_round s n k {j} z e v =
    let h : HasValue z s (grid binary64 n (2 ^ 1074) * 2 ^ k) (2 ^ 1074) = subst (λ (g : ℕ). HasValue z s g (2 ^ 1074)) (whole_scales binary64 n k) (rounded s (n * 2 ^ k) (2 ^ 1074) e v).value in
    record { sign = s; count = grid binary64 n (2 ^ 1074); value = h; most = le_trans (le_of_eq (units-same z s v.sign (grid binary64 n (2 ^ 1074) * 2 ^ k) v.units (2 ^ 1074) h v.value)) v.most }

-- ---- sums and differences
record Multiple (d p : ℕ) : Type 0 where
  times : ℕ
  is : d ≡ times * p

less : (d a b : ℕ) → d + b ≡ a → d ≡ a - b
less d a b e = omega arith

sum_multiple : (d n m p : ℕ) → (d ≡ n * p + m * p) ⊎ ((d + m * p ≡ n * p) ⊎ (d + n * p ≡ m * p)) → Multiple d p
sum_multiple d n m p (inl e) = record { times = n + m; is = e ∙ sym (add-mul n m p) }
sum_multiple d n m p (inr (inl e)) = record { times = n - m; is = less d (n * p) (m * p) e ∙ sym (sub-mul n m p) }
sum_multiple d n m p (inr (inr e)) = record { times = m - n; is = less d (m * p) (n * p) e ∙ sym (sub-mul m n p) }

pub coarse_summed : (k j n m : ℕ) (z : Float) → Small j z → Summed binary64 z (n * 2 ^ k) (m * 2 ^ k) (2 ^ 1074) → Coarse k j z
coarse_summed k j n m z v s =
    let d = sum_multiple s.size n m (2 ^ k) s.how in
    coarse_round s.sign d.times k z (s.is ∙ ap (λ (a : ℕ). round binary64 s.sign a (2 ^ 1074)) d.is) v

pub added : (x y : Float) (s t : Bool) (a b : ℕ) → HasValue x s a (2 ^ 1074) → HasValue y t b (2 ^ 1074) → Summed binary64 (x ⊕ y) a b (2 ^ 1074)
added x y s t a b v w = subst (λ (z : Float). Summed binary64 z a b (2 ^ 1074)) (sym (add_is binary64 x y s t a b (2 ^ 1074) (pow_pos 1074) v w)) (summed binary64 s t a b (2 ^ 1074))

pub taken : (x y : Float) (s t : Bool) (a b : ℕ) → HasValue x s a (2 ^ 1074) → HasValue y t b (2 ^ 1074) → Summed binary64 (x ⊖ y) a b (2 ^ 1074)
taken x y s t a b v w = subst (λ (z : Float). Summed binary64 z a b (2 ^ 1074)) (sym (sub_is binary64 x y s t a b (2 ^ 1074) (pow_pos 1074) v w)) (summed binary64 s (not t) a b (2 ^ 1074))

pub coarse_add : {k j : ℕ} {x y : Float} → suc j < 2098 → Coarse k j x → Coarse k j y → Coarse k (suc j) (x ⊕ y)
coarse_add {k} {j} {x} {y} J v w =
    coarse_summed k (suc j) v.count w.count (x ⊕ y) (small_add J (coarse_small v) (coarse_small w)) (added x y v.sign w.sign (v.count * 2 ^ k) (w.count * 2 ^ k) v.value w.value)

pub coarse_sub : {k j : ℕ} {x y : Float} → suc j < 2098 → Coarse k j x → Coarse k j y → Coarse k (suc j) (x ⊖ y)
coarse_sub {k} {j} {x} {y} J v w =
    coarse_summed k (suc j) v.count w.count (x ⊖ y) (small_sub J (coarse_small v) (coarse_small w)) (taken x y v.sign w.sign (v.count * 2 ^ k) (w.count * 2 ^ k) v.value w.value)

-- ---- a quarter
pub within_four : Within 1076 1076 4·0
unfolding of_bits
within_four = record { units = 2 ^ 1076; value = (refl, refl); least = lit≤ tt; most = lit≤ tt }

fourth : (n Q U : ℕ) → n * (Q * 4) * 1 * U ≡ n * Q * (U * 4)
fourth n Q U = omega arith

pub coarse_quarter : {j : ℕ} (k i : ℕ) {x : Float} → i < 2098 → j + 1074 ≤ i + 1076 → Coarse (k + 2) j x → Coarse k i (x ⊘ 4·0)
unfolding of_bits
coarse_quarter {j} k i {x} I h v =
    let n = v.count in
    let s = unlike v.sign false in
    let U = pow_pos 1074 in
    let D : 0 < 2 ^ 1074 * 4 = lit< tt in
    coarse_round s n k (x ⊘ 4·0)
    (div_is binary64 x 4·0 v.sign false (n * 2 ^ (k + 2)) 4 (2 ^ 1074) 1 U (lit< tt) (lit< tt) v.value (refl, refl)
    ∙ round_same binary64 s (n * 2 ^ (k + 2) * 1) (2 ^ 1074 * 4) (n * 2 ^ k) (2 ^ 1074) D U (ap (λ (z : ℕ). n * z * 1 * 2 ^ 1074) (pow-add 2 k 2) ∙ fourth n (2 ^ k) (2 ^ 1074)))
    (small_div i I h (coarse_small v) within_four)

-- ---- a large f64 is a multiple: it has 53 digits at most
pub record Digits (x : Float) : Type 0 where
  pub sign : Bool
  pub lead : ℕ
  pub place : ℕ
  pub few : lead < 2 ^ 53
  pub value : HasValue x sign (lead * 2 ^ place) (2 ^ 1074)

pub digits : (x : Float) → T (finite x) → T (fits binary64 x) → Digits x
digits nan h f = absurd h
digits (inf s) h f = absurd h
digits (fin s zero e) h f = record { sign = s; lead = 0; place = 0; few = pow_pos 53; value = (refl, none (up e) (2 ^ 1074) (down e)) }
  where
    none : (u U d : ℕ) → 0 * u * U ≡ 0 * 1 * d
    none u U d = omega arith
digits (fin s (suc m) (pos a)) h f =
    record { sign = s; lead = suc m; place = a + 1074; few = (fits_bounds binary64 s m (pos a) f).0; value = (refl, mul_assoc (suc m) (2 ^ a) (2 ^ 1074) ∙ ap (λ (z : ℕ). suc m * z) (sym (pow-add 2 a 1074)) ∙ sym (mul-one (suc m * 2 ^ (a + 1074)))) }
digits (fin s (suc m) (negsuc a)) h f =
    let b = fits_bounds binary64 s m (negsuc a) f in
    let i : suc a ≤ 1074 = pow_back (suc a) 1074 b.1 in
    record {
      sign = s;
      lead = suc m;
      place = 1074 - suc a;
      few = b.0;
      value = (refl, ap (λ (z : ℕ). z * 2 ^ 1074) (mul-one (suc m)) ∙ ap (λ (z : ℕ). suc m * z) (ap (λ (z : ℕ). 2 ^ z) (sym (back 1074 (suc a) i)) ∙ pow-add 2 (1074 - suc a) (suc a)) ∙ sym (mul_assoc (suc m) (2 ^ (1074 - suc a)) (2 ^ suc a)));
    }

high : (q t k : ℕ) → q < 2 ^ 53 → 2 ^ (53 + k) ≤ q * 2 ^ t → k ≤ t
high q t k f h = less (pow_back (53 + k) (53 + t) (le_trans h (le_of_lt (shl_lt 53 t f))))
  where
    less : 53 + k ≤ 53 + t → k ≤ t
    less h = omega arith

pub coarse_of : {x : Float} (k j : ℕ) (d : Digits x) → (d.lead * 2 ^ d.place ≡ 0) ⊎ (2 ^ (53 + k) ≤ d.lead * 2 ^ d.place) → d.lead * 2 ^ d.place ≤ 2 ^ j → Coarse k j x
coarse_of {x} k j d (inl e) h = record { sign = d.sign; count = 0; value = subst (λ (z : ℕ). HasValue x d.sign z (2 ^ 1074)) (e ∙ sym (zero-mul (2 ^ k))) d.value; most = le_trans (le_of_eq (zero-mul (2 ^ k))) (let p = pow_pos j in let z : 0 ≤ 2 ^ j = omega arith in z) }
coarse_of {x} k j d (inr l) h =
    let q = d.lead in
    let t = d.place in
    let e : q * 2 ^ t ≡ q * 2 ^ (t - k) * 2 ^ k = ap (λ (z : ℕ). q * z) (ap (λ (z : ℕ). 2 ^ z) (sym (back t k (high q t k d.few l))) ∙ pow-add 2 (t - k) k) ∙ sym (mul_assoc q (2 ^ (t - k)) (2 ^ k)) in
    record { sign = d.sign; count = q * 2 ^ (t - k); value = subst (λ (z : ℕ). HasValue x d.sign z (2 ^ 1074)) e d.value; most = le_trans (le_of_eq (sym e)) h }

pub coarse_at : (k j : ℕ) (x : Float) (t : Bool) (n : ℕ) → T (fits binary64 x) → HasValue x t n (2 ^ 1074) → 2 ^ (53 + k) ≤ n → n ≤ 2 ^ j → Coarse k j x
coarse_at k j x t n f u l m =
    let d = digits x (finite_of_lem x t n (2 ^ 1074) u) f in
    let e = units-same x t d.sign n (d.lead * 2 ^ d.place) (2 ^ 1074) u d.value in
    coarse_of k j d (inr (le_trans l (le_of_eq e))) (le_trans (le_of_eq (sym e)) m)
