-- The exact sum of two placed numbers, from the one with the smaller exponent cut to whole places of the other. Assumes nothing.
use mathlib.Core.Path.{◌≡◌, refl, sym, ap, ◌∙◌, subst}
use mathlib.Core.Bool.{Bool, true, false, ◌&&◌, cond, true≢false, beq}
use Prim.Native.Nat.{ℕ, suc, ◌+◌, ◌-◌, ◌*◌, ◌/◌, ◌%◌, ◌^◌, ◌≤◌, ◌<◌}
use native.Mathlib.Nat.{le_trans, le_of_eq, le_of_lt, lt_of_le_of_lt, lt_of_lt_of_le, lt_irrefl, add-zero, mul-div_cancel, mul-mod_left, mul-div-mul_right, mul-le-mul_right, mod-lt, mul_assoc, div-add-mod'}
use native.Mathlib.Omega.{arith}
use lib.Arith.{mod-mul}
use lib.Dec.{ltb}
use lib.Pow.{pow-add, pow_pos, pow_mono, shr_lt}
use lib.Ieee.{binary64, round, sum}
use Rattle.laws.specs.laws.Flags.{is_some, some_of, some_sum}
use Rattle.laws.specs.laws.Sum.{sum_like, sum_unlike, sum_comm, differ_comm}
use Rattle.bits.specs.Rounded.{Kept, rounded_of}
use Rattle.bits.specs.laws.Keeping.{kept_split, kept-all, kept_self, kept-sum, kept_diff, kept_pos}
use Rattle.bits.specs.laws.Once.{rounded_kept, rounded_exact}
use Rattle.fused.specs.Steps.{Shifted, without}

-- ---- the one rounding of what is kept
rounded_of_lem : (s : Bool) (n w e : ℕ) (m : Bool) → Kept n w e m → (m ≡ true → 2 ^ 53 ≤ w) → rounded_of s w m e ≡ round binary64 s n (2 ^ 2340)
rounded_of_lem s n w e true k h = rounded_kept s n w e true k (h refl)
rounded_of_lem s n w e false k h = rounded_exact s n w e k

-- w is not 0 exactly where n is not
same_sign : (s : Bool) (n w e : ℕ) (m : Bool) → Kept n w e m → (m ≡ true → 2 ^ 53 ≤ w) → (s && ltb 0 w) ≡ (s && ltb 0 n)
same_sign s n w e true k h = let p : 0 < w = lt_of_lt_of_le (pow_pos 53) (h refl) in ap (λ (b : Bool). s && b) (is_some w p ∙ sym (is_some n (kept_pos n w e true k p)))
same_sign s n w e false k h = ap (λ (b : Bool). s && b) (sym (ap (ltb 0) (kept-all n w e k ∙ sym (add-zero (w * 2 ^ e))) ∙ some_sum w (2 ^ e) 0 (pow_pos e)))

-- ---- a's digits A at the exponent E, b's B at e, and b cut: t and m
pub record Placed (digits e : ℕ) : Type 0 where
  pub most : digits < 2 ^ 127
  pub round : digits % 2 ^ 20 ≡ 0
  pub lead : 0 < e → 2 ^ 124 ≤ digits

module _ (A E B e t : ℕ) (m : Bool) (pa : Placed A E) (pb : Placed B e) (l : e ≤ E) (c : Shifted B (E - e) t m) where
  as_product : 2 ^ E ≡ 2 ^ (E - e) * 2 ^ e
  as_product = ap (λ (x : ℕ). 2 ^ x) (let z : E ≡ E - e + e = omega arith in z) ∙ pow-add 2 (E - e) e

  -- what is kept of b
  cut : Kept (B * 2 ^ e) t E m
  cut = record {
    whole = ap (λ (x : ℕ). B * 2 ^ e / x) as_product ∙ mul-div-mul_right B (2 ^ (E - e)) (pow_pos e) ∙ sym c.whole;
    rest =
        ap (λ (x : ℕ). ltb 0 (B * 2 ^ e % x)) as_product
        ∙ ap (ltb 0) (mod-mul (B * 2 ^ e) (pow_pos (E - e)) (pow_pos e) ∙ (λ i. mul-div_cancel B (pow_pos e) i % 2 ^ (E - e) * 2 ^ e + mul-mod_left B (2 ^ e) i))
        ∙ some_sum (B % 2 ^ (E - e)) (2 ^ e) 0 (pow_pos e)
        ∙ c.rest;
  }

  -- b has 20 zeros below, so what is cut lies far below a
  lost : m ≡ true → 21 ≤ E - e
  lost z = let n : E - e ≤ 20 → ⊥ = λ h. lt_irrefl 0 (lt_of_lt_of_le (some_of (B % 2 ^ (E - e)) (c.rest ∙ z)) (le_of_eq (short h))) in omega arith
    where
      short : E - e ≤ 20 → B % 2 ^ (E - e) ≡ 0
      short h =
          let q : 2 ^ 20 ≡ 2 ^ (20 - (E - e)) * 2 ^ (E - e) = ap (λ (x : ℕ). 2 ^ x) (let z : 20 ≡ 20 - (E - e) + (E - e) = omega arith in z) ∙ pow-add 2 (20 - (E - e)) (E - e) in
          let u : B ≡ B / 2 ^ 20 * 2 ^ (20 - (E - e)) * 2 ^ (E - e) = sym (div-add-mod' B (2 ^ 20)) ∙ (λ i. B / 2 ^ 20 * q i + pb.round i) ∙ add-zero (B / 2 ^ 20 * (2 ^ (20 - (E - e)) * 2 ^ (E - e))) ∙ sym (mul_assoc (B / 2 ^ 20) (2 ^ (20 - (E - e))) (2 ^ (E - e))) in
          ap (λ (x : ℕ). x % 2 ^ (E - e)) u ∙ mul-mod_left (B / 2 ^ 20 * 2 ^ (20 - (E - e))) (2 ^ (E - e))

  far : m ≡ true → (t + 1 + 2 ^ 53 ≤ A)
  far z =
      let k = lost z in
      let hi = pb.most in
      let small : t < 2 ^ 106 = lt_of_le_of_lt (le_of_eq c.whole) (shr_lt 106 (E - e) (lt_of_lt_of_le hi (pow_mono (let y : 127 ≤ 106 + (E - e) = omega arith in y)))) in
      let big : 2 ^ 124 ≤ A = pa.lead (let y : 0 < E = omega arith in y) in
      apart t A small big
    where
      apart : (t A : ℕ) → t < 2 ^ 106 → 2 ^ 124 ≤ A → t + 1 + 2 ^ 53 ≤ A
      apart t A a b = omega arith

  -- ---- one sign
  pub like : (s u : Bool) → beq s u ≡ true → rounded_of s (A + t) m E ≡ sum binary64 s (A * 2 ^ E) u (B * 2 ^ e) (2 ^ 2340)
  like s u q = rounded_of_lem s (A * 2 ^ E + B * 2 ^ e) (A + t) E m (kept-sum A (B * 2 ^ e) t E m cut) (λ z. enough (far z)) ∙ sum_like binary64 s u (A * 2 ^ E) (B * 2 ^ e) (2 ^ 2340) q
    where
      enough : t + 1 + 2 ^ 53 ≤ A → 2 ^ 53 ≤ A + t
      enough h = omega arith

  -- ---- two signs, a no smaller
  pub fits_under : t ≤ A → t + cond m 1 0 ≤ A
  fits_under h = go m refl
    where
      go : (b : Bool) → m ≡ b → t + cond b 1 0 ≤ A
      go true z = let f = far z in omega arith
      go false z = omega arith

  under : t ≤ A → B * 2 ^ e ≤ A * 2 ^ E
  under h = go m refl
    where
      go : (b : Bool) → m ≡ b → B * 2 ^ e ≤ A * 2 ^ E
      go true z =
          le_trans (le_of_lt (lt_of_le_of_lt (le_of_eq (kept_split (B * 2 ^ e) t E m cut)) (next t (2 ^ E) (B * 2 ^ e % 2 ^ E) (mod-lt (B * 2 ^ e) (pow_pos E)))))
          (mul-le-mul_right (2 ^ E) (let f = far z in let y : suc t ≤ A = omega arith in y))
        where
          next : (t Q r : ℕ) → r < Q → t * Q + r < suc t * Q
          next t Q r h = omega arith
      go false z = le_trans (le_of_eq (kept-all (B * 2 ^ e) t E (subst (λ (b : Bool). Kept (B * 2 ^ e) t E b) z cut))) (mul-le-mul_right (2 ^ E) h)

  pub unlike_over : (s u : Bool) → beq s u ≡ false → t ≤ A
      → rounded_of (s && ltb 0 (without A t m)) (without A t m) m E ≡ sum binary64 s (A * 2 ^ E) u (B * 2 ^ e) (2 ^ 2340)
  unlike_over s u q h =
      let n = A * 2 ^ E - B * 2 ^ e in
      let w = without A t m in
      let k : Kept n w E m = kept_diff A (B * 2 ^ e) t E m cut (under h) in
      rounded_of_lem (s && ltb 0 w) n w E m k enough
      ∙ ap (λ (b : Bool). round binary64 b n (2 ^ 2340)) (same_sign s n w E m k enough)
      ∙ sum_unlike binary64 s u (A * 2 ^ E) (B * 2 ^ e) (2 ^ 2340) q (under h)
    where
      enough : m ≡ true → 2 ^ 53 ≤ without A t m
      enough z = subst (λ (b : Bool). 2 ^ 53 ≤ without A t b) (sym z) (let f = far z in omega arith)

  -- ---- two signs, a smaller: then nothing was cut
  exact : A < t → m ≡ false
  exact h = go m refl
    where
      go : (b : Bool) → m ≡ b → m ≡ false
      go true z = absurd (let f = far z in let y : ⊥ = omega arith in y)
      go false z = z

  pub unlike_under : (s u : Bool) → beq s u ≡ false → A < t
      → rounded_of (u && ltb 0 (without t A false)) (without t A false) false E ≡ sum binary64 s (A * 2 ^ E) u (B * 2 ^ e) (2 ^ 2340)
  unlike_under s u q h =
      let n = t * 2 ^ E - A * 2 ^ E in
      let w = without t A false in
      let k : Kept n w E false = kept_diff t (A * 2 ^ E) A E false (kept_self A E) (mul-le-mul_right (2 ^ E) (le_of_lt h)) in
      rounded_of_lem (u && ltb 0 w) n w E false k (λ z. absurd (true≢false (sym z)))
      ∙ ap (λ (b : Bool). round binary64 b n (2 ^ 2340)) (same_sign u n w E false k (λ z. absurd (true≢false (sym z))))
      ∙ sum_unlike binary64 u s (t * 2 ^ E) (A * 2 ^ E) (2 ^ 2340) (differ_comm s u q) (mul-le-mul_right (2 ^ E) (le_of_lt h))
      ∙ ap (λ (x : ℕ). sum binary64 u x s (A * 2 ^ E) (2 ^ 2340)) (sym (kept-all (B * 2 ^ e) t E (subst (λ (b : Bool). Kept (B * 2 ^ e) t E b) (exact h) cut)))
      ∙ sum_comm binary64 u s (B * 2 ^ e) (A * 2 ^ E) (2 ^ 2340)
