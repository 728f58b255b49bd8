-- From what the code of sine and cosine tests and calls to their definitions. Assumes nothing.
use Rattle.std.specs.Prelude.{Ok, Err}
use mathlib.Core.Path.{◌≡◌, refl, sym, ap, ap₂, ◌∙◌, subst}
use mathlib.Core.Bool.{Bool, true, false, not, cond, ◌||◌, true≢false, beq}
use Prim.Native.Nat.{ℕ, zero, suc, ◌+◌, ◌-◌, ◌*◌, ◌/◌, ◌^◌, ◌≤◌, ◌<◌, zero-le, min}
use native.Mathlib.Nat.{mul-add, add-mul, mul_assoc, mul_comm, mul_left_comm, mul-one, add-zero, mul-pos, le_trans, le_of_eq, lt_of_le_of_lt, zero-lt-suc, mul-le-mul_right, le_of_mul-le-mul_right, lt_irrefl, min-eq_left}
use native.Mathlib.Omega.{arith}
use lib.IntN.{ℤ, pos}
use lib.Dec.{T, ltb, ltb→lt, nltb→le, lit<}
use lib.Pow.{pow-add, pow_pos}
use lib.Ieee.{Float, nan, inf, fin, binary64, up, down, unlike, round, lt, ne, eq}
use lib.Ieee.Bits.{is_false}
use lib.Ieee.Exact.{HasValue}
use lib.Ieee.Fits.{down_pos}
use lib.Ieee.Nearest.{div_same}
use lib.Ieee.Scale.{finite, round_same}
use Rattle.laws.specs.laws.Flags.{fails}
use Rattle.laws.specs.laws.Digits.{pow_lt_back}
use Rattle.laws.specs.laws.Kinds.{nan_of_lem}
use Rattle.bits.specs.Parts.{PartsOf}
use Rattle.bits.specs.Rounded.{rounded_of}
use Rattle.answer.specs.declared.Answer.TheVariants.{One}
use Rattle.answer.specs.declared.Refusal.TheVariants.{NotANumber, OutOfRange}
use Rattle.bounds.specs.Close.{distance_of}
use Rattle.angle.specs.Alternating.{square_of, alternating_of, up_to_four, Viewed}
use Rattle.angle.specs.Sine.{sine_at, sine_of}
use Rattle.angle.specs.Cosine.{cosine_by, cosine_at, cosine_of}
use Rattle.angle.specs.declared.series.Balance.{Balance}
use Rattle.angle.proofs.Angles.{square_le}

ruleset sorted = (mul-add, add-mul, mul_assoc, mul_comm, mul_left_comm)

-- the code's test for |x| > 4
abbrev far : Float → Bool
far x = lt (fin false 1 (pos 2)) x || lt x (fin true 1 (pos 2))

far_is : (s : Bool) (m : ℕ) (e : ℤ) → far (fin s m e) ≡ ltb (4 * down e) (m * up e)
unfolding lt
far_is false m e = or-none (ltb (4 * down e) (m * up e * 1)) ∙ ap (ltb (4 * down e)) (mul-one (m * up e))
  where
    or-none : (b : Bool) → (b || false) ≡ b
    or-none true = refl
    or-none false = refl
far_is true m e = ap (ltb (4 * down e)) (mul-one (m * up e))

module _ (f : Bool → ℕ → ℕ → Float) where
  pub refused_nan : (x : Float) → ne x x ≡ true → Err NotANumber ≡ up_to_four f x
  unfolding up_to_four
  refused_nan x h = ap (up_to_four f) (sym (nan_of_lem x h))

  pub refused_infinite : (x : Float) → ne x x ≡ false → finite x ≡ false → Err OutOfRange ≡ up_to_four f x
  unfolding up_to_four ne eq
  refused_infinite nan n h = absurd (true≢false n)
  refused_infinite (inf s) n h = refl
  refused_infinite (fin s m e) n h = absurd (true≢false h)

  pub refused_far : (x : Float) → ne x x ≡ false → far x ≡ true → Err OutOfRange ≡ up_to_four f x
  unfolding up_to_four ne eq
  refused_far nan n h = absurd (true≢false n)
  refused_far (inf s) n h = refl
  refused_far (fin s m e) n h = ap (λ (b : Bool). cond b (Err OutOfRange) (Ok (One (f s (m * up e) (down e))))) (sym h ∙ far_is s m e)

  -- any fraction of x serves, if f sees the fraction alone
  answered : ((s : Bool) (p q a c : ℕ) → 0 < q → 0 < c → p * c ≡ a * q → f s p q ≡ f s a c)
      → (x : Float) (s : Bool) (a c : ℕ) → 0 < c → a ≤ 4 * c → HasValue x s a c → Ok (One (f s a c)) ≡ up_to_four f x
  unfolding up_to_four
  answered same nan s a c C h v = absurd v
  answered same (inf t) s a c C h v = absurd v
  answered same (fin t m e) s a c C h v =
      ap (λ (v : Float). Ok (One v)) (sym (same s (m * up e) (down e) a c (down_pos e) C v.1) ∙ ap (λ (b : Bool). f b (m * up e) (down e)) (sym v.0))
      ∙ ap (λ (b : Bool). cond b (Err OutOfRange) (Ok (One (f t (m * up e) (down e))))) (sym (is_false (ltb (4 * down e) (m * up e)) (not-above (ltb (4 * down e) (m * up e)) (ltb→lt (4 * down e) (m * up e)))))
    where
      le : m * up e ≤ 4 * down e
      le = le_of_mul-le-mul_right (go (m * up e) (down e) v.1) C
        where
          go : (p q : ℕ) → p * c ≡ a * q → p * c ≤ 4 * q * c
          go p q e = let k : a * q ≤ 4 * c * q = mul-le-mul_right q h in omega arith

      not-above : (b : Bool) → (T b → 4 * down e < m * up e) → T (not b)
      not-above true g = absurd (lt_irrefl (m * up e) (lt_of_le_of_lt le (g tt)))
      not-above false g = tt

-- what is not far is finite, and at most 4
pub near_finite : (x : Float) → ne x x ≡ false → far x ≡ false → finite x ≡ true
unfolding ne eq lt
near_finite nan n h = absurd (true≢false n)
near_finite (inf false) n h = absurd (true≢false h)
near_finite (inf true) n h = absurd (true≢false h)
near_finite (fin s m e) n h = refl

pub near_le : (x : Float) (s : Bool) (a c : ℕ) → far x ≡ false → HasValue x s a c → a ≤ 4 * c
near_le nan s a c h v = absurd v
near_le (inf t) s a c h v = absurd v
near_le (fin t m e) s a c h v =
    let l : m * up e ≤ 4 * down e = nltb→le (4 * down e) (m * up e) (fails (sym (far_is t m e) ∙ h)) in
    le_of_mul-le-mul_right (go (m * up e) (down e) l v.1) (down_pos e)
  where
    go : (p q : ℕ) → p ≤ 4 * q → p * c ≡ a * q → a * q ≤ 4 * c * q
    go p q l e = let k : p * c ≤ 4 * q * c = mul-le-mul_right c l in omega arith

-- ---- the parts of an x that is at most 4
exponent_le : (digits exponent : ℕ) → (0 < exponent → 2 ^ 52 ≤ digits) → digits * 2 ^ exponent ≤ 4 * 2 ^ 1074 → exponent ≤ 1024
exponent_le digits zero lead h = zero-le
exponent_le digits (suc e) lead h =
    let a : 2 ^ 52 * 2 ^ suc e ≤ 4 * 2 ^ 1074 = le_trans (mul-le-mul_right (2 ^ suc e) (lead (zero-lt-suc e))) h in
    let b : 2 ^ (52 + suc e) < 2 ^ 1077 = lt_of_le_of_lt (le_of_eq (pow-add 2 52 (suc e))) (lt_of_le_of_lt a (lit< tt)) in
    let c : 52 + suc e < 1077 = pow_lt_back (52 + suc e) 1077 b in
    omega arith

module _ (x : Float) (is_finite negative : Bool) (digits exponent : ℕ) (n : ne x x ≡ false) (h : far x ≡ false) (p : PartsOf x is_finite negative digits exponent) where
  value : HasValue x negative (digits * 2 ^ exponent) (2 ^ 1074)
  value = (p.decoded (near_finite x n h)).value

  pub bounds : (digits < 2 ^ 53) × (exponent ≤ 1024) × (digits * 2 ^ exponent ≤ 4 * 2 ^ 1074)
  bounds =
      let d = p.decoded (near_finite x n h) in
      let l = near_le x negative (digits * 2 ^ exponent) (2 ^ 1074) h value in
      (d.digits, exponent_le digits exponent d.lead l, l)

  pub viewed : (square : ℕ) → square ≡ square_of (digits * 2 ^ exponent) (2 ^ 1074) → Viewed x negative digits exponent square
  viewed square e = record { value = value; most = bounds.2; room = bounds.1; square_is = e }

-- ---- the definitions see the fraction alone
square-same : (p q a c : ℕ) → 0 < q → 0 < c → p * c ≡ a * q → square_of p q ≡ square_of a c
unfolding square_of
square-same p q a c Q C e = ap (λ (x : ℕ). x * x / 2 ^ 59) (div_same (p * 2 ^ 59) q (a * 2 ^ 59) c Q C (go (2 ^ 59)))
  where
    go : (K : ℕ) → p * K * c ≡ a * K * q
    go K = swap p K c ∙ ap (λ (x : ℕ). x * K) e ∙ sym (swap a K q)
      where
        swap : (x y z : ℕ) → x * y * z ≡ x * z * y
        swap x y z = simp (mul_assoc, mul_comm, mul_left_comm)

sine_same : (s : Bool) (p q a c : ℕ) → 0 < q → 0 < c → p * c ≡ a * q → sine_at s p q ≡ sine_at s a c
unfolding sine_at
sine_same s p q a c Q C e =
    ap (λ (t : ℕ). at p q t) (square-same p q a c Q C e)
    ∙ round_same binary64 (sign (square_of a c)) (p * gap (square_of a c)) (q * 2 ^ 60) (a * gap (square_of a c)) (c * 2 ^ 60) (mul-pos Q (pow_pos 60)) (mul-pos C (pow_pos 60))
    (go (gap (square_of a c)) (2 ^ 60))
  where
    gap : ℕ → ℕ
    gap t = distance_of (alternating_of t 1 20).added (alternating_of t 1 20).taken

    sign : ℕ → Bool
    sign t = unlike s (ltb (alternating_of t 1 20).added (alternating_of t 1 20).taken)

    at : ℕ → ℕ → ℕ → Float
    at x y t = round binary64 (sign t) (x * gap t) (y * 2 ^ 60)

    go : (g K : ℕ) → p * g * (c * K) ≡ a * g * (q * K)
    go g K = swap p g c K ∙ ap (λ (x : ℕ). x * (g * K)) e ∙ sym (swap a g q K)
      where
        swap : (x y z w : ℕ) → x * y * (z * w) ≡ x * z * (y * w)
        swap x y z w = simp (mul_assoc, mul_comm, mul_left_comm)

cosine_same : (s : Bool) (p q a c : ℕ) → 0 < q → 0 < c → p * c ≡ a * q → cosine_at s p q ≡ cosine_at s a c
unfolding cosine_at
cosine_same s p q a c Q C e = ap cosine_by (square-same p q a c Q C e)

-- ---- what a view leads to
module _ {x : Float} {negative : Bool} {digits exponent square : ℕ} (view : Viewed x negative digits exponent square) where
  pub view_square : square ≤ 2 ^ 63
  view_square = subst (λ (t : ℕ). t ≤ 2 ^ 63) (sym view.square_is) (square_le (digits * 2 ^ exponent) (2 ^ 1074) (pow_pos 1074) view.most)

  pub is_sine : {b : Balance} → b ≡ alternating_of square 1 20
      → {r : Float} → r ≡ round binary64 (unlike negative (ltb b.added b.taken)) (digits * 2 ^ exponent * distance_of b.added b.taken) (2 ^ 1074 * 2 ^ 60) → Ok (One r) ≡ sine_of x
  unfolding sine_of sine_at
  is_sine eb er =
      ap (λ (v : Float). Ok (One v)) (er ∙ ap at (eb ∙ ap (λ (t : ℕ). alternating_of t 1 20) view.square_is)) ∙ answered sine_at sine_same x negative (digits * 2 ^ exponent) (2 ^ 1074) (pow_pos 1074) view.most view.value
    where
      at : Balance → Float
      at c = round binary64 (unlike negative (ltb c.added c.taken)) (digits * 2 ^ exponent * distance_of c.added c.taken) (2 ^ 1074 * 2 ^ 60)

  pub is_cosine : {r : Float} → r ≡ cosine_by (min square (2 ^ 63)) → Ok (One r) ≡ cosine_of x
  unfolding cosine_of cosine_at
  is_cosine e =
      ap (λ (v : Float). Ok (One v)) (e ∙ ap cosine_by (min-eq_left view_square ∙ view.square_is)) ∙ answered cosine_at cosine_same x negative (digits * 2 ^ exponent) (2 ^ 1074) (pow_pos 1074) view.most view.value

-- ---- the sign of a product
pub signs : (s t : Bool) → not (beq s t) ≡ unlike s t
signs true true = refl
signs true false = refl
signs false true = refl
signs false false = refl

-- ---- the one rounding counts in 2^-2340, the sum in 2^-60, and x in 2^-1074
abbrev sum_unit : ℕ
sum_unit = 2340 - 60

abbrev product-unit : ℕ
product-unit = sum_unit - 1074

module _ (sign : Bool) where
  pub product_rounded : (digits exponent gap w : ℕ) → w ≡ digits * gap → rounded_of sign w false (exponent + product-unit) ≡ round binary64 sign (digits * 2 ^ exponent * gap) (2 ^ 1074 * 2 ^ 60)
  unfolding rounded_of
  product_rounded digits exponent gap w ew =
      round_same binary64 sign ((2 * w + 0) * 2 ^ (exponent + product-unit)) (2 ^ 2341) (digits * 2 ^ exponent * gap) (2 ^ 1074 * 2 ^ 60) (pow_pos 2341) (mul-pos (pow_pos 1074) (pow_pos 60))
      (ap₂ (λ (u v : ℕ). (2 * u + 0) * v * (2 ^ 1074 * 2 ^ 60)) ew (pow-add 2 exponent product-unit)
      ∙ ap (λ (y : ℕ). y * (2 ^ exponent * 2 ^ product-unit) * (2 ^ 1074 * 2 ^ 60)) (add-zero (2 * (digits * gap)))
      ∙ moved digits gap (2 ^ exponent) (2 ^ product-unit) (2 ^ 1074) (2 ^ 60))
    where
      moved : (d g u a b c : ℕ) → 2 * (d * g) * (u * a) * (b * c) ≡ d * u * g * (2 * a * b * c)
      moved d g u a b c = simp (mul_assoc, mul_comm, mul_left_comm)

  pub sum_rounded : (gap : ℕ) → rounded_of sign gap false sum_unit ≡ round binary64 sign gap (2 ^ 60)
  unfolding rounded_of
  sum_rounded gap = round_same binary64 sign ((2 * gap + 0) * 2 ^ sum_unit) (2 ^ 2341) gap (2 ^ 60) (pow_pos 2341) (pow_pos 60) (moved gap (2 ^ sum_unit) (2 ^ 60))
    where
      moved : (g a b : ℕ) → (2 * g + 0) * a * b ≡ g * (2 * a * b)
      moved g a b = simp sorted (omega arith)
