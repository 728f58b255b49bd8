-- What the multiply-add's definition means: `round` of the exact fraction x * y + z, whatever fractions x, y and z are written as; and with y = 1 it is the sum. Assumes nothing.
use Rattle.std.specs.Prelude.{◌≡◌, refl, Bool, true, ◌&&◌, ℕ, ◌+◌, ◌-◌, ◌*◌, ◌<◌, Float, pos}
use Rattle.std.proofs.Math.Path.{sym, ap}
use Rattle.std.proofs.Common.{◌∙◌, mul-one, mul-pos, le_of_lt, le_of_eq}
use Rattle.std.proofs.Math.Bool.{false}
use Rattle.std.specs.Bool.{beq}
use native.Mathlib.Omega.{arith}
use Rattle.std.specs.Float.{nan, inf, fin}
use Rattle.std.specs.Float.Ieee.{binary64, up, down, unlike, round, sum, add, mul, fits, of_bits}
use Rattle.std.specs.Float.Ieee.Exact.{HasValue}
use Rattle.std.proofs.Math.Dec.{ltb}
use Rattle.laws.specs.Arithmetic.{◌⊕◌, +0, 1·0}
use Rattle.laws.specs.laws.Exact.{round_of_value}
use Rattle.laws.specs.laws.Flags.{is_some}
use Rattle.laws.specs.laws.Sum.{sum_like, sum_unlike, sum_comm, differ_comm}
use Rattle.fused.specs.Fused.{fused_of}
use Rattle.fused.specs.laws.Meaning.{fused_fraction}

-- the sign of a number that is not zero
signed : (s : Bool) (n : ℕ) → 0 < n → (s && ltb 0 n) ≡ s
signed true n h = is_some n h
signed false n h = refl

left : (p q : ℕ) → q < p → 0 < p - q
left p q h = omega arith

-- so it is `round` of the exact number, whose sign is that of the larger term
module _ (x y z : Float) (s t u : Bool) (a c b d k g : ℕ) (C : 0 < c) (D : 0 < d) (G : 0 < g) (hx : HasValue x s a c) (hy : HasValue y t b d) (hz : HasValue z u k g) where
  pub fused_like : beq (unlike s t) u ≡ true → fused_of x y z ≡ round binary64 (unlike s t) (a * b * g + k * (c * d)) (c * d * g)
  fused_like e = fused_fraction x y z s t u a c b d k g C D G hx hy hz ∙ sym (sum_like binary64 (unlike s t) u (a * b * g) (k * (c * d)) (c * d * g) e)

  pub fused_product_larger : beq (unlike s t) u ≡ false → k * (c * d) < a * b * g → fused_of x y z ≡ round binary64 (unlike s t) (a * b * g - k * (c * d)) (c * d * g)
  fused_product_larger e h =
      fused_fraction x y z s t u a c b d k g C D G hx hy hz
      ∙ sym (sum_unlike binary64 (unlike s t) u (a * b * g) (k * (c * d)) (c * d * g) e (le_of_lt h))
      ∙ ap (λ (w : Bool). round binary64 w (a * b * g - k * (c * d)) (c * d * g)) (signed (unlike s t) (a * b * g - k * (c * d)) (left (a * b * g) (k * (c * d)) h))

  pub fused_addend_larger : beq (unlike s t) u ≡ false → a * b * g < k * (c * d) → fused_of x y z ≡ round binary64 u (k * (c * d) - a * b * g) (c * d * g)
  fused_addend_larger e h =
      fused_fraction x y z s t u a c b d k g C D G hx hy hz
      ∙ sum_comm binary64 (unlike s t) u (a * b * g) (k * (c * d)) (c * d * g)
      ∙ sym (sum_unlike binary64 u (unlike s t) (k * (c * d)) (a * b * g) (c * d * g) (differ_comm (unlike s t) u e) (le_of_lt h))
      ∙ ap (λ (w : Bool). round binary64 w (k * (c * d) - a * b * g) (c * d * g)) (signed u (k * (c * d) - a * b * g) (left (k * (c * d)) (a * b * g) h))

  -- and where the two cancel it is +0
  pub fused_cancels : beq (unlike s t) u ≡ false → a * b * g ≡ k * (c * d) → fused_of x y z ≡ +0
  unfolding fits of_bits
  fused_cancels e h =
      fused_fraction x y z s t u a c b d k g C D G hx hy hz
      ∙ sym (sum_unlike binary64 (unlike s t) u (a * b * g) (k * (c * d)) (c * d * g) e (le_of_eq (sym h)))
      ∙ ap (λ (n : ℕ). round binary64 (unlike s t && ltb 0 n) n (c * d * g)) (none (a * b * g) (k * (c * d)) h)
      ∙ ap (λ (w : Bool). round binary64 w 0 (c * d * g)) (no_sign (unlike s t))
      ∙ round_of_value binary64 (fin false 0 (pos 0)) false 0 (c * d * g) (mul-pos (mul-pos C D) G) tt (refl, zero (c * d * g))
    where
      none : (p q : ℕ) → p ≡ q → p - q ≡ 0
      none p q h = omega arith

      no_sign : (w : Bool) → (w && false) ≡ false
      no_sign true = refl
      no_sign false = refl

      zero : (n : ℕ) → 0 * 1 * n ≡ 0 * 1
      zero n = omega arith

-- ---- times 1
same_sign : (s : Bool) → unlike s false ≡ s
same_sign true = refl
same_sign false = refl

pub fused_one : (x z : Float) → fused_of x 1·0 z ≡ x ⊕ z
unfolding fused_of add mul of_bits
fused_one nan z = refl
fused_one (inf true) z = refl
fused_one (inf false) z = refl
fused_one (fin s m e) nan = refl
fused_one (fin s m e) (inf u) = refl
fused_one (fin s m e) (fin u k g) =
    (λ i. sum binary64 (same_sign s i) (mul-one (m * up e) i * down g) u (k * up g * mul-one (down e) i) (mul-one (down e) i * down g))
