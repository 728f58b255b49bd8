-- The multiply-add of any fractions that x, y and z are written as. Assumes nothing.
use Rattle.std.specs.Prelude.{◌≡◌, Bool, ℕ, ◌*◌, ◌<◌, Float}
use Rattle.std.proofs.Common.{sym, ◌∙◌, mul_assoc, mul_comm, mul_left_comm, mul-pos}
use Rattle.std.specs.Float.{fin, nan, inf, binary64}
use Rattle.std.specs.Float.Ieee.{up, down, unlike, sum}
use Rattle.std.specs.Float.Ieee.Exact.{HasValue}
use Rattle.std.specs.Float.Ieee.Fits.{down_pos}
use Rattle.laws.specs.laws.Sum.{sum_same}
use Rattle.fused.specs.Fused.{fused_of}

-- ---- x = ±a / c, y = ±b / d, z = ±k / g
crossed : (x c a X y d b Y g Z : ℕ) → x * c ≡ a * X → y * d ≡ b * Y → x * y * Z * (c * d * g) ≡ a * b * g * (X * Y * Z)
crossed x c a X y d b Y g Z p q =
    (let w : x * y * Z * (c * d * g) ≡ x * c * (y * d) * (g * Z) = simp (mul_assoc, mul_comm, mul_left_comm) in w)
    ∙ (λ i. p i * q i * (g * Z))
    ∙ (let w : a * X * (b * Y) * (g * Z) ≡ a * b * g * (X * Y * Z) = simp (mul_assoc, mul_left_comm) in w)

crossed_last : (z g k Z X Y c d : ℕ) → z * g ≡ k * Z → z * (X * Y) * (c * d * g) ≡ k * (c * d) * (X * Y * Z)
crossed_last z g k Z X Y c d r =
    (let w : z * (X * Y) * (c * d * g) ≡ z * g * (X * Y * (c * d)) = simp (mul_assoc, mul_comm, mul_left_comm) in w)
    ∙ (λ i. r i * (X * Y * (c * d)))
    ∙ (let w : k * Z * (X * Y * (c * d)) ≡ k * (c * d) * (X * Y * Z) = simp (mul_assoc, mul_comm, mul_left_comm) in w)

pub fused_fraction : (x y z : Float) (s t u : Bool) (a c b d k g : ℕ) → 0 < c → 0 < d → 0 < g → HasValue x s a c → HasValue y t b d → HasValue z u k g
    → fused_of x y z ≡ sum binary64 (unlike s t) (a * b * g) u (k * (c * d)) (c * d * g)
unfolding fused_of
fused_fraction (fin s' m e) (fin t' n f) (fin u' l h) s t u a c b d k g C D G hx hy hz =
    (λ i. sum binary64 (unlike (hx.0 i) (hy.0 i)) (m * up e * (n * up f) * down h) (hz.0 i) (l * up h * (down e * down f)) (down e * down f * down h))
    ∙ sym (sum_same binary64 (unlike s t) u (m * up e * (n * up f) * down h) (l * up h * (down e * down f)) (down e * down f * down h) (a * b * g) (k * (c * d)) (c * d * g)
    (mul-pos (mul-pos (down_pos e) (down_pos f)) (down_pos h)) (mul-pos (mul-pos C D) G)
    (crossed (m * up e) c a (down e) (n * up f) d b (down f) g (down h) hx.1 hy.1)
    (crossed_last (l * up h) g k (down h) (down e) (down f) c d hz.1))
fused_fraction nan y z s t u a c b d k g C D G hx hy hz = elim hx [ ]
fused_fraction (inf _) y z s t u a c b d k g C D G hx hy hz = elim hx [ ]
fused_fraction (fin s' m e) nan z s t u a c b d k g C D G hx hy hz = elim hy [ ]
fused_fraction (fin s' m e) (inf _) z s t u a c b d k g C D G hx hy hz = elim hy [ ]
fused_fraction (fin s' m e) (fin t' n f) nan s t u a c b d k g C D G hx hy hz = elim hz [ ]
fused_fraction (fin s' m e) (fin t' n f) (inf _) s t u a c b d k g C D G hx hy hz = elim hz [ ]
