-- A number of two limbs has at most 128 places, and the upper limb is it without the lowest 64. Assumes nothing.
use Rattle.std.specs.Prelude.{◌≡◌, ℕ, ◌/◌, ◌^◌, ◌<◌}
use Rattle.std.proofs.Common.{sym, ap, ◌∙◌}
use Rattle.std.proofs.Math.Arith.{digits_lt, digits_div}
use Rattle.bits.specs.Wide.{val, Halves}

pub val-lt : (h l : ℕ) → h < 2 ^ 64 → l < 2 ^ 64 → val h l < 2 ^ 128
val-lt h l a b = digits_lt a b

pub high_is : (n h l : ℕ) → Halves n h l → h ≡ n / 2 ^ 64
high_is n h l a = sym (digits_div h a.low_fits) ∙ ap (λ (z : ℕ). z / 2 ^ 64) a.whole
