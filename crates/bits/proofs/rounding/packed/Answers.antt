-- `packed` meets its contract: the sum is the value's pattern (`Packing`).
use Rattle.std.proofs.Common.{◌≡◌, ℕ, ◌+◌, ◌*◌, ◌%◌, ◌^◌, Bool, true, false, cond, refl, ap, ◌∙◌}
use Rattle.std.specs.Int.{from_bool}
use lib.Ieee.{binary64, of_bits, units}
use Rattle.bits.specs.laws.Packing.{pattern, packed_is, over_is, no_nan}
use Rattle.bits.proofs.rounding.packed.Goals as goal
use Rattle.bits.proofs.rounding.packed.Goals.{Else-k-lt2046, Then-k-lt2046}

-- the highest of 64 places, set or not
sign_is : (s : Bool) (x : ℕ) → x ≡ from_bool s → x * 2 ^ 63 % 2 ^ 64 ≡ cond s (2 ^ 63) 0
sign_is s x e = ap (λ (y : ℕ). y * 2 ^ 63 % 2 ^ 64) e ∙ go s
  where
    go : (s : Bool) → from_bool s * 2 ^ 63 % 2 ^ 64 ≡ cond s (2 ^ 63) 0
    go true = refl
    go false = refl

low : (c : Then-k-lt2046) → of_bits binary64 (pattern (c.from-sign.result * 2 ^ 63 % 2 ^ 64) c.args.q c.args.k) ≡ units binary64 c.args.negative c.args.q c.args.k
low c = let h = c.before in let a = h.args in packed_is a.negative (h.from-sign.result * 2 ^ 63 % 2 ^ 64) a.q a.k (sign_is a.negative h.from-sign.result h.from-sign.ensures) h.requires.0 c.if-k-lt2046.true h.requires.1

over : (c : Else-k-lt2046) → of_bits binary64 (c.from-sign.result * 2 ^ 63 % 2 ^ 64 + 0x7ff0_0000_0000_0000) ≡ units binary64 c.args.negative c.args.q c.args.k
over c = let h = c.before in let a = h.args in over_is a.negative (h.from-sign.result * 2 ^ 63 % 2 ^ 64) a.q a.k (sign_is a.negative h.from-sign.result h.from-sign.ensures) c.if-k-lt2046.false h.requires.1

pub float_from_bits-result : goal.float_from_bits-result
float_from_bits-result c = no_nan _ _ _ _ (low (goal.at.float_from_bits-result c).Then-k-lt2046)

pub float_from_bits-result-else-k-lt2046 : goal.float_from_bits-result-else-k-lt2046
float_from_bits-result-else-k-lt2046 c = no_nan _ _ _ _ (over (goal.at.float_from_bits-result-else-k-lt2046 c).Else-k-lt2046)

pub returns-then-k-lt2046 : goal.returns-then-k-lt2046
returns-then-k-lt2046 c = low (goal.at.returns-then-k-lt2046 c).Then-k-lt2046

pub returns-else-k-lt2046 : goal.returns-else-k-lt2046
returns-else-k-lt2046 c = over (goal.at.returns-else-k-lt2046 c).Else-k-lt2046
