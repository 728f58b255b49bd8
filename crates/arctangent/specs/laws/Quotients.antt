-- Where `quotient` is a quotient. Assumes nothing.
use Rattle.std.specs.Prelude.{◌≡◌, ℕ, ◌*◌, ◌/◌, ◌^◌, ◌<◌, Bool, cond, ◌&&◌, nat_lt}
use Rattle.std.proofs.Common.{ap₂, lt→ltb}
use Rattle.std.specs.Float.Ieee.Bits.{is_true}
use Rattle.arctangent.specs.Quotient.{quotient_of}

pub quotient_is : (a b : ℕ) → a < b → b < 2 ^ 56 → quotient_of a b ≡ a * 2 ^ 64 / b
unfolding quotient_of
quotient_is a b h k = ap₂ (λ (x y : Bool). cond (x && y) (a * 2 ^ 64 / b) 0) (is_true (nat_lt a b) (lt→ltb a b h)) (is_true (nat_lt b (2 ^ 56)) (lt→ltb b (2 ^ 56) k))
