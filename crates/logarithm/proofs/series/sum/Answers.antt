-- `sum` meets its contract: 64 digits times S(1/3), and 64 more, have room in 128.
use mathlib.Core.Path.{ap₂, ◌∙◌}
use Prim.Native.Nat.{ℕ, ◌+◌, ◌*◌, ◌%◌, ◌^◌, ◌≤◌, ◌<◌}
use native.Mathlib.Nat.{mul-le-mul_right, lt_of_lt_of_le, le_of_lt}
use native.Mathlib.Omega.{arith}
use lib.Dec.{lit≤}
use Rattle.bits.specs.laws.Wide.{plus_whole}
use Rattle.logarithm.specs.Logarithm.{third}
use Rattle.logarithm.proofs.series.sum.Goals as goal

room : (k s : ℕ) → k < 2 ^ 64 → s < 2 ^ 64 → k * third + s < 2 ^ 128
room k s a b = lt_of_lt_of_le (both (k * third) s (2 ^ 64 * third) (2 ^ 64) (mul-le-mul_right third (le_of_lt a)) b) (lit≤ tt)
  where
    both : (x y X Y : ℕ) → x ≤ X → y < Y → x + y < X + Y
    both x y X Y h k = omega arith

pub returns : goal.returns
returns c =
    let a = c.args in
    let f = c.ranges in
    plus_whole (a.k * third) a.s c.plus.result (room a.k a.s f.k.fits f.s.fits) (c.plus.ensures ∙ ap₂ (λ (x y : ℕ). (x + y) % 2 ^ 128) c.product.ensures c.from.ensures)
