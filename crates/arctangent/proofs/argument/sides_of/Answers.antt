-- `sides_of` meets its contract: up to 4 by `between`, and from there on by the sum of the inverse (`Reaching`).
use Prim.Native.Nat.{ℕ, ◌*◌, ◌^◌, ◌≤◌, ◌<◌}
use native.Mathlib.Nat.{mul-pos, lt_of_lt_of_le}
use lib.Dec.{lit<, lit≤}
use lib.Pow.{pow_pos}
use Rattle.arctangent.specs.Arctangent.{right_sides}
use Rattle.arctangent.proofs.Reaching.{four_le, fraction_le, rooms, is_far}
use Rattle.arctangent.proofs.argument.sides_of.Goals as goal
use Rattle.arctangent.proofs.argument.sides_of.Goals.{Else-p-lt1024}

-- x, in smallest f64
abbrev N : Else-p-lt1024 → ℕ
N c = c.args.p.digits * 2 ^ c.args.p.exponent

full : (c : Else-p-lt1024) → 2 ^ 52 ≤ c.args.p.digits
full c = c.args.p.leading (lt_of_lt_of_le (lit≤ tt) c.requires)

positive : (c : Else-p-lt1024) → 0 < N c
positive c = mul-pos (lt_of_lt_of_le (pow_pos 52) (full c)) (pow_pos c.args.p.exponent)

four : (c : Else-p-lt1024) → 4 * 2 ^ 1074 ≤ N c
four c = four_le c.args.p.digits c.args.p.exponent (full c) c.args.p.digits_fit c.if-p-lt1024.false

pub sum-s-requires : goal.sum-s-requires
sum-s-requires c = let e = (goal.at.sum-s-requires c).Else-p-lt1024 in fraction_le (2 ^ 1074) (N e) (four e) (positive e) c.inverse.result c.inverse.ensures

pub overflow_add-result : goal.overflow_add-result
overflow_add-result c =
    let e = (goal.at.overflow_add-result c).Else-p-lt1024 in
    record { fits = (rooms (2 ^ 1074) (N e) (four e) (positive e) c.inverse.result c.inverse.ensures c.sum-s.result c.sum-s.ensures right_sides.added (lit< tt)).1 }

pub overflow_add-result-2 : goal.overflow_add-result-2
overflow_add-result-2 c =
    let e = (goal.at.overflow_add-result-2 c).Else-p-lt1024 in
    record { fits = (rooms (2 ^ 1074) (N e) (four e) (positive e) c.inverse.result c.inverse.ensures c.sum-s.result c.sum-s.ensures right_sides.taken (lit< tt)).0 }

pub returns : goal.returns
returns c = let e = (goal.at.returns c).Else-p-lt1024 in is_far (2 ^ 1074) (N e) (four e) (positive e) c.inverse.result c.inverse.ensures c.sum-s.result c.sum-s.ensures
