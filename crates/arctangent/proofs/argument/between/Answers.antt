-- `between` meets its contract: the same fraction in smaller units, and which of the four ways it goes (`Reaching`).
use mathlib.Core.Path.{◌∙◌}
use Prim.Native.Nat.{ℕ, ◌+◌, ◌-◌, ◌*◌, ◌/◌, ◌%◌, ◌^◌, ◌≤◌, ◌<◌}
use native.Mathlib.Omega.{arith}
use native.Mathlib.Nat.{lt_of_lt_of_le}
use lib.Dec.{lit<, lit≤}
use Rattle.arctangent.proofs.Reaching.{n_bounds, two_bounds, is_half, is_quarter, is_two}
use Rattle.arctangent.proofs.argument.between.Goals as goal
use Rattle.arctangent.proofs.argument.between.Goals.{Start}

-- |x| in units of 2^-54
abbrev n : Start → ℕ
n s = s.args.p.digits * 2 ^ (s.args.p.exponent - 1020) % 2 ^ 64

bounds : (s : Start) → (2 ^ 52 ≤ n s) × (n s < 2 ^ 56)
bounds s = n_bounds s.args.p.digits s.args.p.exponent (s.args.p.leading (lt_of_lt_of_le (lit≤ tt) s.requires.0)) s.args.p.digits_fit s.requires.0 s.requires.1

pub next_to-requires : goal.next_to-requires
next_to-requires c = go (n (goal.at.next_to-requires c).Start) (bounds (goal.at.next_to-requires c).Start).0 c.if-n-lt-THREE_QUARTERS.true
  where
    go : (n : ℕ) → 2 ^ 52 ≤ n → n < 3 * 2 ^ 52
        → (4 * (2 * n - 2 ^ 54) ≤ n + 2 * 2 ^ 54) × (4 * (2 ^ 54 - 2 * n) ≤ n + 2 * 2 ^ 54) × (0 < n + 2 * 2 ^ 54) × (n + 2 * 2 ^ 54 < 2 ^ 56) × (4399835472195684314 < 55 * 2 ^ 58) × (123441080383072520 < 55 * 2 ^ 58)
    go n h k = (omega arith, omega arith, omega arith, omega arith, lit< tt, lit< tt)

pub returns-then-n-lt-THREE_QUARTERS : goal.returns-then-n-lt-THREE_QUARTERS
returns-then-n-lt-THREE_QUARTERS c = c.next_to.ensures ∙ is_half c.args.p.digits c.args.p.exponent (c.args.p.leading (lt_of_lt_of_le (lit≤ tt) c.requires.0)) c.args.p.digits_fit c.requires.0 c.requires.1 c.if-n-lt-THREE_QUARTERS.true

pub returns-then-n-lt-THREE_HALVES : goal.returns-then-n-lt-THREE_HALVES
returns-then-n-lt-THREE_HALVES c =
    c.next_to-then-n-lt-THREE_HALVES.ensures ∙ is_quarter c.args.p.digits c.args.p.exponent (c.args.p.leading (lt_of_lt_of_le (lit≤ tt) c.requires.0)) c.args.p.digits_fit c.requires.0 c.requires.1 c.if-n-lt-THREE_QUARTERS.false c.if-n-lt-THREE_HALVES.true

pub next_to-requires-2 : goal.next_to-requires-2
next_to-requires-2 c =
    let b = two_bounds c.args.p.digits c.args.p.exponent (c.args.p.leading (lt_of_lt_of_le (lit≤ tt) c.requires.0)) c.args.p.digits_fit c.requires.0 c.requires.1 c.if-n-lt-THREE_HALVES.false in
    go (n (goal.at.next_to-requires-2 c).Start / 4) b.0 b.1
  where
    go : (m : ℕ) → 6 * 2 ^ 50 ≤ m → m < 2 ^ 54
        → (4 * (m - 2 * 2 ^ 52) ≤ 2 * m + 2 ^ 52) × (4 * (2 * 2 ^ 52 - m) ≤ 2 * m + 2 ^ 52) × (0 < 2 * m + 2 ^ 52) × (2 * m + 2 ^ 52 < 2 ^ 56) × (2 * 7481936585978271796 + 123441080383072520 < 55 * 2 ^ 58) × (2 * 237917127901148953 + 4399835472195684314 < 55 * 2 ^ 58)
    go m h k = (omega arith, omega arith, omega arith, omega arith, lit< tt, lit< tt)

pub returns : goal.returns
returns c =
    c.next_to-2.ensures ∙ is_two c.args.p.digits c.args.p.exponent (c.args.p.leading (lt_of_lt_of_le (lit≤ tt) c.requires.0)) c.args.p.digits_fit c.requires.0 c.requires.1 c.if-n-lt-THREE_HALVES.false
