-- `round_full` meets its contract: the digits that stay, and the one that decides (`Leading`).
use Rattle.std.proofs.Common.{◌≡◌, ℕ, ◌+◌, ◌-◌, ◌/◌, ◌%◌, ◌^◌, Bool, ◌||◌, ltb, ap, ◌∙◌, arith}
use Prim.Native.Nat.{Ordering}
use lib.Ieee.{binary64, units, nearest}
use Rattle.laws.specs.laws.Digits.{one_shl}
use Rattle.bits.specs.Steps.{ord_of}
use Rattle.bits.proofs.Leading.{full_is, full_zero, full_bounds}
use Rattle.bits.proofs.rounding.round_full.Goals as goal
use Rattle.bits.proofs.rounding.round_full.Goals.{After-nearest_half-q}

-- of w without d - 1 digits the last decides
abbrev side : ℕ → ℕ → Bool → Ordering
side w d more = ord_of (w / 2 ^ (d - 1) % 2) (more || ltb 0 (w % 2 ^ (d - 1)))

abbrev kept : ℕ → ℕ → Bool → ℕ
kept w d more = nearest (w / 2 ^ (d - 1) / 2) (side w d more)

q-is : (c : After-nearest_half-q) → c.nearest_half-q.result ≡ kept c.args.w c.dropped-d.result c.args.more
q-is c =
    let a = c.args in
    let s = c.dropped-d.result - 1 in
    let g = c.if-d-gt64.false in
    c.nearest_half-q.ensures ∙ ap (λ (x : ℕ). nearest (a.w / 2 ^ s / 2) (ord_of (a.w / 2 ^ s % 2) (a.more || ltb 0 (a.w % x)))) (one_shl s (omega (arith, c.dropped-d.ensures.some, g)))

pub returns-then-d-gt64 : goal.returns-then-d-gt64
returns-then-d-gt64 c =
    let a = c.args in
    λ n k. c.packed.ensures ∙ full_zero a.negative n a.w a.e c.dropped-d.result a.more k c.requires.0 c.ranges.w.fits c.dropped-d.ensures c.if-d-gt64.true

pub packed-requires-2 : goal.packed-requires-2
packed-requires-2 c =
    full_bounds c.args.w c.args.e c.dropped-d.result c.nearest_half-q.result (side c.args.w c.dropped-d.result c.args.more) (q-is (goal.at.packed-requires-2 c).After-nearest_half-q) c.requires.0 c.ranges.w.fits c.dropped-d.ensures

pub returns : goal.returns
returns c =
    let a = c.args in
    λ n k.
    c.packed-2.ensures
    ∙ ap (λ (q : ℕ). units binary64 a.negative q (c.dropped-d.result + a.e - 1394)) (q-is (goal.at.returns c).After-nearest_half-q)
    ∙ full_is a.negative n a.w a.e c.dropped-d.result a.more k c.requires.0 c.ranges.w.fits c.dropped-d.ensures
