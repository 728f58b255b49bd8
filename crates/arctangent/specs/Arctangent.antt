-- The steps of the arc tangent: docs/STEPS.md, "Arc tangent". Definitions only.
use Rattle.std.specs.Prelude.{Bool, ℕ, ◌+◌, ◌-◌, ◌*◌, ◌/◌, ◌^◌, ltb, Float, Result, Ok, Err}
use Rattle.std.specs.Float.{nan, inf, fin, binary64}
use Rattle.std.specs.Float.Ieee.{up, down, round}
use Rattle.laws.specs.Ladder.{when◌gives◌else◌}
use Rattle.answer.specs.declared.Answer.{Answer}
use Rattle.answer.specs.declared.Refusal.{Refusal}
use Rattle.answer.specs.declared.Answer.TheVariants.{One}
use Rattle.answer.specs.declared.Refusal.TheVariants.{NotANumber}
use Rattle.arctangent.specs.Sums.{run_of}
use Rattle.arctangent.specs.declared.sums.Sides.{Sides}

-- what a sum adds and what it takes away, apart, so that each cut only loses
abbrev pub sides : ℕ → ℕ → Sides
sides a b = record { added = a; taken = b }

-- 1 - w / 3 + w² / 5 - .. + w²⁰ / 41 with w = t², t in units of 2^-64, both sides in units of 2^-63
unfoldable pub factor_of : ℕ → Sides
factor_of t =
    let w = t * t / 2 ^ 64 in
    let u = w * w / 2 ^ 64 in
    sides (run_of u 1 4 11) (w * run_of u 3 4 10 / 2 ^ 64)

-- A(a / b) = t (1 - t² / 3 + ..) of t = a / b, both sides in units of 2^-63
unfoldable pub sum_of : ℕ → ℕ → Sides
sum_of a b =
    let t = a * 2 ^ 64 / b in
    let f = factor_of t in
    sides (t * f.added / 2 ^ 64) (t * f.taken / 2 ^ 64)

-- c + A((a - b) / d), of either sign
unfoldable pub next_to : Sides → ℕ → ℕ → ℕ → Sides
next_to c a b d =
    let up = sum_of (a - b) d in
    let down = sum_of (b - a) d in
    sides (c.added + up.added + down.taken) (c.taken + up.taken + down.added)

-- A(1/3) + A(1/7), which stands for arctan 1/2, and A(1/3) more, for π / 4: both sides cut
abbrev pub half_sides : Sides
half_sides = sides 4399835472195684314 123441080383072520

abbrev pub quarter_sides : Sides
quarter_sides = sides 7481936585978271796 237917127901148953

-- π / 2, and arctan 2 = π / 2 - arctan 1/2
abbrev pub right_sides : Sides
right_sides = sides (2 * quarter_sides.added) (2 * quarter_sides.taken)

abbrev pub two_sides : Sides
two_sides = sides (right_sides.added + half_sides.taken) (right_sides.taken + half_sides.added)

-- of x = p / q from 1/4 on
unfoldable pub sides_at : ℕ → ℕ → Sides
sides_at p q =
    when ltb (4 * p) (3 * q) gives next_to half_sides (2 * p) q (p + 2 * q) else
    when ltb (2 * p) (3 * q) gives next_to quarter_sides p q (p + q) else
    when ltb p (4 * q) gives next_to two_sides p (2 * q) (2 * p + q) else
    next_to right_sides 0 q p

-- the difference, rounded once, with x's sign; below 1/4 it is a multiple of x, the product exact
unfoldable pub arctangent_at : Bool → ℕ → ℕ → Float
arctangent_at s p q =
    let f = factor_of (p * 2 ^ 64 / q) in
    let z = sides_at p q in
    when ltb (4 * p) q gives round binary64 s (p * (f.added - f.taken)) (q * 2 ^ 63) else
    round binary64 s (z.added - z.taken) (2 ^ 63)

unfoldable pub arctangent_of : Float → Result Answer Refusal
arctangent_of nan = Err NotANumber
arctangent_of (inf s) = Ok (One (round binary64 s (right_sides.added - right_sides.taken) (2 ^ 63)))
arctangent_of (fin s m e) = Ok (One (arctangent_at s (m * up e) (down e)))
