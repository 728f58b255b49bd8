-- The arc tangent is odd, bit for bit, so that -0 goes to -0. Assumes nothing.
use Rattle.std.specs.Prelude.{◌≡◌, Bool, true, false, not, cond, ℕ, ◌-◌, ◌*◌, ◌/◌, ◌^◌, T, ltb, Float, Ok}
use Rattle.std.proofs.Common.{ap}
use Rattle.std.specs.Float.{nan, inf, fin, binary64}
use Rattle.std.specs.Float.Ieee.{up, down, round, neg, is_nan}
use Rattle.laws.specs.laws.Exact.{round-neg}
use Rattle.answer.specs.declared.Answer.TheVariants.{One}
use Rattle.answer.specs.Answer.{value_of}
use Rattle.arctangent.specs.Arctangent.{right_sides, factor_of, sides_at, arctangent_at, arctangent_of}

at_odd : (s : Bool) (p q : ℕ) → arctangent_at (not s) p q ≡ neg (arctangent_at s p q)
unfolding arctangent_at
at_odd s p q =
    let f = factor_of (p * 2 ^ 64 / q) in
    let z = sides_at p q in
    go (p * (f.added - f.taken)) (q * 2 ^ 63) (z.added - z.taken) (ltb (4 * p) q)
  where
    go : (a c d : ℕ) (b : Bool) → cond b (round binary64 (not s) a c) (round binary64 (not s) d (2 ^ 63)) ≡ neg (cond b (round binary64 s a c) (round binary64 s d (2 ^ 63)))
    go a c d true = round-neg binary64 s a c
    go a c d false = round-neg binary64 s d (2 ^ 63)

pub odd : (x : Float) → T (not (is_nan x)) → arctangent_of (neg x) ≡ Ok (One (neg (value_of (arctangent_of x))))
unfolding arctangent_of value_of neg is_nan
odd nan h = absurd h
odd (inf s) h = ap (λ (v : Float). Ok (One v)) (round-neg binary64 s (right_sides.added - right_sides.taken) (2 ^ 63))
odd (fin s m e) h = ap (λ (v : Float). Ok (One v)) (at_odd s (m * up e) (down e))
