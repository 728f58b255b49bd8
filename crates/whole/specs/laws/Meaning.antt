-- `round` picks the nearest, a half going up. Assumes nothing.
use Rattle.std.specs.Prelude.{◌≡◌, refl, Bool, false, ℕ, ◌+◌, ◌*◌, ◌<◌, Float}
use Rattle.std.proofs.Common.{true≢false, mul-pos, arith, lit<}
use Rattle.std.specs.Float.{nan, inf, fin}
use Rattle.std.specs.Float.Ieee.Nearest.{div_same}
use Rattle.std.specs.Float.Ieee.Scale.{finite}
use Rattle.whole.specs.Whole.{round_of, half_up}
use Rattle.whole.specs.laws.Wholes.{Picks}

half-same : (a c A C : ℕ) → 0 < c → 0 < C → a * C ≡ A * c → half_up a c ≡ half_up A C
unfolding half_up
half-same a c A C p q e = div_same (2 * a + c) (2 * c) (2 * A + C) (2 * C) (mul-pos (lit< tt) p) (mul-pos (lit< tt) q) (omega arith)

half-one : (n : ℕ) → half_up n 1 ≡ n
unfolding half_up
half-one n = omega arith

round_other : (x : Float) → finite x ≡ false → round_of x ≡ x
unfolding round_of
round_other nan h = refl
round_other (inf s) h = refl
round_other (fin s m e) h = absurd (true≢false h)

pub round_picks : Picks round_of (λ (s : Bool). half_up)
unfolding round_of
round_picks = record { other = round_other; at = λ s m e. refl; same = λ s. half-same; one = λ s. half-one }
