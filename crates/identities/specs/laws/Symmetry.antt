-- Sine is odd and cosine even, bit for bit; and sine of ±0 is ±0. Assumes nothing.
use Rattle.std.specs.Prelude.{◌≡◌, refl, Bool, true, false, not, cond, ℕ, ◌*◌, ◌^◌, ltb, Float, Ok, Err}
use Rattle.std.proofs.Common.{ap, ◌∙◌}
use Rattle.std.specs.Float.{nan, inf, fin, binary64}
use Rattle.std.specs.Float.Ieee.{up, down, unlike, round, neg, of_bits}
use Rattle.laws.specs.Arithmetic.{+0, float}
use Rattle.laws.specs.laws.Exact.{round-neg}
use Rattle.answer.specs.declared.Answer.TheVariants.{One}
use Rattle.answer.specs.declared.Refusal.TheVariants.{OutOfRange}
use Rattle.bounds.specs.Close.{distance_of}
use Rattle.angle.specs.Alternating.{square_of, alternating_of, up_to_four}
use Rattle.angle.specs.Sine.{sine_at, sine_of}
use Rattle.angle.specs.Cosine.{cosine_by, cosine_at, cosine_of}
use Rattle.identities.specs.Turned.{turn_of}

turned : (s b : Bool) → unlike (not s) b ≡ not (unlike s b)
turned true true = refl
turned true false = refl
turned false true = refl
turned false false = refl

sine_turned : (s : Bool) (p q : ℕ) → sine_at (not s) p q ≡ neg (sine_at s p q)
unfolding sine_at
sine_turned s p q =
    let b = alternating_of (square_of p q) 1 20 in
    ap (λ (t : Bool). round binary64 t (p * distance_of b.added b.taken) (q * 2 ^ 60)) (turned s (ltb b.added b.taken))
    ∙ round-neg binary64 (unlike s (ltb b.added b.taken)) (p * distance_of b.added b.taken) (q * 2 ^ 60)

pub sine_odd : (x : Float) → sine_of (neg x) ≡ turn_of (sine_of x)
unfolding sine_of up_to_four neg turn_of
sine_odd nan = refl
sine_odd (inf s) = refl
sine_odd (fin s m e) = go (ltb (4 * down e) (m * up e))
  where
    go : (b : Bool) → cond b (Err OutOfRange) (Ok (One (sine_at (not s) (m * up e) (down e)))) ≡ turn_of (cond b (Err OutOfRange) (Ok (One (sine_at s (m * up e) (down e)))))
    go true = refl
    go false = ap (λ (v : Float). Ok (One v)) (sine_turned s (m * up e) (down e))

pub cosine_even : (x : Float) → cosine_of (neg x) ≡ cosine_of x
unfolding cosine_of up_to_four cosine_by cosine_at neg
cosine_even nan = refl
cosine_even (inf s) = refl
cosine_even (fin s m e) = refl

pub sine_zero : sine_of +0 ≡ Ok (One +0)
unfolding sine_of up_to_four sine_at square_of alternating_of round of_bits
sine_zero = refl

pub sine_minus_zero : sine_of (float 0x8000_0000_0000_0000) ≡ Ok (One (float 0x8000_0000_0000_0000))
unfolding sine_of up_to_four sine_at square_of alternating_of round of_bits
sine_minus_zero = refl
