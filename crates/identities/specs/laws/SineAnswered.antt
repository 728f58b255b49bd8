-- Where there is an answer: sine and cosine for |x| ≤ 4. Assumes nothing.
use Rattle.std.specs.Prelude.{◌≡◌, Bool, true, false, not, cond, ℕ, ◌*◌, ◌≤◌, ◌<◌, ℤ, T, ltb, Float, Ok, Err}
use Rattle.std.proofs.Common.{ap, not-le_of_lt, ltb→lt}
use Rattle.std.specs.Float.{fin}
use Rattle.std.specs.Float.Ieee.{up, down}
use Rattle.std.specs.Float.Ieee.Bits.{is_false}
use Rattle.answer.specs.declared.Answer.TheVariants.{One}
use Rattle.answer.specs.declared.Refusal.TheVariants.{OutOfRange}
use Rattle.angle.specs.Alternating.{up_to_four}
use Rattle.angle.specs.Sine.{sine_at, sine_of}
use Rattle.angle.specs.Cosine.{cosine_at, cosine_of}

up_to_four_lem : (f : Bool → ℕ → ℕ → Float) (s : Bool) (m : ℕ) (e : ℤ) → m * up e ≤ 4 * down e → up_to_four f (fin s m e) ≡ Ok (One (f s (m * up e) (down e)))
unfolding up_to_four
up_to_four_lem f s m e h =
    ap (λ (b : Bool). cond b (Err OutOfRange) (Ok (One (f s (m * up e) (down e))))) (is_false (ltb (4 * down e) (m * up e)) (none (ltb (4 * down e) (m * up e)) (ltb→lt (4 * down e) (m * up e))))
  where
    none : (b : Bool) → (T b → 4 * down e < m * up e) → T (not b)
    none true k = absurd (not-le_of_lt (k tt) h)
    none false k = tt

pub sine_answers : (s : Bool) (m : ℕ) (e : ℤ) → m * up e ≤ 4 * down e → sine_of (fin s m e) ≡ Ok (One (sine_at s (m * up e) (down e)))
unfolding sine_of
sine_answers = up_to_four_lem sine_at

pub cosine_answers : (s : Bool) (m : ℕ) (e : ℤ) → m * up e ≤ 4 * down e → cosine_of (fin s m e) ≡ Ok (One (cosine_at s (m * up e) (down e)))
unfolding cosine_of
cosine_answers = up_to_four_lem cosine_at
