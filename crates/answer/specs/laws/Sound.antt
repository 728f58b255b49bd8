-- What a sound answer reads out as. Assumes nothing.
use Rattle.std.specs.Prelude.{◌≡◌, refl, false, ℕ, ◌≤◌, T, Float, Result, Ok, Err}
use Rattle.std.proofs.Common.{le_trans, leb→le, lit≤}
use Rattle.std.specs.Float.{nan, inf, fin, binary64}
use Rattle.std.specs.Float.Ieee.{is_nan, fits, of_bits}
use Rattle.std.specs.Float.Ieee.Bits.{of_bits-fits}
use Rattle.std.specs.Float.Ieee.Fits.{inf-fits}
use Rattle.answer.specs.declared.Answer.{Answer}
use Rattle.answer.specs.declared.Refusal.{Refusal}
use Rattle.answer.specs.declared.Answer.TheVariants.{One, Pair, Infinite}
use Rattle.answer.specs.Answer.{refusal_of, first_of}
use Rattle.answer.specs.Numbers.{stored}
use Rattle.answer.specs.Sound.{Number, Value, Sound}

pub number-value : (x : Float) → Number x → Value x
unfolding is_nan
number-value nan n = absurd n.bounded
number-value (inf s) n = absurd n.bounded
number-value (fin s m e) n = record { number = refl; fit = n.fit }

-- ---- read out

pub stored_refusal : (a : Result Answer Refusal) → Sound a → T (stored (refusal_of a))
unfolding Sound refusal_of stored
stored_refusal (Ok (One x)) s = tt
stored_refusal (Ok (Pair x y)) s = tt
stored_refusal (Ok (Infinite t)) s = tt
stored_refusal (Err n) s = s.1

-- a row has one byte for it
pub stored_byte : (q : ℕ) → T (stored q) → q ≤ 255
unfolding stored
stored_byte q h = le_trans (leb→le q 6 h) (lit≤ tt)

pub never_nan : (a : Result Answer Refusal) → Sound a → is_nan (first_of a) ≡ false
unfolding Sound first_of is_nan of_bits
never_nan (Ok (One x)) s = (number-value x s).number
never_nan (Ok (Pair x y)) s = s.0.number
never_nan (Ok (Infinite t)) s = refl
never_nan (Err n) s = refl

pub fits-first : (a : Result Answer Refusal) → Sound a → T (fits binary64 (first_of a))
unfolding Sound first_of
fits-first (Ok (One x)) s = s.fit
fits-first (Ok (Pair x y)) s = s.0.fit
fits-first (Ok (Infinite t)) s = inf-fits binary64 t
fits-first (Err n) s = of_bits-fits binary64 0
