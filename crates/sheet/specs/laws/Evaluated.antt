-- What the sheet needs of every function, by one law over the function number. Assumes nothing.
use Rattle.std.specs.Prelude.{◌≡◌, refl, Bool, true, false, not, cond, ℕ, suc, ◌≤◌, ◌<◌, T, leb, eqb, Result, Ok, Err}
use Rattle.std.proofs.Common.{sym, ap, subst, zero-le, not-le_of_lt, arith, ne_eqb, leb→le, lit≤}
use Rattle.std.proofs.lemmas.Bool.{eqb-false}
use Rattle.std.proofs.Math.Dec.{nleb→lt}
use Rattle.std.specs.Float.Ieee.{is_nan, fits, of_bits}
use Rattle.std.specs.Float.{binary64}
use Rattle.std.specs.Float.Ieee.Bits.{of_bits-fits}
use Rattle.laws.specs.Arithmetic.{float, +0, 1·0, ◌=·◌}
use Rattle.answer.specs.Answer.{refusal_of, first_of, value_of}
use Rattle.answer.specs.Numbers.{last, stored}
use Rattle.answer.specs.Sound.{Sound}
use Rattle.answer.specs.laws.Sound as sound
use Rattle.answer.specs.laws.Fair.{numeric, fair_sound}
use Rattle.answer.specs.declared.Answer.{Answer}
use Rattle.answer.specs.declared.Refusal.{Refusal}
use Rattle.answer.specs.declared.Counted.{Counted}
use Rattle.answer.specs.Settle.{unasked_of}
use Rattle.answer.specs.declared.Answer.TheVariants.{One, Pair, Infinite}
use Rattle.answer.specs.declared.Refusal.TheVariants.{NoSuchFunction}
use Rattle.legendre.specs.laws.Values.{ellipk_answers, ellipe_answers, ellipke_answers}
use Rattle.ellippi.specs.laws.Values.{ellippi_may, ellippi_fair}
use Rattle.ellipeinc.specs.laws.Values.{ellipeinc_may, ellipeinc_fair}
use Rattle.ellipf.specs.laws.Values.{ellipf_may, ellipf_fair}
use Rattle.ellippi.specs.Ellippi.{ellippi_of}
use Rattle.ellipeinc.specs.Ellipeinc.{ellipeinc_of}
use Rattle.ellipf.specs.Ellipf.{ellipf_of}
use Rattle.sheet.specs.Functions.{counted_of, evaluate_of}

zero-sound : Sound (Ok (One +0))
unfolding Sound of_bits
zero-sound = record { bounded = tt; fit = of_bits-fits binary64 0 }

value-fits : (a : Result Answer Refusal) → Sound a → T (fits binary64 (value_of a))
unfolding Sound value_of fits
value-fits (Ok (One x)) s = s.fit
value-fits (Ok (Pair x y)) s = s.0.fit
value-fits (Ok (Infinite t)) s = tt
value-fits (Err n) s = tt

-- down the numbers: what the function of number k answers, and what is left above it
rung : (f k : ℕ) (a b : Counted) → k ≤ f → Sound a.answer → (suc k ≤ f → Sound b.answer) → Sound (cond (eqb f k) a b).answer
rung f k a b l p q = go (eqb f k) refl
  where
    above : (f ≡ k → ⊥) → suc k ≤ f
    above n = omega arith

    go : (t : Bool) → eqb f k ≡ t → Sound (cond t a b).answer
    go true e = p
    go false e = q (above (eqb-false f k e))

-- every function's answer is sound
pub evaluated_sound : (f a b c : ℕ) → f ≤ last → Sound (evaluate_of f a b c)
unfolding evaluate_of counted_of ellippi_of ellipeinc_of ellipf_of numeric stored
evaluated_sound f a b c h =
    let x = float a in
    let y = float b in
    let fit = of_bits-fits binary64 in
    rung f 0 _ _ zero-le zero-sound (λ l1.
    rung f 1 _ _ l1 (ellipk_answers.sound x (fit a)) (λ l2.
    rung f 2 _ _ l2 (ellipe_answers.sound x (fit a)) (λ l3.
    rung f 3 _ _ l3 (ellipke_answers.sound x (fit a)) (λ l4.
    rung f 4 _ _ l4 (fair_sound (ellippi_may (y =· 1·0)) _ tt (ellippi_fair x y (value-fits _ (ellipk_answers.sound y (fit b))))) (λ l5.
    rung f 5 _ _ l5 (fair_sound ellipeinc_may _ tt (ellipeinc_fair x y (fit a))) (λ l6.
    rung f 6 _ _ l6 (fair_sound ellipf_may _ tt (ellipf_fair x y (fit a))) (λ l7.
    absurd (not-le_of_lt l7 h))))))))

-- and a number above the last has none
pub counted-beyond : (f a b c : ℕ) → last < f → counted_of f a b c ≡ unasked_of (Err NoSuchFunction)
unfolding counted_of
counted-beyond f a b c h = rw (ne_eqb f 0 (λ e. omega arith), ne_eqb f 1 (λ e. omega arith), ne_eqb f 2 (λ e. omega arith), ne_eqb f 3 (λ e. omega arith), ne_eqb f 4 (λ e. omega arith), ne_eqb f 5 (λ e. omega arith), ne_eqb f 6 (λ e. omega arith))

pub beyond : (f a b c : ℕ) → last < f → evaluate_of f a b c ≡ Err NoSuchFunction
unfolding evaluate_of
beyond f a b c h = ap (λ (r : Counted). r.answer) (counted-beyond f a b c h)

-- what holds of every sound answer and of refusal 9 holds of every evaluation
each : (P : Result Answer Refusal → Type 0) → ((z : Result Answer Refusal) → Sound z → P z) → P (Err NoSuchFunction) → (f a b c : ℕ) → P (evaluate_of f a b c)
each P p q f a b c = go (leb f last) (leb→le f last) (nleb→lt f last)
  where
    go : (t : Bool) → (T t → f ≤ last) → (T (not t) → last < f) → P (evaluate_of f a b c)
    go true h k = p (evaluate_of f a b c) (evaluated_sound f a b c (h tt))
    go false h k = subst P (sym (beyond f a b c (k tt))) q

-- a function's refusal is one that a row may store
pub stored_refusal : (f a b c : ℕ) → f ≤ last → T (stored (refusal_of (evaluate_of f a b c)))
stored_refusal f a b c h = sound.stored_refusal (evaluate_of f a b c) (evaluated_sound f a b c h)

-- a refusal number fits a byte
pub refusal_byte : (f a b c : ℕ) → refusal_of (evaluate_of f a b c) ≤ 255
unfolding refusal_of
refusal_byte = each (λ z. refusal_of z ≤ 255) (λ z s. sound.stored_byte (refusal_of z) (sound.stored_refusal z s)) (lit≤ tt)

-- no first answer is NaN
pub never_nan : (f a b c : ℕ) → is_nan (first_of (evaluate_of f a b c)) ≡ false
unfolding first_of is_nan of_bits
never_nan = each (λ z. is_nan (first_of z) ≡ false) sound.never_nan refl

-- and each is an f64
pub fits-first : (f a b c : ℕ) → T (fits binary64 (first_of (evaluate_of f a b c)))
unfolding first_of
fits-first = each (λ z. T (fits binary64 (first_of z))) sound.fits-first (of_bits-fits binary64 0)
