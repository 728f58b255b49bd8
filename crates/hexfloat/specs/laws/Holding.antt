-- Digits held are the number that they spell. Assumes nothing.
use Rattle.std.specs.Prelude.{◌≡◌, refl, ℕ, zero, suc, ◌+◌, ◌*◌, ◌/◌, ◌%◌, ◌^◌, ◌≤◌, ◌<◌, Bool, true, false, cond, ◌||◌, Option, Some, None, List, [], ◌∷◌, ◌++◌, ltb, length}
use Rattle.std.proofs.Common.{sym, ap, ◌∙◌, div-one, div-add-mod', arith, ltb-true, ltb-false}
use Rattle.std.proofs.Math.Nat.{mod-one}
use Rattle.std.specs.Option.{option_and_then}
use Rattle.std.proofs.lemmas.Option.{same_Some}
use Rattle.laws.specs.Ladder.{when◌gives◌else◌}
use Rattle.bits.specs.Rounded.{Kept}
use Rattle.bits.specs.laws.Keeping.{kept-digits, kept_high, kept_rest}
use Rattle.hexfloat.specs.declared.digits.Held.{Held}
use Rattle.hexfloat.specs.Reading.{hex_digit_of, hex_of, given}
use Rattle.hexfloat.specs.Steps.{no_digits, with_digit, held_from, Holds, Leads}

-- ---- one more digit

-- where nothing was dropped, what is held is the number
pub all_held : (n w : ℕ) (m : Bool) → Kept n w 0 m → (n ≡ w) × (m ≡ false)
all_held n w m K = (sym (div-one n) ∙ K.whole, sym K.rest ∙ ap (ltb 0) (mod-one n))

itself : (n : ℕ) → Kept n n 0 false
itself n = record { whole = div-one n; rest = ap (ltb 0) (mod-one n) }

none_dropped : (n : ℕ) (h : Held) → Holds n h → h.digits < 2 ^ 124 → h.dropped ≡ 0
none_dropped n h H l = go h.dropped H.full
  where
    go : (k : ℕ) → (0 < k → 2 ^ 124 ≤ h.digits) → k ≡ 0
    go zero f = refl
    go (suc k) f = let x = f (omega arith) in absurd (omega arith)

-- a digit behind those that were dropped
behind : (n w e d : ℕ) (m : Bool) → d < 16 → Kept n w e m → Kept (n * 16 + d) w (e + 4) (m || ltb 0 d)
behind n w e d m l K =
    let D : Kept (n * 16 + d) n 4 (ltb 0 d) = kept-digits (n * 16 + d) n 4 d (ltb 0 d) refl l refl in
    record {
      whole = kept_high (n * 16 + d) n 4 e (ltb 0 d) D ∙ K.whole;
      rest = kept_rest (n * 16 + d) n 4 e (ltb 0 d) D ∙ ap (λ (t : Bool). ltb 0 d || t) K.rest ∙ or_comm (ltb 0 d) m;
    }
  where
    or_comm : (p q : Bool) → (p || q) ≡ (q || p)
    or_comm true true = refl
    or_comm true false = refl
    or_comm false true = refl
    or_comm false false = refl

-- so too in two halves of 64 bits
sixteen_fold : (a b d : ℕ) → (a * 16 + b / 2 ^ 60) * 2 ^ 64 + (b % 2 ^ 60 * 16 + d) ≡ (a * 2 ^ 64 + b) * 16 + d
sixteen_fold a b d = go (b / 2 ^ 60) (b % 2 ^ 60) (div-add-mod' b (2 ^ 60))
  where
    go : (q r : ℕ) → q * 2 ^ 60 + r ≡ b → (a * 16 + q) * 2 ^ 64 + (r * 16 + d) ≡ (a * 2 ^ 64 + b) * 16 + d
    go q r e = omega arith

four_more : (k : ℕ) → 4 * (k + 1) ≡ 4 * k + 4
four_more k = omega arith

pub holds_more : (n : ℕ) (h : Held) (d : ℕ) → d < 16 → Holds n h → Holds (n * 16 + d) (with_digit h d)
unfolding with_digit
holds_more n h d l H = go (ltb h.digits (2 ^ 124)) refl
  where
    go : (t : Bool) → ltb h.digits (2 ^ 124) ≡ t
        → Holds (n * 16 + d) (when t gives record { digits = h.digits * 16 + d; more = h.more; dropped = h.dropped } else
        record { digits = h.digits; more = h.more || ltb 0 d; dropped = h.dropped + 1 })
    go true e =
        let z = none_dropped n h H (ltb-true h.digits (2 ^ 124) e) in
        let k : Kept n h.digits 0 h.more = rw z at H.kept in
        let a = all_held n h.digits h.more k in
        record {
          kept = rw (z, a.1) (rw (ap (λ (x : ℕ). x * 16 + d) (sym a.0)) (itself (n * 16 + d)));
          full = λ (p : 0 < h.dropped). absurd (omega arith);
        }
    go false e = record { kept = rw (four_more h.dropped) (behind n _ (4 * h.dropped) d h.more l H.kept); full = λ _. ltb-false h.digits (2 ^ 124) e }

-- ---- all of them

-- one more digit drops one at most
pub dropped_more : (h : Held) (d : ℕ) → (with_digit h d).dropped ≤ h.dropped + 1
unfolding with_digit
dropped_more h d = go (ltb h.digits (2 ^ 124)) _ _ (omega arith) (omega arith)
  where
    go : (t : Bool) (a b : Held) → a.dropped ≤ h.dropped + 1 → b.dropped ≤ h.dropped + 1 → (cond t a b).dropped ≤ h.dropped + 1
    go true a b p q = p
    go false a b p q = q

pub none-held : Leads (Some 0) (Some no_digits)
unfolding Leads
none-held = record { kept = itself 0; full = λ (p : 0 < 0). absurd (omega arith) }

spelt : (n : ℕ) (h : Held) (s : List ℕ) → Holds n h → Leads (hex_of n s) (held_from h s)
unfolding hex_of held_from Leads
spelt n h [] H = H
spelt n h (x ∷ xs) H =
    go (ltb (hex_digit_of x) 16) refl (λ l. spelt (n * 16 + hex_digit_of x) (with_digit h (hex_digit_of x)) xs (holds_more n h (hex_digit_of x) l H))
  where
    go : (t : Bool) → ltb (hex_digit_of x) 16 ≡ t → (hex_digit_of x < 16 → Leads (hex_of (n * 16 + hex_digit_of x) xs) (held_from (with_digit h (hex_digit_of x)) xs))
        → Leads (cond t (hex_of (n * 16 + hex_digit_of x) xs) None) (cond t (held_from (with_digit h (hex_digit_of x)) xs) None)
    go true e next = next (ltb-true (hex_digit_of x) 16 e)
    go false e next = tt

-- digits after those that led to a number
pub leads_on : (n : Option ℕ) (h : Option Held) (s : List ℕ) → Leads n h → Leads (given n (λ m. hex_of m s)) (option_and_then (λ (k : Held). held_from k s) h)
unfolding given Leads
leads_on None None s e = tt
leads_on None (Some h) s e = absurd e
leads_on (Some n) None s e = absurd e
leads_on (Some n) (Some h) s e = spelt n h s e

pub spelt_both : (n : ℕ) (a b : List ℕ) → hex_of n (a ++ b) ≡ given (hex_of n a) (λ m. hex_of m b)
unfolding hex_of given
spelt_both n [] b = refl
spelt_both n (x ∷ xs) b = go (ltb (hex_digit_of x) 16) (spelt_both (n * 16 + hex_digit_of x) xs b)
  where
    go : (t : Bool) → hex_of (n * 16 + hex_digit_of x) (xs ++ b) ≡ given (hex_of (n * 16 + hex_digit_of x) xs) (λ m. hex_of m b)
        → cond t (hex_of (n * 16 + hex_digit_of x) (xs ++ b)) None ≡ given (cond t (hex_of (n * 16 + hex_digit_of x) xs) None) (λ m. hex_of m b)
    go true e = e
    go false e = refl

-- two parts of digits, from nothing
pub leads_both : (a b : List ℕ) → Leads (hex_of 0 (a ++ b)) (option_and_then (λ (h : Held). held_from h b) (held_from no_digits a))
unfolding given
leads_both a b = rw (spelt_both 0 a b) (leads_on (hex_of 0 a) (held_from no_digits a) b (leads_on (Some 0) (Some no_digits) a none-held))

-- what is held is a number
pub some_number : (n : Option ℕ) (h : Held) → Leads n (Some h) → (A : Type 0) → ((m : ℕ) → n ≡ Some m → Holds m h → A) → A
unfolding Leads
some_number None h e A next = absurd e
some_number (Some m) h e A next = next m refl e

pub no_number : (n : Option ℕ) → Leads n None → n ≡ None
unfolding Leads
no_number None e = refl
no_number (Some m) e = absurd e

-- digits drop at most so many
pub dropped-most : (h : Held) (s : List ℕ) (k : Held) → held_from h s ≡ Some k → k.dropped ≤ h.dropped + length s
unfolding held_from
dropped-most h [] k e = let same : h ≡ k = same_Some h k e in rw (← same) (omega arith)
dropped-most h (x ∷ xs) k e = go (ltb (hex_digit_of x) 16) (dropped-most (with_digit h (hex_digit_of x)) xs k) (dropped_more h (hex_digit_of x)) e
  where
    go : (t : Bool) → (held_from (with_digit h (hex_digit_of x)) xs ≡ Some k → k.dropped ≤ (with_digit h (hex_digit_of x)).dropped + length xs)
        → (with_digit h (hex_digit_of x)).dropped ≤ h.dropped + 1 → cond t (held_from (with_digit h (hex_digit_of x)) xs) None ≡ Some k → k.dropped ≤ h.dropped + suc (length xs)
    go true p q e = let r = p e in omega arith
    go false p q e = cc
