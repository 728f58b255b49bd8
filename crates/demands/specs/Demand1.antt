-- DEMAND 1. Every function at every pattern, and every call on any bytes, has an answer or one of 01's numbers; a refusal reads as two zeros, NaN is never handed
-- out, and a refused call changes no byte. `evaluate_of`, `blank_of`, `edit_of` and the others are what the public contracts cite. Assumes nothing.
use Rattle.std.specs.Prelude.{◌≡◌, refl, Bool, true, false, cond, not, List, [], ◌∷◌, ℕ, ◌≤◌, ◌<◌, leb, ltb, eqb, length, Result, Ok, Err}
use Rattle.std.proofs.Common.{arith, ne_eqb}
use Rattle.std.specs.Float.Ieee.{is_nan, of_bits}
use Rattle.laws.specs.Arithmetic.{+0}
use Rattle.answer.specs.declared.Answer.{Answer}
use Rattle.answer.specs.declared.Refusal.{Refusal}
use Rattle.answer.specs.declared.Answer.TheVariants.{One, Pair, Infinite}
use Rattle.answer.specs.declared.Refusal.TheVariants.{NoSuchFunction}
use Rattle.answer.specs.Answer.{refusal_of, first_of, second_of}
use Rattle.answer.specs.Numbers.{last}
use Rattle.answer.specs.Sound.{Sound}
use Rattle.answer.specs.laws.Sound.{never_nan}
use Rattle.sheet.specs.Functions.{evaluate_of}
use Rattle.sheet.specs.laws.Evaluated.{evaluated_sound, beyond}
use Rattle.ledger.specs.Sheet.{withdrawn, without_times, with_times, most_rows, size_for}
use Rattle.ledger.specs.Calls.{is_sheet_of, is_sheet, rows_in, damaged, rungs, blank_refusal, blank_of, row_refusal, read_of, times_of, total_refusal, total_of}
use Rattle.ledger.specs.laws.Refusals.{says}
use Rattle.sheet.specs.declared.Entry.{Entry}
use Rattle.sheet.specs.Edit.{edit_refusal, edit_of}

-- n is one of these
pub data OneOf (n : ℕ) : List ℕ → Type 0 where
  here : {xs : List ℕ} → OneOf n (n ∷ xs)
  there : {x : ℕ} {xs : List ℕ} → OneOf n xs → OneOf n (x ∷ xs)

pub record Demand1 : Type 0 where
  -- one finite value, a pair, an infinity, or a numeric refusal
  pub answers : (f a b c : ℕ) → f ≤ last → Sound (evaluate_of f a b c)
  -- a number that is no function's has refusal 9
  pub no_function : (f a b c : ℕ) → last < f → evaluate_of f a b c ≡ Err NoSuchFunction
  -- NaN is never handed out
  pub no_nan : (f a b c : ℕ) → f ≤ last → let z = evaluate_of f a b c in (is_nan (first_of z) ≡ false) × (is_nan (second_of z) ≡ false)
  -- a refusal reads as two zeros
  pub zeros : (f a b c : ℕ) → let z = evaluate_of f a b c in 0 < refusal_of z → (first_of z ≡ +0) × (second_of z ≡ +0)
  -- the calls' numbers, for any bytes; 0: not refused
  pub blank_numbers : (s : List ℕ) (r : ℕ) → OneOf (blank_refusal s r) (0 ∷ 11 ∷ 7 ∷ [])
  pub edit_numbers : (s : List ℕ) (i f : ℕ) → OneOf (edit_refusal s i f) (0 ∷ 7 ∷ 8 ∷ 22 ∷ 9 ∷ 10 ∷ [])
  pub row_numbers : (s : List ℕ) (i : ℕ) → OneOf (row_refusal s i) (0 ∷ 7 ∷ 8 ∷ [])
  pub total_numbers : (s : List ℕ) → OneOf (total_refusal s) (0 ∷ 7 ∷ [])
  -- a refused call changes no byte
  pub blank_kept : (s : List ℕ) (r : ℕ) → (blank_refusal s r ≡ 0 → ⊥) → blank_of s r ≡ s
  pub edit_kept : (s : List ℕ) (i : ℕ) (e : Entry) → (edit_refusal s i e.function ≡ 0 → ⊥) → edit_of s i e ≡ s
  -- a refused row read hands back nothing, a refused total is +0 and refused times are 0
  pub read_nothing : (s : List ℕ) (i : ℕ) → (row_refusal s i ≡ 0 → ⊥) → read_of s i ≡ []
  pub total_zero : (s : List ℕ) → (total_refusal s ≡ 0 → ⊥) → total_of s ≡ +0
  pub times_zero : (s : List ℕ) (i : ℕ) → (row_refusal s i ≡ 0 → ⊥) → times_of s i ≡ 0
  -- a sheet without times is only read: every edit of it is refused by 7
  pub only_read : (s : List ℕ) (i f : ℕ) → is_sheet_of without_times s ≡ true → (total_refusal s ≡ 0) × (edit_refusal s i f ≡ 7)

-- ---- why

-- a refused answer reads as two zeros
refused_zeros : (a : Result Answer Refusal) → 0 < refusal_of a → (first_of a ≡ +0) × (second_of a ≡ +0)
unfolding refusal_of first_of second_of
refused_zeros (Ok (One x)) h = absurd (let z : ⊥ = omega arith in z)
refused_zeros (Ok (Pair x y)) h = absurd (let z : ⊥ = omega arith in z)
refused_zeros (Ok (Infinite s)) h = absurd (let z : ⊥ = omega arith in z)
refused_zeros (Err n) h = (refl, refl)

second_never_nan : (a : Result Answer Refusal) → Sound a → is_nan (second_of a) ≡ false
unfolding Sound second_of is_nan of_bits
second_never_nan (Ok (One x)) s = refl
second_never_nan (Ok (Pair x y)) s = s.1.number
second_never_nan (Ok (Infinite t)) s = refl
second_never_nan (Err n) s = refl

blank_of_lem : (s : List ℕ) (r : ℕ) → OneOf (blank_refusal s r) (0 ∷ 11 ∷ 7 ∷ [])
unfolding blank_refusal
blank_of_lem s r = go (ltb most_rows r) (eqb (length s) (size_for r))
  where
    go : (p q : Bool) → OneOf (cond p 11 (cond (not q) 7 0)) (0 ∷ 11 ∷ 7 ∷ [])
    go true q = there here
    go false false = there (there here)
    go false true = here

edit_of_lem : (s : List ℕ) (i f : ℕ) → OneOf (edit_refusal s i f) (0 ∷ 7 ∷ 8 ∷ 22 ∷ 9 ∷ 10 ∷ [])
unfolding edit_refusal rungs
edit_of_lem s i f = go (is_sheet_of with_times s) (leb (rows_in s) i) (eqb f withdrawn) (ltb last f) (damaged s i)
  where
    go : (p q o r t : Bool) → OneOf (cond (not p) 7 (cond q 8 (cond o 22 (cond r 9 (cond t 10 0))))) (0 ∷ 7 ∷ 8 ∷ 22 ∷ 9 ∷ 10 ∷ [])
    go false q o r t = there here
    go true true o r t = there (there here)
    go true false true r t = there (there (there here))
    go true false false true t = there (there (there (there here)))
    go true false false false true = there (there (there (there (there here))))
    go true false false false false = here

row_of : (s : List ℕ) (i : ℕ) → OneOf (row_refusal s i) (0 ∷ 7 ∷ 8 ∷ [])
unfolding row_refusal
row_of s i = go (is_sheet s) (leb (rows_in s) i)
  where
    go : (p q : Bool) → OneOf (cond (not p) 7 (cond q 8 0)) (0 ∷ 7 ∷ 8 ∷ [])
    go false q = there here
    go true true = there (there here)
    go true false = here

total_of_lem : (s : List ℕ) → OneOf (total_refusal s) (0 ∷ 7 ∷ [])
unfolding total_refusal
total_of_lem s = go (is_sheet s)
  where
    go : (p : Bool) → OneOf (cond (not p) 7 0) (0 ∷ 7 ∷ [])
    go false = there here
    go true = here

blank_same : (s : List ℕ) (r : ℕ) → (blank_refusal s r ≡ 0 → ⊥) → blank_of s r ≡ s
unfolding blank_of
blank_same s r h = rw (ne_eqb (blank_refusal s r) 0 h)

edit_same : (s : List ℕ) (i : ℕ) (e : Entry) → (edit_refusal s i e.function ≡ 0 → ⊥) → edit_of s i e ≡ s
unfolding edit_of
edit_same s i e h = rw (ne_eqb (edit_refusal s i e.function) 0 h)

read_none : (s : List ℕ) (i : ℕ) → (row_refusal s i ≡ 0 → ⊥) → read_of s i ≡ []
unfolding read_of
read_none s i h = rw (ne_eqb (row_refusal s i) 0 h)

total_none : (s : List ℕ) → (total_refusal s ≡ 0 → ⊥) → total_of s ≡ +0
unfolding total_of
total_none s h = rw (ne_eqb (total_refusal s) 0 h)

times_none : (s : List ℕ) (i : ℕ) → (row_refusal s i ≡ 0 → ⊥) → times_of s i ≡ 0
unfolding times_of
times_none s i h = rw (ne_eqb (row_refusal s i) 0 h)

-- its first word is not the other's
not-both : (s : List ℕ) → is_sheet_of without_times s ≡ true → is_sheet_of with_times s ≡ false
not-both s h = go (is_sheet_of with_times s) refl
  where
    go : (b : Bool) → is_sheet_of with_times s ≡ b → b ≡ false
    go false e = refl
    go true e = absurd (let z : ⊥ = omega (arith, says without_times s h, says with_times s e) in z)

old_read : (s : List ℕ) (i f : ℕ) → is_sheet_of without_times s ≡ true → (total_refusal s ≡ 0) × (edit_refusal s i f ≡ 7)
unfolding total_refusal edit_refusal is_sheet
old_read s i f h = (rw (not-both s h, h), rw (not-both s h))

pub demand_1 : Demand1
demand_1 = record {
  answers = evaluated_sound;
  no_function = beyond;
  no_nan = λ f a b c h. let s = evaluated_sound f a b c h in (never_nan (evaluate_of f a b c) s, second_never_nan (evaluate_of f a b c) s);
  zeros = λ f a b c. refused_zeros (evaluate_of f a b c);
  blank_numbers = blank_of_lem;
  edit_numbers = edit_of_lem;
  row_numbers = row_of;
  total_numbers = total_of_lem;
  blank_kept = blank_same;
  edit_kept = edit_same;
  read_nothing = read_none;
  total_zero = total_none;
  times_zero = times_none;
  only_read = old_read;
}
