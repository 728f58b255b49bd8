-- What a call that is not refused tells of the sheet. Assumes nothing.
use Rattle.std.specs.Prelude.{◌≡◌, Bool, cond, not, ◌&&◌, ◌||◌, List, ℕ, ◌+◌, ◌-◌, ◌≤◌, ◌<◌, leb, ltb, eqb, length, take, drop, get_or, set, Float, Result, Ok, Err, is_err}
use Rattle.std.proofs.Math.Path.{refl}
use Rattle.std.proofs.Common.{ap, ◌∙◌, sym, pos_of_ne-zero, arith, length-append, length-drop, length-set, length-take-le}
use Rattle.std.proofs.Math.Bool.{true, false}
use Rattle.std.proofs.lemmas.Bool.{false≢true}
use borrow.Author.Tests.{ne_eqb, eqb-true, eqb-false, leb-true, leb-false, ltb-false, not-true}
use Rattle.std.specs.Float.{nan, inf, fin}
use Rattle.std.specs.Float.Ieee.{is_nan}
use Rattle.answer.specs.declared.Refusal.{Refusal}
use Rattle.answer.specs.declared.Refusal.TheVariants.{NotANumber, AboveOne, Beyond, CharacteristicOne, Unmet, NotFinite, NotASheet, NoSuchRow, NoSuchFunction, Damaged, TooManyRows, OutOfRange, Unequal, DrivenOften, Malformed, Withdrawn}
use Rattle.answer.specs.Answer.{refusal_of}
use Rattle.answer.specs.Numbers.{number, last, stored}
use Rattle.ledger.specs.Bytes.{number as bytes_number, read}
use Rattle.ledger.specs.laws.Fields.{length-read, length-bytes, length_fields}
use Rattle.ledger.specs.Sheet.{Row, withdrawn, without_times, with_times, most_rows, row_place, size_for, entries, function_in, refusal_in, first_in, sound_of, sound, kind_of, class_of, totals}
use Rattle.ledger.specs.Calls.{Sized, rows_in, row_in, counts_in, equal, is_sheet_of, is_sheet, plus, miscounted, damaged, row_rungs, function_rungs, rungs, recount, total_refusal, row_refusal, place_refusal, blank_refusal}

-- ---- a result and its number

-- no refusal has the number 0
pub numbered : (q : Refusal) → number q ≡ 0 → ⊥
numbered NotANumber e = absurd (omega arith)
numbered AboveOne e = absurd (omega arith)
numbered Beyond e = absurd (omega arith)
numbered CharacteristicOne e = absurd (omega arith)
numbered Unmet e = absurd (omega arith)
numbered NotFinite e = absurd (omega arith)
numbered NotASheet e = absurd (omega arith)
numbered NoSuchRow e = absurd (omega arith)
numbered NoSuchFunction e = absurd (omega arith)
numbered Damaged e = absurd (omega arith)
numbered TooManyRows e = absurd (omega arith)
numbered OutOfRange e = absurd (omega arith)
numbered Unequal e = absurd (omega arith)
numbered DrivenOften e = absurd (omega arith)
numbered Malformed e = absurd (omega arith)
numbered Withdrawn e = absurd (omega arith)

module _ {A : Type 0} (r : Result A Refusal) (q : ℕ) (e : refusal_of r ≡ q) where
  pub refused : is_err r ≡ true → q ≡ 0 → ⊥
  unfolding refusal_of
  refused h z = go r (e ∙ z) h
    where
      go : (r : Result A Refusal) → refusal_of r ≡ 0 → is_err r ≡ true → ⊥
      go (Ok a) d h = false≢true h
      go (Err n) d h = numbered n d

  pub taken : is_err r ≡ false → q ≡ 0
  unfolding refusal_of
  taken h = go r e h
    where
      go : (r : Result A Refusal) → refusal_of r ≡ q → is_err r ≡ false → q ≡ 0
      go (Ok a) d h = sym d
      go (Err n) d h = absurd (false≢true (sym h))

-- an error is a number that is not 0
pub err_number : {A : Type 0} (r : Result A Refusal) → is_err r ≡ not (eqb (refusal_of r) 0)
unfolding refusal_of
err_number (Ok a) = refl
err_number (Err q) = sym (ap not (ne_eqb (number q) 0 (numbered q)))

-- ---- tests joined
and_3 : (a b c : Bool) → (a && (b && c)) ≡ true → (a ≡ true) × (b ≡ true) × (c ≡ true)
and_3 true true c h = (refl, refl, h)
and_3 true false c h = absurd (false≢true h)
and_3 false b c h = absurd (false≢true h)

and_first : (a b : Bool) → (a && b) ≡ true → a ≡ true
and_first true b h = refl
and_first false b h = absurd (false≢true h)

or_3 : (a b c : Bool) → (not a || (not b || c)) ≡ false → (a ≡ true) × (b ≡ true) × (c ≡ false)
or_3 true true c h = (refl, refl, h)
or_3 true false c h = absurd (false≢true (sym h))
or_3 false b c h = absurd (false≢true (sym h))

-- ---- lengths
pub length-counts : (s : List ℕ) → length (counts_in s) ≡ 5
unfolding counts_in
length-counts s = length-read 4 5 (drop (row_place (rows_in s)) s)

pub length-recount : (cs : List ℕ) (o n : ℕ) → length (recount cs o n) ≡ length cs
unfolding recount
length-recount cs o n = let less = set cs o (get_or cs o 0 - 1) in length-set less n (get_or less n 0 + 1) ∙ length-set cs o (get_or cs o 0 - 1)

pub length-totals : (cs : List ℕ) (t : ℕ) → length cs ≡ 5 → length (totals cs t) ≡ 296
unfolding totals
length-totals cs t h = rw (length-append, length-bytes, length_fields, length-append, h) refl

-- ---- a sheet

-- 48 bytes from where a row starts
pub row_48 : (s : List ℕ) (i : ℕ) → row_place i + 48 ≤ length s → length (row_in s i) ≡ 48
unfolding row_in
row_48 s i h = length-take-le 48 (drop (row_place i) s) (rw (length-drop (row_place i) s) (omega arith))

-- a row of it
module _ (s : List ℕ) (h : Sized s) (i : ℕ) (g : i < rows_in s) where
  pub row_room : row_place i + 48 ≤ length s
  row_room = omega (arith, h, g)

  pub length-row : length (row_in s i) ≡ 48
  length-row = row_48 s i row_room

-- of a sheet that says k
module _ (k : ℕ) (s : List ℕ) (h : is_sheet_of k s ≡ true) where
  tests : (leb (rows_in s) most_rows ≡ true) × (eqb (length s) (size_for (rows_in s)) ≡ true) × (equal (read 4 8 s) (entries k (rows_in s)) ≡ true)
  unfolding is_sheet_of
  tests = and_3 (leb (rows_in s) most_rows) (eqb (length s) (size_for (rows_in s))) (equal (read 4 8 s) (entries k (rows_in s))) h

  pub sheet_of_few : rows_in s ≤ most_rows
  sheet_of_few = leb-true _ _ tests.0

  pub sheet_of_length : Sized s
  sheet_of_length = eqb-true _ _ tests.1

  pub says : bytes_number (take 4 s) ≡ k
  unfolding equal read entries
  says = eqb-true _ _ (and_first _ _ tests.2)

-- of either
either : (A : Type 0) (s : List ℕ) → ((k : ℕ) → is_sheet_of k s ≡ true → A) → is_sheet s ≡ true → A
unfolding is_sheet
either A s f h = go (is_sheet_of with_times s) refl h
  where
    go : (b : Bool) → is_sheet_of with_times s ≡ b → (b || is_sheet_of without_times s) ≡ true → A
    go true e g = f with_times e
    go false e g = f without_times g

pub sheet_few : (s : List ℕ) → is_sheet s ≡ true → rows_in s ≤ most_rows
sheet_few s h = either (rows_in s ≤ most_rows) s (λ k. sheet_of_few k s) h

pub sheet_length : (s : List ℕ) → is_sheet s ≡ true → Sized s
sheet_length s h = either (Sized s) s (λ k. sheet_of_length k s) h

-- what may be edited may be read
pub sheet_with_times : (s : List ℕ) → is_sheet_of with_times s ≡ true → is_sheet s ≡ true
unfolding is_sheet
sheet_with_times s h = rw h

-- ---- a row that is not damaged
kind_lt : (x : Float) → is_nan x ≡ false → kind_of x < 5
unfolding is_nan kind_of
kind_lt nan h = absurd (false≢true (sym h))
kind_lt (inf true) h = omega arith
kind_lt (inf false) h = omega arith
kind_lt (fin s m e) h = omega arith

class_of_lem : (p q : Bool) (k : ℕ) → k < 5 → cond p 0 (cond q 4 k) < 5
class_of_lem true q k h = omega arith
class_of_lem false true k h = omega arith
class_of_lem false false k h = h

pub class-lt : (w : Row) → sound w ≡ true → class_of w < 5
unfolding sound_of class_of
class-lt w h = class_of_lem (eqb (function_in w) 0) (ltb 0 (refusal_in w)) (kind_of (first_in w)) (kind_lt (first_in w) (not-true _ (and_3 (leb (function_in w) last) (stored (refusal_in w)) (not (is_nan (first_in w))) h).2))

pub record Undamaged (s : List ℕ) (i : ℕ) : Type 0 where
  pub row : sound (row_in s i) ≡ true
  pub add_up : plus (counts_in s) ≡ rows_in s
  pub counted : 0 < get_or (counts_in s) (class_of (row_in s i)) 0

pub undamaged : (s : List ℕ) (i : ℕ) → damaged s i ≡ false → Undamaged s i
unfolding damaged miscounted
undamaged s i h =
    let t = or_3 (sound (row_in s i)) (eqb (plus (counts_in s)) (rows_in s)) (eqb (get_or (counts_in s) (class_of (row_in s i)) 0) 0) h in
    record { row = t.0; add_up = eqb-true _ _ t.1; counted = pos_of_ne-zero (eqb-false _ _ t.2) }

-- ---- calls that are not refused

-- nothing refuses row i, for a new row of function f
pub record Accepted (s : List ℕ) (i f : ℕ) : Type 0 where
  pub sheet : is_sheet_of with_times s ≡ true
  pub row : i < rows_in s
  pub function : f ≤ last
  pub whole : damaged s i ≡ false

pub past_7 : (b : Bool) (q : ℕ) → cond (not b) 7 q ≡ 0 → (b ≡ true) × (q ≡ 0)
past_7 true q h = (refl, h)
past_7 false q h = absurd (omega arith)

pub past_10 : (b : Bool) → ◌≡◌ {A = ℕ} (cond b 10 0) 0 → b ≡ false
past_10 true h = absurd (omega arith)
past_10 false h = refl

pub past_function : (f rest : ℕ) → function_rungs f rest ≡ 0 → (eqb f withdrawn ≡ false) × (f ≤ last) × (rest ≡ 0)
past_function f rest h = go (eqb f withdrawn) (ltb last f) refl refl h
  where
    go : (p q : Bool) → eqb f withdrawn ≡ p → ltb last f ≡ q → cond p 22 (cond q 9 rest) ≡ 0 → (eqb f withdrawn ≡ false) × (f ≤ last) × (rest ≡ 0)
    go true q x y z = absurd (omega arith)
    go false true x y z = absurd (omega arith)
    go false false x y z = (x, ltb-false _ _ y, z)

pub past_rungs : (r i f rest : ℕ) → rungs r i f rest ≡ 0 → (i < r) × (f ≤ last) × (rest ≡ 0)
unfolding rungs
past_rungs r i f rest h = go (leb r i) refl h
  where
    go : (p : Bool) → leb r i ≡ p → cond p 8 (function_rungs f rest) ≡ 0 → (i < r) × (f ≤ last) × (rest ≡ 0)
    go true x z = absurd (omega arith)
    go false x z = let t = past_function f rest z in (leb-false _ _ x, t.1, t.2)

-- what comes after them matters only where they pass
pub rungs-same : (r i f x y : ℕ) → (f ≤ last → x ≡ y) → rungs r i f x ≡ rungs r i f y
unfolding rungs
rungs-same r i f x y h = ap (λ (k : ℕ). cond (leb r i) 8 (cond (eqb f withdrawn) 22 k)) (go (ltb last f) refl)
  where
    go : (q : Bool) → ltb last f ≡ q → cond q 9 x ≡ cond q 9 y
    go true e = refl
    go false e = h (ltb-false _ _ e)

neither : (a b : Bool) → (not a || b) ≡ false → (a ≡ true) × (b ≡ false)
neither true b h = (refl, h)
neither false b h = absurd (false≢true (sym h))

pub placed : (s : List ℕ) (i : ℕ) (w : Row) → place_refusal s i w ≡ 0 → Accepted s i (function_in w) × (sound w ≡ true)
unfolding place_refusal
placed s i w h =
    let a = past_7 (is_sheet_of with_times s) (rungs (rows_in s) i (function_in w) (cond (not (sound w) || damaged s i) 10 0)) h in
    let b = past_rungs (rows_in s) i (function_in w) (cond (not (sound w) || damaged s i) 10 0) a.1 in
    let c = neither (sound w) (damaged s i) (past_10 (not (sound w) || damaged s i) b.2) in
    (record { sheet = a.0; row = b.0; function = b.1; whole = c.1 }, c.0)

pub past_row : (b : Bool) (r i : ℕ) → row_rungs b r i ≡ 0 → (b ≡ true) × (i < r)
past_row b r i h =
    let t = go b (leb r i) h in (t.0, leb-false _ _ t.1)
  where
    go : (p q : Bool) → ◌≡◌ {A = ℕ} (cond (not p) 7 (cond q 8 0)) 0 → (p ≡ true) × (q ≡ false)
    go true false e = (refl, refl)
    go true true e = absurd (omega arith)
    go false q e = absurd (omega arith)

pub readable : (s : List ℕ) (i : ℕ) → row_refusal s i ≡ 0 → (is_sheet s ≡ true) × (i < rows_in s)
unfolding row_refusal
readable s i h = past_row (is_sheet s) (rows_in s) i h

-- 7 decides whether bytes are a sheet
module _ (s : List ℕ) (q : ℕ) (e : q ≡ total_refusal s) where
  pub no_sheet : (q ≡ 0 → ⊥) → is_sheet s ≡ false
  unfolding total_refusal
  no_sheet h = go (is_sheet s) (λ z. h (e ∙ z))
    where
      go : (b : Bool) → (◌≡◌ {A = ℕ} (cond (not b) 7 0) 0 → ⊥) → b ≡ false
      go true n = absurd (n refl)
      go false n = refl

  pub a_sheet : q ≡ 0 → is_sheet s ≡ true
  unfolding total_refusal
  a_sheet h = (past_7 (is_sheet s) 0 (sym e ∙ h)).0

-- and so does the call's result
module _ (s : List ℕ) (r : Result (Unit {0}) Refusal) (e : refusal_of r ≡ total_refusal s) where
  pub sheet_refused : is_err r ≡ true → is_sheet s ≡ false
  sheet_refused h = no_sheet s _ e (refused r _ refl h)

  pub sheet_taken : is_err r ≡ false → is_sheet s ≡ true
  sheet_taken h = a_sheet s _ e (taken r _ refl h)

pub makeable : (s : List ℕ) (r : ℕ) → blank_refusal s r ≡ 0 → (r ≤ most_rows) × (length s ≡ size_for r)
unfolding blank_refusal
makeable s r h =
    let t = go (ltb most_rows r) (eqb (length s) (size_for r)) h in (ltb-false _ _ t.0, eqb-true _ _ t.1)
  where
    go : (p q : Bool) → ◌≡◌ {A = ℕ} (cond p 11 (cond (not q) 7 0)) 0 → (p ≡ false) × (q ≡ true)
    go false true e = (refl, refl)
    go false false e = absurd (omega arith)
    go true q e = absurd (omega arith)
