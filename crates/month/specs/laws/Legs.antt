-- The legs of a file that is taken: as many as its rows, and each row passes the row tests. Assumes nothing.
use Rattle.std.specs.Prelude.{◌≡◌, ℕ, zero, suc, ◌+◌, ◌*◌, ◌<◌, ◌≤◌, Bool, true, false, cond, not, List, [], ◌∷◌, length, ◌==◌, refl}
use Rattle.std.proofs.Common.{ap, subst, inl, inr, eq-or-lt_of_le, arith, length-append}
use Rattle.std.specs.Result.{is_ok}
use Rattle.std.proofs.lemmas.Bool.{not-false}
use Rattle.ledger.specs.Sheet.{sound, most_rows}
use Rattle.ledger.specs.Calls.{rows_in, row_in}
use Rattle.inspection.specs.Rows.{sound_row, first_from, first_rejected}
use Rattle.ledger.specs.laws.Refusals.{sheet_few}
use Rattle.month.specs.Month.{Leg, leg_at, legs_from, legs_of, stop_of}
use Rattle.month.specs.Files.{File, taken, legs_in, all_legs, sheets_in, Each}
use Rattle.month.specs.laws.Taken.{taken_sheet, none-rejected, row_there}
use Rattle.month.specs.laws.Lists.{each_append}

-- ---- rows of a file that is taken

-- a test that holds first at the end holds nowhere before it
none_found : (test : ℕ → Bool) (n i j : ℕ) → i + n ≤ first_from test i n → i ≤ j → j < i + n → test j ≡ false
unfolding first_from
none_found test zero i j h a b = absurd (omega arith)
none_found test (suc n) i j h a b = go (test i) refl h (λ g l. none_found test n (suc i) j g l (omega arith))
  where
    go : (t : Bool) → test i ≡ t → i + suc n ≤ cond t i (first_from test (suc i) n) → (suc i + n ≤ first_from test (suc i) n → suc i ≤ j → test j ≡ false) → test j ≡ false
    go true e g f = absurd (omega arith)
    go false e g f = elim (eq-or-lt_of_le a) [ inl p ↦ subst (λ (k : ℕ). test k ≡ false) p e | inr l ↦ f (omega arith) l ]

pub row-sound : (s : List ℕ) → is_ok (stop_of s) ≡ true → (i : ℕ) → i < rows_in s → sound (row_in s i) ≡ true
unfolding first_rejected sound_row
row-sound s h i l =
    let sheet = taken_sheet s h in
    let there = row_there s i sheet l in
    let test : ℕ → Bool = λ j. not (sound_row s j) in
    let all : rows_in s ≤ first_from test 0 (rows_in s) = subst (λ (b : Bool). rows_in s ≤ cond b (first_from test 0 (rows_in s)) 0) sheet (none-rejected s h) in
    let e = not-false (sound_row s i) (none_found test (rows_in s) 0 i (omega (arith, all)) (omega arith) (omega arith)) in
    subst (λ (q : ℕ). cond (q == 0) (sound (row_in s i)) false ≡ true) there e

-- ---- legs
pub length_from : (n : ℕ) (s : List ℕ) (i k : ℕ) → length (legs_from n s i k) ≡ k
unfolding legs_from
length_from n s i zero = refl
length_from n s i (suc k) = ap suc (length_from n s (suc i) k)

pub each_from : (P : Leg → Type 0) (n : ℕ) (s : List ℕ) (i k : ℕ) → ((j : ℕ) → j < i + k → P (leg_at n s j)) → Each P (legs_from n s i k)
unfolding legs_from
each_from P n s i zero f = tt
each_from P n s i (suc k) f = (f i (omega arith), each_from P n s (suc i) k (λ j h. f j (omega arith)))

-- such as rows that are taken are
pub each_leg : (P : Leg → Type 0) → ((n : ℕ) (s : List ℕ) → is_ok (stop_of s) ≡ true → (i : ℕ) → i < rows_in s → P (leg_at n s i)) → (fs : List File) → Each P (all_legs fs)
unfolding all_legs legs_in legs_of
each_leg P f [] = tt
each_leg P f (g ∷ fs) = each_append P (legs_in g) (all_legs fs) (go (taken g.bytes) refl) (each_leg P f fs)
  where
    go : (b : Bool) → taken g.bytes ≡ b → Each P (cond b (legs_from g.number g.bytes 0 (rows_in g.bytes)) [])
    go true e = each_from P g.number g.bytes 0 (rows_in g.bytes) (λ j h. f g.number g.bytes e j (omega arith))
    go false e = tt

pub legs_few : (fs : List File) → length (all_legs fs) ≤ most_rows * sheets_in fs
unfolding all_legs legs_in legs_of sheets_in
legs_few [] = omega arith
legs_few (g ∷ fs) = omega (arith, length-append (legs_in g) (all_legs fs), go (taken g.bytes) refl, legs_few fs)
  where
    go : (b : Bool) → taken g.bytes ≡ b → length (cond b (legs_from g.number g.bytes 0 (rows_in g.bytes)) []) ≤ most_rows * cond b 1 0
    go true e = omega (arith, length_from g.number g.bytes 0 (rows_in g.bytes), sheet_few g.bytes (taken_sheet g.bytes e))
    go false e = omega arith
