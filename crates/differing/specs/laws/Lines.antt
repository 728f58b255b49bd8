-- "No row line appears exactly when all rows agree", and the count is the number of row lines. Assumes nothing.
use Rattle.std.specs.Prelude.{◌≡◌, refl, Bool, true, false, cond, List, [], ◌∷◌, ◌++◌, ℕ, zero, suc, ◌+◌, ◌<◌, eqb, length}
use Rattle.std.proofs.Common.{ap, ◌∙◌, sym, arith, ne_eqb, length-append}
use Rattle.ledger.specs.Calls.{read_of}
use Rattle.difference.specs.Difference.{agree, changes, change_of}
use Rattle.difference.specs.laws.Changes.{none_more, none_differ, all-agree}
use Rattle.text.specs.Text.{decimal, space}
use Rattle.differing.specs.Differing.{field, side_of, change_text, row_text, line_of, lines_of}

-- ---- a row that differs has a line
some_text : (s t : List ℕ) (i : ℕ) → 0 < length (row_text s t i)
unfolding row_text
some_text s t i =
    let x = field i ++ side_of s i ++ side_of t i in
    let a : length (x ++ change_text (change_of s t i)) ≡ length x + length (change_text (change_of s t i)) = length-append x (change_text (change_of s t i)) in
    let b : length x ≡ length (field i ++ side_of s i) + length (side_of t i) = length-append (field i ++ side_of s i) (side_of t i) in
    let c : length (field i ++ side_of s i) ≡ length (field i) + length (side_of s i) = length-append (field i) (side_of s i) in
    let d : length (field i) ≡ length (decimal i) + 1 = length-append (decimal i) space in
    omega arith

no_line : (b : Bool) (x : List ℕ) → 0 < length x → length (cond b [] x) ≡ 0 → b ≡ true
no_line true x h e = refl
no_line false x h e = absurd (omega arith)

line_agrees : (s t : List ℕ) (i : ℕ) → length (line_of s t i) ≡ 0 → agree s t i ≡ true
unfolding line_of
line_agrees s t i h = no_line (agree s t i) (row_text s t i) (some_text s t i) h

agreeing_line : (s t : List ℕ) (i : ℕ) → agree s t i ≡ true → line_of s t i ≡ []
unfolding line_of
agreeing_line s t i h = rw h refl

-- ---- the first n rows
none-printed : (s t : List ℕ) (n : ℕ) → changes s t n ≡ 0 → lines_of s t n ≡ []
unfolding lines_of changes
none-printed s t zero h = refl
none-printed s t (suc n) h =
    let k = none_more (agree s t n) (changes s t n) h in
    (λ i. none-printed s t n k.0 i ++ agreeing_line s t n k.1 i)

nothing : (x : List ℕ) → length x ≡ 0 → x ≡ []
nothing [] h = refl
nothing (y ∷ ys) h = absurd (omega arith)

none_changed : (s t : List ℕ) (n : ℕ) → lines_of s t n ≡ [] → changes s t n ≡ 0
unfolding lines_of changes
none_changed s t zero h = refl
none_changed s t (suc n) h =
    let e : length (lines_of s t n) + length (line_of s t n) ≡ 0 = sym (length-append (lines_of s t n) (line_of s t n)) ∙ ap length h in
    rw (none_changed s t n (nothing (lines_of s t n) (omega arith)), line_agrees s t n (omega arith)) refl

-- ---- in both directions
pub agree_no_lines : (s t : List ℕ) (n : ℕ) → ((i : ℕ) → i < n → read_of s i ≡ read_of t i) → lines_of s t n ≡ []
agree_no_lines s t n h = none-printed s t n (all-agree s t n h)

pub no_lines_agree : (s t : List ℕ) (n : ℕ) → lines_of s t n ≡ [] → (i : ℕ) → i < n → read_of s i ≡ read_of t i
no_lines_agree s t n h = none_differ s t n (none_changed s t n h)

-- ---- how many

-- how many of the first n rows have a line
unfoldable pub lined : List ℕ → List ℕ → ℕ → ℕ
lined s t zero = 0
lined s t (suc n) = lined s t n + cond (eqb (length (line_of s t n)) 0) 0 1

-- one row: a line where it differs, and none where it does not
one_line : (s t : List ℕ) (i : ℕ) → ◌≡◌ {A = ℕ} (cond (eqb (length (line_of s t i)) 0) 0 1) (cond (agree s t i) 0 1)
unfolding line_of
one_line s t i = by (agree s t i) where
  by : (b : Bool) → ◌≡◌ {A = ℕ} (cond (eqb (length (cond b [] (row_text s t i))) 0) 0 1) (cond b 0 1)
  by true = refl
  by false = rw (ne_eqb (length (row_text s t i)) 0 (λ z. let h = some_text s t i in omega arith)) refl

-- what is printed behind `rows` is that number
pub as_many : (s t : List ℕ) (n : ℕ) → lined s t n ≡ changes s t n
unfolding lined changes
as_many s t zero = refl
as_many s t (suc n) = λ i. as_many s t n i + one_line s t n i
