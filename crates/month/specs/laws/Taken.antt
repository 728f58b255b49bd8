-- What a file that is taken is, and what the calls on its rows then tell. Assumes nothing.
use Rattle.std.specs.Prelude.{◌≡◌, ℕ, ◌<◌, ◌≤◌, Bool, true, false, cond, not, List, nat_lt, Result, Ok, Err, ⊤}
use Rattle.std.proofs.Math.Path.{refl}
use Rattle.std.proofs.Common.{ltb-false}
use Rattle.std.proofs.lemmas.Bool.{lt-leb, false≢true}
use Rattle.std.specs.Result.{is_ok}
use Rattle.ledger.specs.Sheet.{class_of, refusal_in, value_of}
use Rattle.ledger.specs.Calls.{rows_in, row_in, is_sheet, row_refusal, read_of}
use Rattle.inspection.specs.Rows.{first_rejected, class_in, value_in, word_of}
use Rattle.month.specs.declared.parts.Stop.{Stop}
use Rattle.month.specs.declared.parts.Stop.TheVariants.{NotASheet, Damaged}
use Rattle.month.specs.Month.{pattern_in, stop_of}

-- ---- a file that is taken
module _ (s : List ℕ) (h : is_ok (stop_of s) ≡ true) where
  both : (is_sheet s ≡ true) × (nat_lt (first_rejected s) (rows_in s) ≡ false)
  unfolding stop_of
  both = go (is_sheet s) (nat_lt (first_rejected s) (rows_in s)) refl refl h
    where
      stops : Bool → Bool → Result ⊤ Stop
      stops p q = cond (not p) (Err NotASheet) (cond q (Err (Damaged (first_rejected s))) (Ok tt))

      go : (p q : Bool) → is_sheet s ≡ p → nat_lt (first_rejected s) (rows_in s) ≡ q
          → is_ok (stops p q) ≡ true
          → (is_sheet s ≡ true) × (nat_lt (first_rejected s) (rows_in s) ≡ false)
      go true false x y z = (x, y)
      go true true x y z = absurd (false≢true z)
      go false q x y z = absurd (false≢true z)

  pub taken_sheet : is_sheet s ≡ true
  taken_sheet = both.0

  pub none-rejected : rows_in s ≤ first_rejected s
  none-rejected = ltb-false _ _ both.1

-- ---- a row that can be read
module _ (s : List ℕ) (i : ℕ) (h : row_refusal s i ≡ 0) where
  pub class-read : class_in s i ≡ class_of (row_in s i)
  unfolding class_in
  class-read = rw h refl

  pub value_read : value_in s i ≡ value_of (row_in s i)
  unfolding value_in
  value_read = rw h refl

  pub refusal_read : refusal_in (read_of s i) ≡ refusal_in (row_in s i)
  unfolding read_of
  refusal_read = rw h refl

  pub pattern-read : word_of s i 4 ≡ pattern_in (row_in s i)
  unfolding word_of read_of pattern_in
  pattern-read = rw h refl

-- every row of a sheet can
pub row_there : (s : List ℕ) (i : ℕ) → is_sheet s ≡ true → i < rows_in s → row_refusal s i ≡ 0
unfolding row_refusal
row_there s i h l = rw (h, lt-leb (rows_in s) i l) refl
