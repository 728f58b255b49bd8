-- A line's call, on the part of the memory that is the sheet. Assumes nothing.
use Rattle.std.proofs.Common.{◌≡◌, ℕ, ◌-◌, ◌<◌, ◌≤◌, min, true, not, eqb, Option, Some, None, List, ◌++◌, length, take, drop, refl, le-ltb, lt-ltb}
use native.Mathlib.Nat.{sub-zero}
use Rattle.line.specs.declared.Edit.{Edit}
use Rattle.ledger.specs.Sheet.{most_rows, size_for}
use Rattle.ledger.specs.Calls.{blank_refusal, blank_of}
use Rattle.sheet.specs.Edit.{edit_refusal, edit_of}
use Rattle.ending.specs.laws.Parts.{part_taken, part_left}
use Rattle.runner.specs.Run.{entry_of}
use Rattle.runner.specs.Machine.{held, between, on_part, count_line, edit_line}

-- ---- the row count

module _ (k : ℕ) (m : List ℕ) {x y : Option ℕ} (read : x ≡ y) where
  pub count_none : x ≡ None → held (between k 0 true) m ≡ count_line k m y
  unfolding count_line
  count_none e = rw (← read, e) refl

  pub count_many : (r : ℕ) → x ≡ Some r → most_rows < r → held (between k 0 true) m ≡ count_line k m y
  unfolding count_line
  count_many r e h = rw (← read, e) (simp (lt-ltb most_rows r h))

  pub count_made : (r q n : ℕ) {new : List ℕ} → x ≡ Some r → r ≤ most_rows → n ≡ size_for r
      → q ≡ blank_refusal (take (n - 0) m) r → new ≡ blank_of (take (n - 0) m) r
      → held (between k n (not (eqb q 0))) (new ++ drop (n - 0) m) ≡ count_line k m y
  unfolding count_line on_part
  count_made r q n e h size eq en = rw (← read, e, eq, en, size) (simp (le-ltb most_rows r h, sub-zero))

-- ---- an edit

module _ (k size : ℕ) (m : List ℕ) {x y : Option Edit} (read : x ≡ y) where
  pub edit_none : x ≡ None → held (between k size true) m ≡ edit_line k size m y
  unfolding edit_line
  edit_none e = rw (← read, e) refl

  pub edit_made : (e : Edit) (n q : ℕ) {new : List ℕ} → x ≡ Some e → n ≡ min size (length m)
      → q ≡ edit_refusal (take (n - 0) m) e.row e.function → new ≡ edit_of (take (n - 0) m) e.row (entry_of e)
      → held (between k size (not (eqb q 0))) (new ++ drop (n - 0) m) ≡ edit_line k size m y
  unfolding edit_line on_part
  edit_made e n q is l eq en = rw (← read, is, eq, en) (rw (sub-zero n, part_taken m size n l, part_left m size n l) refl)
