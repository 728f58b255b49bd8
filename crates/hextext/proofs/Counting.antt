-- The row count, cut or not, makes the same blank sheet or the same refusal. Assumes nothing.
use mathlib.Core.Path.{◌≡◌, refl, sym, ap, ◌∙◌}
use Prim.Native.Nat.{ℕ, ◌+◌, ◌≤◌, min}
use native.Mathlib.Nat.{min-eq_left, min-eq_right, min-le_right}
use native.Mathlib.Omega.{arith}
use mathlib.Core.List.{List}
use borrow.Author.Tests.{eq-eqb, ne_eqb, lt-ltb}
use Rattle.std.specs.Prelude.{Option, Some, None}
use Rattle.line.specs.laws.Long.{below}
use Rattle.ledger.specs.Sheet.{most_rows}
use Rattle.ledger.specs.Calls.{blank_refusal, blank_of}
use Rattle.ledger.specs.laws.Refusals.{makeable}
use Rattle.hexline.specs.Parts.{next_of}
use Rattle.hextext.specs.HexText.{halt_at, came, rows_into, count_into, capped}

module _ (t s : List ℕ) where
  pub no_count : (x : Option ℕ) → None ≡ capped x → came s (halt_at 18 1 1) ≡ count_into t s x
  unfolding capped count_into
  no_count None e = refl
  no_count (Some r) e = let z : ◌≡◌ {A = ℕ} 0 1 = cc in absurd (omega arith)

  -- a count is refused as it is when it is cut
  same_refusal : (n r : ℕ) → n ≡ min r (most_rows + 1) → blank_refusal s n ≡ blank_refusal s r
  unfolding blank_refusal
  same_refusal n r e =
      below r 1025
      (λ less. ap (blank_refusal s) (e ∙ min-eq_left (omega arith)))
      (λ more.
      let many : n ≡ 1025 = e ∙ min-eq_right more in
      rw many (simp (lt-ltb most_rows r (omega arith))))

  pub count_refused : (x : Option ℕ) (n : ℕ) → Some n ≡ capped x → (blank_refusal s n ≡ 0 → ⊥) → came s (halt_at (blank_refusal s n) 0 0) ≡ count_into t s x
  unfolding capped count_into
  count_refused None n e bad = let z : ◌≡◌ {A = ℕ} 0 1 = cc in absurd (omega arith)
  count_refused (Some r) n e bad =
      let is : n ≡ min r (most_rows + 1) = cc in
      rw (← same_refusal n r is) (rw (ne_eqb (blank_refusal s n) 0 bad) refl)

  pub count-taken : (x : Option ℕ) (n : ℕ) → Some n ≡ capped x → blank_refusal s n ≡ 0 → rows_into t n (blank_of s n) 0 (next_of 10 t 0) ≡ count_into t s x
  unfolding capped count_into
  count-taken None n e good = let z : ◌≡◌ {A = ℕ} 0 1 = cc in absurd (omega arith)
  count-taken (Some r) n e good =
      let is : n ≡ min r (most_rows + 1) = cc in
      let few : r ≤ most_rows = (makeable s r (sym (same_refusal n r is) ∙ good)).0 in
      let same : n ≡ r = is ∙ min-eq_left (omega arith) in
      rw (← same) (rw (eq-eqb (blank_refusal s n) 0 good) refl)

  -- a refused call leaves the sheet as it was
  pub left_alone : (n : ℕ) → (blank_refusal s n ≡ 0 → ⊥) → blank_of s n ≡ s
  unfolding blank_of
  left_alone n bad = rw (ne_eqb (blank_refusal s n) 0 bad) refl

-- and what is cut is never far beyond the most
pub cut_most : (x : Option ℕ) (n : ℕ) → Some n ≡ capped x → n ≤ most_rows + 1
unfolding capped
cut_most None n e = let z : ◌≡◌ {A = ℕ} 0 1 = cc in absurd (omega arith)
cut_most (Some r) n e = let is : n ≡ min r (most_rows + 1) = cc in rw is (min-le_right r (most_rows + 1))
