-- The memory that a count asks for, cut or not. Assumes nothing.
use mathlib.Core.Path.{◌≡◌, refl, ap, ◌∙◌}
use Prim.Native.Nat.{ℕ, ◌+◌, ◌≤◌, ◌<◌, min}
use native.Mathlib.Nat.{min-eq_left, min-eq_right}
use native.Mathlib.Omega.{arith}
use borrow.Author.Tests.{lt-ltb, le-ltb}
use Rattle.std.specs.Prelude.{Option, Some, None}
use Rattle.line.specs.laws.Long.{below}
use Rattle.ledger.specs.Sheet.{most_rows, size_for}
use Rattle.page.specs.Page.{largest}
use Rattle.hextext.specs.HexText.{capped}
use Rattle.reading.specs.Taken.{lent_for}

pub lent_none : (x : Option ℕ) → None ≡ capped x → 0 ≡ lent_for x
unfolding capped lent_for
lent_none None e = refl
lent_none (Some r) e = let z : ◌≡◌ {A = ℕ} 0 1 = cc in absurd (omega arith)

pub lent_many : (x : Option ℕ) (n : ℕ) → Some n ≡ capped x → most_rows < n → 0 ≡ lent_for x
unfolding capped lent_for
lent_many None n e more = let z : ◌≡◌ {A = ℕ} 0 1 = cc in absurd (omega arith)
lent_many (Some r) n e more =
    let is : n ≡ min r (most_rows + 1) = cc in
    below r 1025
    (λ less. absurd (let same : n ≡ r = is ∙ min-eq_left (omega arith) in omega arith))
    (λ many. rw (lt-ltb most_rows r (omega arith)) refl)

pub lent_sheet : (x : Option ℕ) (n : ℕ) → Some n ≡ capped x → n ≤ most_rows → size_for n ≡ lent_for x
unfolding capped lent_for
lent_sheet None n e few = let z : ◌≡◌ {A = ℕ} 0 1 = cc in absurd (omega arith)
lent_sheet (Some r) n e few =
    let is : n ≡ min r (most_rows + 1) = cc in
    below r 1025
    (λ less. let same : n ≡ r = is ∙ min-eq_left (omega arith) in rw (le-ltb most_rows r (omega arith)) (ap size_for same))
    (λ many. absurd (let same : n ≡ 1025 = is ∙ min-eq_right many in omega arith))

pub sheet_fits : (n : ℕ) → n ≤ most_rows → size_for n ≤ largest
sheet_fits n few = omega arith
