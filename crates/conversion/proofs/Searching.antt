-- A search of the rows, one after the other: what is found from this row on is what the whole search finds. Assumes nothing.
use Rattle.std.specs.Prelude.{◌≡◌, Bool, true, false, cond, ℕ, ◌+◌, ◌-◌, ◌≤◌, ◌<◌, ltb, Some, None}
use Rattle.std.proofs.Common.{sym, ◌∙◌}
use Rattle.std.proofs.Math.Path.{refl}
use borrow.Author.Tests.{lt-ltb, le-ltb}
use native.Mathlib.Numerals.{add-one}
use native.Mathlib.Nat.{sub-zero}
use native.Mathlib.Omega.{arith}
use Rattle.inspection.specs.Rows.{first_from}
use Rattle.inspection.specs.laws.First.{first_here, first_later, first-none}

module _ (test : ℕ → Bool) (r : ℕ) where
  abbrev pub Searched : ℕ → Type 0
  Searched i = (i ≤ r) × (first_from test 0 r ≡ first_from test i (r - i))

  pub unsearched : Searched 0
  unsearched = (omega arith, rw sub-zero)

  pub search_on : (i : ℕ) → Searched i → i < r → test i ≡ false → Searched (i + 1)
  search_on i s h e = (omega arith, rw (add-one i) (s.1 ∙ first_later test i r h e))

  pub search_here : (i : ℕ) → Searched i → i < r → test i ≡ true → Some i ≡ cond (ltb (first_from test 0 r) r) (Some (first_from test 0 r)) None
  search_here i s h e = sym (rw (s.1 ∙ first_here test i r h e, lt-ltb i r h) refl)

  pub search_past : (i : ℕ) → Searched i → r ≤ i → None ≡ cond (ltb (first_from test 0 r) r) (Some (first_from test 0 r)) None
  search_past i s h = sym (rw (s.1 ∙ first-none test i r h, le-ltb i r h) refl)
