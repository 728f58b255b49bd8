-- Rows one after the other. Assumes nothing.
use mathlib.Core.Path.{◌≡◌, refl, sym, ap, ◌∙◌}
use Prim.Native.Nat.{ℕ, suc, ◌+◌, ◌-◌, ◌≤◌, ◌<◌}
use native.Mathlib.Omega.{arith}
use mathlib.Core.Bool.{Bool, true, false}
use mathlib.Core.List.{List}
use lib.ListN.{length}
use borrow.Author.Tests.{ne_eqb, lt-ltb, le-ltb}
use Rattle.std.proofs.Common.{cond, eqb, true≢false}
use Rattle.hexline.specs.Parts.{next_of}
use Rattle.hextext.specs.HexText.{Halted, halt_at, fine, Came, came, told, line_into, rows_into}

-- what is told of a line that is refused is what came of it
refused_told : (w : Came) (s : List ℕ) (h : Halted) → came s h ≡ told w → (h.refusal ≡ 0 → ⊥) → came s h ≡ w
unfolding told
refused_told w s h is bad = by (eqb w.end.refusal 0) is where
  by : (t : Bool) → came s h ≡ came w.sheet (cond t fine w.end) → came s h ≡ w
  by true e = absurd (bad (ap (λ (v : Came). v.end.refusal) e))
  by false e = e

-- of one that is taken, its sheet
taken_told : (w : Came) (s : List ℕ) → came s fine ≡ told w → (w.sheet ≡ s) × (eqb w.end.refusal 0 ≡ true)
unfolding told
taken_told w s is = by (eqb w.end.refusal 0) refl is where
  by : (t : Bool) → eqb w.end.refusal 0 ≡ t → came s fine ≡ came w.sheet (cond t fine w.end) → (w.sheet ≡ s) × (eqb w.end.refusal 0 ≡ true)
  by true good e = (sym (ap (λ (v : Came). v.sheet) e), good)
  by false bad e =
      let none : 0 ≡ w.end.refusal = ap (λ (v : Came). v.end.refusal) e in
      absurd (true≢false (ap (λ (k : ℕ). eqb k 0) none ∙ bad))

-- the line of row i came to this
module _ (t s : List ℕ) (rows i at : ℕ) (less : i < rows) (new : List ℕ) where
  one : rows - i ≡ suc (rows - (i + 1))
  one = omega arith

  pub halts : (h : Halted) → came new h ≡ told (line_into t s i at) → (h.refusal ≡ 0 → ⊥) → came new h ≡ rows_into t (rows - i) s i at
  unfolding rows_into
  halts h is bad = rw one (rw (← refused_told _ new h is bad, ne_eqb h.refusal 0 bad) refl)

  pub goes_on_lem : came new fine ≡ told (line_into t s i at) → rows_into t (rows - (i + 1)) new (i + 1) (next_of 10 t at) ≡ rows_into t (rows - i) s i at
  unfolding rows_into
  goes_on_lem is = let it = taken_told _ new is in rw one (rw (it.1, it.0) refl)

-- no row is left
module _ (t s : List ℕ) (rows i at : ℕ) (all : i ≡ rows) where
  none : rows - i ≡ 0
  none = omega arith

  pub too_many : at < length t → came s (halt_at 18 (rows + 2) 1) ≡ rows_into t (rows - i) s i at
  unfolding rows_into
  too_many more = rw none (rw (lt-ltb at (length t) more, all) refl)

  pub at-end : length t ≤ at → came s fine ≡ rows_into t (rows - i) s i at
  unfolding rows_into
  at-end end = rw none (rw (le-ltb at (length t) end) refl)
