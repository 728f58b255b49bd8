-- A number's digits, the last one put last. Assumes nothing.
use mathlib.Core.Path.{◌≡◌, refl}
use Prim.Native.Nat.{ℕ, zero, suc, ◌-◌, ◌/◌, ◌%◌, ◌≤◌}
use native.Mathlib.Omega.{arith}
use mathlib.Core.Bool.{Bool, true, false, not, ◌&&◌}
use mathlib.Core.List.{List, [], ◌∷◌}
use lib.ListN.{length}
use lib.Dec.{ltb}
use Rattle.text.specs.Text.{glyph_of, digits_of}
use Rattle.text.specs.Writing.{Put}
use Rattle.text.specs.laws.Writing.{put_none, put_both}

module _ (all : Bool) (base n : ℕ) (out : List ℕ) (at : ℕ) where
  pub no_digits_lem : (k : ℕ) → k ≡ 0 → Put out out at at (digits_of all base k n)
  unfolding digits_of
  no_digits_lem zero e = put_none out at
  no_digits_lem (suc k) e = absurd (omega arith)

  pub one_digit : (k g : ℕ) {new : List ℕ} {r : ℕ} → (k ≡ 0 → ⊥) → (not all && ltb n base) ≡ true → g ≡ glyph_of n → Put out new at r (g ∷ [])
      → Put out new at r (digits_of all base k n)
  unfolding digits_of
  one_digit zero g some t e p = absurd (some refl)
  one_digit (suc k) g some t e p = simp t (rw (← e) p)

  pub more_digits : (k g : ℕ) {mid new : List ℕ} {next r : ℕ} → (k ≡ 0 → ⊥) → (not all && ltb n base) ≡ false → g ≡ glyph_of (n % base)
      → r ≤ length out → Put out mid at next (digits_of all base (k - 1) (n / base)) → Put mid new next r (g ∷ [])
      → Put out new at r (digits_of all base k n)
  unfolding digits_of
  more_digits zero g some t e h p q = absurd (some refl)
  more_digits (suc k) g some t e h p q =
      let l : suc k - 1 ≡ k = omega arith in
      simp t (rw (← e) (put_both out at (digits_of all base k (n / base)) (g ∷ []) h (rw l at p) q))
