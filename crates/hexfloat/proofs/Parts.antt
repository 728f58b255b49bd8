-- Bytes of a field. Assumes nothing.
use mathlib.Core.Path.{◌≡◌, refl, sym, ap, ◌∙◌}
use Prim.Native.Nat.{ℕ, suc, ◌+◌, ◌-◌, ◌≤◌}
use mathlib.Core.Bool.{Bool, true, false, cond, ◌&&◌}
use native.Mathlib.Omega.{arith}
use mathlib.Core.List.{List, [], ◌∷◌}
use lib.Dec.{eqb}
use lib.ListN.{length, take, drop, get_or, length-drop}
use lib.Seq.{take_all}
use Rattle.std.specs.Option.{unwrap_or}
use Rattle.std.specs.List.{position}
use Rattle.std.specs.Cmp.Lexicographic.{pointwise}
use Rattle.std.proofs.lemmas.List.Recursion.{is_position_or_len}
use Rattle.line.proofs.Parts.{first_or_end}
use Rattle.hexfloat.specs.Reading.{same, either, before}

-- what stands before the first a or b is as long as its place says
pub before_is : (a b : ℕ) (s : List ℕ) → unwrap_or (position (either a b) s) (length s) ≡ before a b s
unfolding before
before_is a b s = first_or_end (either a b) s ∙ sym (is_position_or_len (before a b) (either a b) refl (λ _ _. refl) s)

-- and no longer than all
pub before_within : (a b : ℕ) (s : List ℕ) → before a b s ≤ length s
unfolding before
before_within a b [] = omega arith
before_within a b (x ∷ xs) = go (either a b x) (before_within a b xs) where
  go : (t : Bool) → before a b xs ≤ length xs → cond t 0 (1 + before a b xs) ≤ suc (length xs)
  go true h = omega arith
  go false h = omega arith

-- ---- two strings

pub same_is : (s t : List ℕ) → pointwise eqb s t ≡ same s t
unfolding same
same_is [] [] = refl
same_is [] (y ∷ ys) = refl
same_is (x ∷ xs) [] = refl
same_is (x ∷ xs) (y ∷ ys) = ap (λ (t : Bool). eqb x y && t) (same_is xs ys)

-- a minus sign in front
pub minus_is : (s : List ℕ) → pointwise eqb (take 1 s) (45 ∷ []) ≡ eqb (get_or s 0 0) 45
minus_is [] = refl
minus_is (x ∷ xs) = go (eqb x 45) where
  go : (t : Bool) → (t && true) ≡ t
  go true = refl
  go false = refl

-- what `==` says of two strings
pub named : (s x t : List ℕ) {r b : Bool} → r ≡ pointwise eqb s x → x ≡ t → r ≡ b → same s t ≡ b
named s x t e is told = sym (same_is s t) ∙ ap (pointwise eqb s) (sym is) ∙ sym e ∙ told

-- what is left
pub rest_part : (s : List ℕ) (i : ℕ) → take (length s - i) (drop i s) ≡ drop i s
rest_part s i = take_all (length s - i) (drop i s) (simp length-drop (omega arith))
