-- Six fields, one after the other, are the line. Assumes nothing.
use mathlib.Core.Path.{◌≡◌, refl, sym, ap, ◌∙◌}
use Prim.Native.Nat.{ℕ, suc, ◌≤◌, ◌<◌}
use native.Mathlib.Numerals.{add-one}
use native.Mathlib.Nat.{add-zero}
use native.Mathlib.Omega.{arith}
use mathlib.Core.Bool.{Bool, true, false}
use mathlib.Core.List.{List, []}
use lib.ListN.{length, drop, get_or, length-drop, get_or-eq_default}
use lib.Seq.{get_or-drop, drop-drop}
use lib.Dec.{eqb}
use borrow.Author.Tests.{ne_eqb, eqb-false}
use Rattle.laws.specs.Ladder.{held, passed}
use Rattle.std.specs.Prelude.{Option, None}
use Rattle.line.specs.declared.Edit.{Edit}
use Rattle.line.specs.Line.{fields_of, edit_from, line_of}
use Rattle.line.specs.laws.Long.{some_field, no_times, decimal-none}
use Rattle.line.specs.Reading.{number_of, fields_from, Taken}
use Rattle.line.proofs.Parts.{none_from, fields_from_lem}

-- the field number k was taken: it is the line's, and the others follow
module _ (s : List ℕ) {from base next : ℕ} {v : Option ℕ} (k : ℕ) (t : Taken s from base v next) (at : fields_from s from ≡ drop k (fields_of s)) where
  is_field : v ≡ number_of base (get_or (fields_of s) k [])
  is_field = t.first ∙ ap (number_of base) (rw at (get_or-drop k (fields_of s) 0 [] ∙ rw add-zero refl))

  then : fields_from s next ≡ drop (suc k) (fields_of s)
  then = t.others ∙ rw at (drop-drop 1 k (fields_of s) ∙ rw add-one refl)

-- six fields taken one after the other, and what is left
module _
    (s : List ℕ) {row function a b c times : Option ℕ} {n₁ n₂ n₃ n₄ n₅ n₆ : ℕ} (t₁ : Taken s 0 10 row n₁) (t₂ : Taken s n₁ 10 function n₂) (t₃ : Taken s n₂ 16 a n₃)
    (t₄ : Taken s n₃ 16 b n₄) (t₅ : Taken s n₄ 16 c n₅) (t₆ : Taken s n₅ 10 times n₆) where
  at₀ : fields_from s 0 ≡ drop 0 (fields_of s)
  at₀ = fields_from_lem s 0 (omega arith)

  at₁ : fields_from s n₁ ≡ drop 1 (fields_of s)
  at₁ = then s 0 t₁ at₀

  at₂ : fields_from s n₂ ≡ drop 2 (fields_of s)
  at₂ = then s 1 t₂ at₁

  at₃ : fields_from s n₃ ≡ drop 3 (fields_of s)
  at₃ = then s 2 t₃ at₂

  at₄ : fields_from s n₄ ≡ drop 4 (fields_of s)
  at₄ = then s 3 t₄ at₃

  at₅ : fields_from s n₅ ≡ drop 5 (fields_of s)
  at₅ = then s 4 t₅ at₄

  at₆ : fields_from s n₆ ≡ drop 6 (fields_of s)
  at₆ = then s 5 t₆ at₅

  -- there are more
  pub too_many : n₆ ≤ length s → None ≡ line_of s
  unfolding line_of
  too_many h =
      let some = some_field (drop n₆ s) in
      let left : length (drop 6 (fields_of s)) ≡ length (fields_of (drop n₆ s)) = ap length (sym at₆ ∙ fields_from_lem s n₆ h) in
      passed _ _ (ne_eqb (length (fields_of s)) 6 (λ six. omega (arith, length-drop 6 (fields_of s)))) refl

  -- there are no more; a missing one is no number
  pub just_six : {l : Option Edit} → length s < n₆ → l ≡ edit_from row function a b c times → l ≡ line_of s
  unfolding line_of number_of
  just_six {l} h e = by (eqb (length (fields_of s)) 6) refl where
    by : (t : Bool) → eqb (length (fields_of s)) 6 ≡ t → l ≡ line_of s
    by true six =
        held _ _ six
        (e ∙ rw (is_field s 0 t₁ at₀, is_field s 1 t₂ at₁, is_field s 2 t₃ at₂, is_field s 3 t₄ at₃, is_field s 4 t₅ at₄, is_field s 5 t₆ at₅) refl)
    by false other =
        let none : length (drop 6 (fields_of s)) ≡ 0 = ap length (sym at₆ ∙ none_from s n₆ h) in
        let few : length (fields_of s) ≤ 5 = omega (arith, length-drop 6 (fields_of s), eqb-false (length (fields_of s)) 6 other) in
        let gone : get_or (fields_of s) 5 [] ≡ [] = get_or-eq_default (fields_of s) [] few in
        passed _ _ other (e ∙ no_times row function a b c times (is_field s 5 t₆ at₅ ∙ rw gone decimal-none))
