-- What is written is read: the spelling of any edit is a line that says it. So no reader that refuses all lines, or takes some other number, meets `line_of`. Assumes nothing.
use Rattle.std.specs.Prelude.{◌≡◌, refl, ℕ, ◌^◌, ◌<◌, Some, List, [], ◌∷◌, ◌++◌}
use Rattle.std.proofs.Common.{ap, ◌∙◌, arith, ne_eqb}
use Rattle.std.proofs.lemmas.Bool.{lt-leb}
use Rattle.line.specs.Line.{onto, cut, fields_of, given, edit_with, edit_from, line_of}
use Rattle.text.specs.Text.{decimal, pattern, space}
use Rattle.spelt.specs.laws.Digits.{read-pattern, read-decimal, From, from_both, from_less, from_decimal, from_pattern, cut-before}
use Rattle.entered.specs.Input.{edit_text}

-- p in front of other fields
one_more_lem : (p s : List ℕ) {ps : List (List ℕ)} → From 33 p → fields_of s ≡ ps → fields_of (p ++ (space ++ s)) ≡ p ∷ ps
unfolding fields_of
one_more_lem p s h e = cut-before 32 ([] ∷ []) p s h ∙ ap (λ (ls : List (List ℕ)). p ∷ ls) e

alone : (p : List ℕ) → From 33 p → fields_of p ≡ p ∷ []
unfolding fields_of cut onto
alone [] h = refl
alone (x ∷ p) h = simp (ne_eqb x 32 (λ e. omega (arith, h.0))) (rw (alone p h.1) refl)

fields-written : (row function a b c times : ℕ)
    → fields_of (edit_text row function a b c times) ≡ decimal row ∷ decimal function ∷ pattern a ∷ pattern b ∷ pattern c ∷ decimal times ∷ []
unfolding edit_text
fields-written row function a b c times =
    one_more_lem (decimal row) _ (from_decimal row)
    (one_more_lem (decimal function) _ (from_decimal function)
    (one_more_lem (pattern a) _ (from_pattern a)
    (one_more_lem (pattern b) _ (from_pattern b) (one_more_lem (pattern c) _ (from_pattern c) (alone (decimal times) (from_decimal times))))))

pub written : (row function a b c times : ℕ) → row < 2 ^ 32 → function < 2 ^ 8 → a < 2 ^ 64 → b < 2 ^ 64 → c < 2 ^ 64 → times < 2 ^ 16
    → line_of (edit_text row function a b c times) ≡ Some (edit_with row function a b c times)
unfolding line_of edit_from given
written row function a b c times hr hf ha hb hc ht =
    rw (fields-written row function a b c times)
    (rw (read-decimal row (omega arith), read-decimal function (omega arith), read-pattern a ha, read-pattern b hb, read-pattern c hc, read-decimal times (omega arith))
    (simp (lt-leb (2 ^ 32) row hr, lt-leb (2 ^ 8) function hf, lt-leb (2 ^ 16) times ht)))

-- it has no line end
pub no_end : (row function a b c times : ℕ) → From 11 (edit_text row function a b c times)
unfolding edit_text
no_end row function a b c times =
    before (decimal row) _ (from_decimal row)
    (before (decimal function) _ (from_decimal function)
    (before (pattern a) _ (from_pattern a)
    (before (pattern b) _ (from_pattern b) (before (pattern c) _ (from_pattern c) (from_less 11 33 (decimal times) (omega arith) (from_decimal times))))))
  where
    before : (p s : List ℕ) → From 33 p → From 11 s → From 11 (p ++ (space ++ s))
    before p s h k = from_both 11 p (space ++ s) (from_less 11 33 p (omega arith) h) (omega arith, k)
