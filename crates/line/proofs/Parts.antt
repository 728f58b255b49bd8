-- A line's fields, from its front. Assumes nothing.
use mathlib.Core.Path.{◌≡◌, refl, sym, ap, ◌∙◌}
use Prim.Native.Nat.{ℕ, suc, ◌+◌, ◌-◌, ◌≤◌, ◌<◌}
use native.Mathlib.Numerals.{add-one}
use native.Mathlib.Omega.{arith}
use mathlib.Core.Bool.{Bool, true, false, cond, not}
use mathlib.Core.List.{List, [], ◌∷◌}
use lib.ListN.{length, take, drop, length-drop, drop_of_length-le}
use lib.Seq.{drop-cons, drop-drop, take_all}
use Rattle.std.specs.Option.{unwrap_or}
use Rattle.std.specs.List.{position, position_or_len}
use Rattle.std.proofs.lemmas.Bool.Decides.{nat_tests}
use Rattle.std.proofs.lemmas.List.Sums.{prefix_len-le-length}
use Rattle.std.proofs.lemmas.List.Recursion.{is_position_or_len}
use lib.Dec.{ltb, eqb}
use borrow.Author.Tests.{lt-ltb, le-ltb, ltb-true, ltb-false}
use Rattle.line.specs.Line.{onto, cut, fields_of}
use Rattle.std.specs.Prelude.{Option}
use Rattle.line.specs.Reading.{word_of, number_of, fields_from, Taken}

-- ---- the first space

-- the first place that passes, or the end
pub first_or_end : (p : ℕ → Bool) (s : List ℕ) → unwrap_or (position p s) (length s) ≡ position_or_len p s
first_or_end p s = let small = prefix_len-le-length (λ x. not (p x)) s in grind (arith, nat_tests)

pub word_is : (s : List ℕ) → unwrap_or (position (λ b. eqb b 32) s) (length s) ≡ word_of s
unfolding word_of
word_is s = first_or_end (λ b. eqb b 32) s ∙ sym (is_position_or_len word_of (λ x. eqb x 32) (omega arith) (λ x xs. ap (λ (n : ℕ). cond (eqb x 32) 0 n) (omega arith)) s)

-- ---- the first field and the others

-- the fields after a space
pub after : List ℕ → List (List ℕ)
after [] = []
after (x ∷ xs) = fields_of xs

module _ (x : ℕ) (xs : List ℕ) (rest : fields_of xs ≡ take (word_of xs) xs ∷ after (drop (word_of xs) xs)) where
  one_byte : (t : Bool) → eqb x 32 ≡ t
      → cond t ([] ∷ fields_of xs) (onto x (fields_of xs)) ≡ take (cond t 0 (suc (word_of xs))) (x ∷ xs) ∷ after (drop (cond t 0 (suc (word_of xs))) (x ∷ xs))
  unfolding after onto
  one_byte true e = refl
  one_byte false e = rw rest refl

pub first_field : (s : List ℕ) → fields_of s ≡ take (word_of s) s ∷ after (drop (word_of s) s)
unfolding fields_of cut word_of after
first_field [] = refl
first_field (x ∷ xs) = one_byte x xs (first_field xs) (eqb x 32) refl

-- no place past the end has a field
pub none_from : (s : List ℕ) (from : ℕ) → length s < from → fields_from s from ≡ []
unfolding fields_from
none_from s from h = simp (lt-ltb (length s) from h)

pub fields_from_lem : (s : List ℕ) (from : ℕ) → from ≤ length s → fields_from s from ≡ fields_of (drop from s)
unfolding fields_from
fields_from_lem s from h = simp (le-ltb (length s) from h)

-- the fields after a space at m, or after the end
pub after-at : (s : List ℕ) (m : ℕ) → after (drop m s) ≡ fields_from s (m + 1)
unfolding after
after-at s m = by (ltb m (length s)) refl where
  by : (t : Bool) → ltb m (length s) ≡ t → after (drop m s) ≡ fields_from s (m + 1)
  by true e =
      let h : m < length s = ltb-true m (length s) e in
      rw (drop-cons s m 0 h) (sym (fields_from_lem s (m + 1) (omega arith) ∙ rw add-one refl))
  by false e =
      let h : length s ≤ m = ltb-false m (length s) e in
      rw (drop_of_length-le s h) (sym (none_from s (m + 1) (omega arith)))

pub rest_part : (t : List ℕ) (j : ℕ) → take (length t - j) (drop j t) ≡ drop j t
rest_part t j = take_all (length t - j) (drop j t) (simp length-drop (omega arith))

-- ---- one field read

-- past the end: an empty field, and none after it
pub taken_none : (s : List ℕ) (from base : ℕ) (v : Option ℕ) → length s < from → v ≡ number_of base [] → Taken s from base v from
taken_none s from base v h e =
    let f : fields_from s from ≡ [] = none_from s from h in
    record { first = rw f e; others = rw f refl }

-- n bytes up to a space or the end
pub taken-one : (s : List ℕ) (from base n : ℕ) (v : Option ℕ) → from ≤ length s → n ≡ word_of (drop from s) → v ≡ number_of base (take n (drop from s))
    → Taken s from base v (from + n + 1)
taken-one s from base n v h en ev =
    let f : fields_from s from ≡ take n (drop from s) ∷ after (drop n (drop from s)) =
    rw en (fields_from_lem s from h ∙ first_field (drop from s)) in
    record { first = rw f ev; others = rw f (rw (drop-drop n from s) (sym (after-at s (from + n)))) }
