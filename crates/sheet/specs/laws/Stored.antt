-- A row that an edit stores: 48 bytes that read back as its function, refusal number and first answer. Assumes nothing.
use Rattle.std.specs.Prelude.{◌≡◌, Bool, cond, ℕ, ◌≤◌, length, take, drop}
use Rattle.std.proofs.Math.Path.{refl, ap, sym}
use Rattle.std.proofs.Common.{◌∙◌}
use Rattle.std.proofs.Math.Bool.{true, false}
use mathlib.Core.List.{List}
use borrow.Author.Tests.{le-leb, eqb-true}
use Rattle.std.proofs.Math.Dec.{T, eqb}
use Rattle.std.specs.Float.Ieee.{is_nan, of_bits, to_bits, binary64}
use Rattle.std.specs.Float.Ieee.Bits.{to_bits-lt}
use Rattle.bits.specs.laws.Patterns.{value_back}
use Rattle.laws.specs.Arithmetic.{float}
use Rattle.answer.specs.Answer.{refusal_of, first_of}
use Rattle.answer.specs.Numbers.{last, stored}
use Rattle.sheet.specs.laws.Evaluated.{stored_refusal, never_nan, fits-first}
use Rattle.ledger.specs.Bytes.{bytes, number, fields}
use Rattle.ledger.specs.Sheet.{Row, row_bytes, blank_row, function_in, refusal_in, first_in, sound_of, sound}
use Rattle.ledger.specs.laws.Fields.{number-bytes}
use Rattle.sheet.specs.declared.Entry.{Entry}
use Rattle.sheet.specs.Edit.{kept_of, answer_of, answered, row_of}

-- ---- a function's row

module _ (e : Entry) where
  length-answered : length (answered e) ≡ 48
  unfolding answered row_bytes fields bytes
  length-answered = refl

  pub function_answered : function_in (answered e) ≡ e.function
  unfolding function_in answered row_bytes
  function_answered = refl

  pub refusal_answered : refusal_in (answered e) ≡ refusal_of (answer_of e)
  unfolding refusal_in answered row_bytes
  refusal_answered = refl

  -- the word at place 32
  fifth : take 8 (drop 32 (answered e)) ≡ bytes 8 (to_bits binary64 (first_of (answer_of e)))
  unfolding answered row_bytes fields bytes
  fifth = refl

  pub first-answered : first_in (answered e) ≡ first_of (answer_of e)
  unfolding first_in
  first-answered =
      let x = first_of (answer_of e) in
      let h = fits-first e.function e.a e.b e.c in
      ap (λ (s : List ℕ). float (number s)) fifth ∙ ap float (number-bytes 8 (to_bits binary64 x) (to_bits-lt binary64 x h)) ∙ value_back x h

  sound-answered : e.function ≤ last → sound (answered e) ≡ true
  unfolding sound_of
  sound-answered h =
      rw (
        function_answered,
        refusal_answered,
        first-answered,
        le-leb e.function last h,
        told (stored (refusal_of (answer_of e))) (stored_refusal e.function e.a e.b e.c h),
        never_nan e.function e.a e.b e.c,
      )
    where
      told : (b : Bool) → T b → b ≡ true
      told true t = refl
      told false t = absurd t

sound_blank : sound blank_row ≡ true
unfolding sound_of function_in refusal_in first_in number of_bits is_nan stored
sound_blank = refl

-- ---- both kinds of row

-- what holds of the blank row, where it is one, and of a function's row, holds of an edit's
module _ (e : Entry) where
  pub either : (P : Row → Type 0) → (e.function ≡ 0 → P blank_row) → P (answered (kept_of e)) → P (row_of e)
  unfolding row_of
  either P p q = go (eqb e.function 0) refl
    where
      go : (t : Bool) → eqb e.function 0 ≡ t → P (cond t blank_row (answered (kept_of e)))
      go true h = p (eqb-true _ _ h)
      go false h = q

  pub length_row_of : length (row_of e) ≡ 48
  length_row_of = either (λ (w : Row). length w ≡ 48) (λ h. refl) (length-answered (kept_of e))

  pub function_row_of : function_in (row_of e) ≡ e.function
  unfolding function_in kept_of
  function_row_of = either (λ (w : Row). function_in w ≡ e.function) (λ h. sym h) (function_answered (kept_of e))

  pub sound_row_of : e.function ≤ last → sound (row_of e) ≡ true
  unfolding kept_of
  sound_row_of h = either (λ (w : Row). sound w ≡ true) (λ z. sound_blank) (sound-answered (kept_of e) h)
