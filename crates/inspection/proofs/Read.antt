-- What a read hands out: the 48 bytes of a row that can be read, and none of another. Assumes nothing.
use mathlib.Core.Path.{◌≡◌, refl, sym, ap, ◌∙◌}
use mathlib.Core.Bool.{Bool, true, false, cond}
use mathlib.Core.List.{List, []}
use Prim.Native.Nat.{ℕ, ◌*◌, ◌≤◌, ◌<◌}
use native.Mathlib.Omega.{arith}
use borrow.Author.Tests.{eq-eqb, eqb-true}
use lib.Dec.{eqb}
use lib.ListN.{length, take, drop, drop_of_length-le}
use Rattle.laws.specs.Arithmetic.{float, +0}
use Rattle.ledger.specs.Bytes.{number, pattern_at}
use Rattle.ledger.specs.Sheet.{no_class, function_in, refusal_in, first_in, class_of, value_of, sound_of, sound}
use Rattle.ledger.specs.Class.{class_at}
use Rattle.ledger.specs.Calls.{row_in, row_refusal, read_of, share_of}
use Rattle.ledger.specs.laws.Fields.{pattern_there, pattern-none}
use Rattle.ledger.specs.laws.Refusals.{length-row, readable, sheet_length}
use Rattle.inspection.specs.Rows.{sound_row, class_in, word_of, value_in}

-- past the end there is no word
no_bytes : (w : List ℕ) (n : ℕ) → length w ≤ n → number (take 8 (drop n w)) ≡ 0
unfolding number
no_bytes w n h = let none : drop n w ≡ [] = drop_of_length-le w h in rw none refl

module _ (s : List ℕ) (i : ℕ) where
  either : (P : Bool → List ℕ → Type 0) → (length (row_in s i) ≡ 48 → P true (row_in s i)) → P false [] → P (eqb (row_refusal s i) 0) (read_of s i)
  unfolding read_of
  either P p q = go (eqb (row_refusal s i) 0) refl
    where
      go : (b : Bool) → eqb (row_refusal s i) 0 ≡ b → P b (cond b (row_in s i) [])
      go true e = let k = readable s i (eqb-true _ _ e) in p (length-row s (sheet_length s k.0) i k.1)
      go false e = q

  -- ---- its share
  pub class-read : (share_of (read_of s i)).class ≡ class_at (class_in s i)
  unfolding share_of class_in class_at
  class-read = either (λ (b : Bool) (w : List ℕ). (share_of w).class ≡ class_at (cond b (class_of (row_in s i)) no_class)) (λ h. rw (eq-eqb _ _ h)) refl

  pub value_read : (share_of (read_of s i)).value ≡ value_in s i
  unfolding share_of value_in
  value_read = either (λ (b : Bool) (w : List ℕ). (share_of w).value ≡ cond b (value_of (row_in s i)) +0) (λ h. rw (eq-eqb _ _ h)) refl

  -- ---- the row tests
  pub unread : (length (read_of s i) ≡ 48 → ⊥) → false ≡ sound_row s i
  unfolding sound_row
  unread = either (λ (b : Bool) (w : List ℕ). (length w ≡ 48 → ⊥) → false ≡ cond b (sound (row_in s i)) false) (λ h n. absurd (n h)) (λ n. refl)

  pub tested : length (read_of s i) ≡ 48 → let w = read_of s i in sound_of (function_in w) (refusal_in w) (float (pattern_at w 32)) ≡ sound_row s i
  unfolding sound_row first_in
  tested =
      either (λ (b : Bool) (w : List ℕ). length w ≡ 48 → sound_of (function_in w) (refusal_in w) (float (pattern_at w 32)) ≡ cond b (sound (row_in s i)) false)
      (λ h z. let w = row_in s i in ap (λ (n : ℕ). sound_of (function_in w) (refusal_in w) (float n)) (pattern_there w 32 (omega (arith, h))))
      (λ z. absurd (omega (arith, z)))

  -- ---- its words
  module _ (k : ℕ) where
    pub no_word : 5 < k → word_of s i k ≡ 0
    unfolding word_of
    no_word h =
        either (λ (b : Bool) (w : List ℕ). number (take 8 (drop (8 * k) w)) ≡ 0)
        (λ z. no_bytes (row_in s i) (8 * k) (omega (arith, z, h)))
        (no_bytes [] (8 * k) (omega arith))

    pub word_read : k ≤ 5 → pattern_at (read_of s i) (8 * k) ≡ word_of s i k
    unfolding word_of
    word_read h =
        either (λ (b : Bool) (w : List ℕ). pattern_at w (8 * k) ≡ number (take 8 (drop (8 * k) w)))
        (λ z. pattern_there (row_in s i) (8 * k) (omega (arith, z, h)))
        (pattern-none [] (8 * k) (omega arith) ∙ sym (no_bytes [] (8 * k) (omega arith)))
