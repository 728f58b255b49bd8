-- The new file's name is text where the file's name is: it is cut after a '/', and ASCII follows. Assumes nothing.
use Rattle.std.proofs.Common.{◌≡◌, ℕ, zero, suc, ◌+◌, ◌/◌, ◌%◌, ◌<◌, ◌≤◌, Bool, true, false, cond, List, [], ◌∷◌, ◌++◌, length, take, ℤ, refl, arith, add-one, ltb, ltb-true, eqb-true, subst}
use Rattle.std.specs.Prelude.{IsUtf8, Some, nat_eq, slice_index}
use Rattle.std.specs.Str.{IsAscii}
use Rattle.std.proofs.lemmas.Str.{IsUtf8-nil, IsUtf8-append, IsUtf8-from_ascii, IsUtf8-take, IsCharBoundary-after_ascii}
use Rattle.laws.specs.Ascii.{ascii}
use Rattle.text.specs.Text.{glyph_of, digits_of, decimal}
use Rattle.files.specs.Save.{folder_end, folder_of, stem_of, Stem, with_digit, Tries, free}

-- ---- ASCII

one_ascii : (x : ℕ) → x < 128 → IsAscii (x ∷ [])
one_ascii x h zero = h
one_ascii x h (suc i) = omega arith

-- one ASCII byte before some text
before : (x : ℕ) (bs : List ℕ) → x < 128 → IsUtf8 bs → IsUtf8 (x ∷ bs)
before x bs h u = IsUtf8-append (x ∷ []) bs (IsUtf8-from_ascii (x ∷ []) (one_ascii x h)) u

-- and after it
after : (x : ℕ) (bs : List ℕ) → x < 128 → IsUtf8 bs → IsUtf8 (bs ++ (x ∷ []))
after x bs h u = IsUtf8-append bs (x ∷ []) u (IsUtf8-from_ascii (x ∷ []) (one_ascii x h))

-- ---- digits

glyph_low : (d : ℕ) → d < 10 → glyph_of d < 128
unfolding glyph_of
glyph_low d h = by_test (ltb d 10) where
  by_test : (t : Bool) → cond t (48 + d) (87 + d) < 128
  by_test true = omega arith
  by_test false = omega arith

digits_text : (k n : ℕ) → IsUtf8 (digits_of false 10 k n)
unfolding digits_of
digits_text zero n = IsUtf8-nil
digits_text (suc k) n = by_test (ltb n 10) refl (digits_text k (n / 10)) where
  by_test : (t : Bool) → ltb n 10 ≡ t → IsUtf8 (digits_of false 10 k (n / 10)) → IsUtf8 (cond t (glyph_of n ∷ []) (digits_of false 10 k (n / 10) ++ (glyph_of (n % 10) ∷ [])))
  by_test true e u = before (glyph_of n) [] (glyph_low n (ltb-true n 10 e)) IsUtf8-nil
  by_test false e u = after (glyph_of (n % 10)) (digits_of false 10 k (n / 10)) (glyph_low (n % 10) (omega arith)) u

decimal_text : (n : ℕ) → IsUtf8 (decimal n)
unfolding decimal
decimal_text n = digits_text 20 n

-- ---- the folder

module _ (name : List ℕ) (u : IsUtf8 name) where
  folder_text : (n : ℕ) → n ≤ length name → IsUtf8 (take (folder_end name n) name)
  unfolding folder_end
  folder_text zero h = IsUtf8-nil
  folder_text (suc n) h = by_test (nat_eq (slice_index name n) 47) refl (folder_text n (omega arith)) where
    by_test : (t : Bool) → nat_eq (slice_index name n) 47 ≡ t → IsUtf8 (take (folder_end name n) name) → IsUtf8 (take (cond t (suc n) (folder_end name n)) name)
    by_test true e v =
        let is : slice_index name n ≡ 47 = eqb-true (slice_index name n) 47 e in
        subst (λ (m : ℕ). IsUtf8 (take m name)) (add-one n) (IsUtf8-take name (n + 1) u (IsCharBoundary-after_ascii name n u (omega arith) (omega arith)))
    by_test false e v = v

  folder_of_text : IsUtf8 (folder_of name)
  unfolding folder_of
  folder_of_text = folder_text (length name) (omega arith)

  -- ---- the whole

  stem_of_text : (number : ℕ) → IsUtf8 (stem_of (folder_of name) number)
  unfolding stem_of
  stem_of_text number =
      let legs : IsUtf8 (ascii ".legs-") =
      before 46 _ (omega arith) (before 108 _ (omega arith) (before 101 _ (omega arith) (before 103 _ (omega arith) (before 115 _ (omega arith) (before 45 [] (omega arith) IsUtf8-nil)))))
      in
      let digits : IsUtf8 (decimal number ++ ascii "-") = after 45 (decimal number) (omega arith) (decimal_text number) in
      IsUtf8-append (folder_of name ++ ascii ".legs-") (decimal number ++ ascii "-") (IsUtf8-append (folder_of name) (ascii ".legs-") folder_of_text legs) digits

  pub stem_text : {stem : List ℕ} → Stem name stem → IsUtf8 stem
  stem_text s = rw s.is (stem_of_text s.number)

pub digit_text : {stem : List ℕ} (k : ℕ) → k < 10 → IsUtf8 stem → IsUtf8 (with_digit stem k)
digit_text {stem = stem} k h u = after (48 + k) stem (omega arith) u

-- so is the name under which a file was made
pub made_text : {stem new : List ℕ} {file : ℤ} → IsUtf8 stem → Tries stem new (Some file) → IsUtf8 new
made_text u (free k file h is made) = rw is (digit_text k h u)
