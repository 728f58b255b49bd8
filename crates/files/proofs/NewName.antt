-- The new file's name: its folder, its pieces, and the names that were tried. Assumes nothing.
use Rattle.std.proofs.Common.{◌≡◌, ℕ, zero, suc, Bool, true, false, cond, ltb, ltb-true, ◌+◌, ◌<◌, ◌≤◌, List, [], ◌∷◌, ◌++◌, length, take, set, ℤ, sym, refl, ap, ◌∙◌, zero-add, add-one, arith, length-append, take-suc-set, take_at, below_more, eq-eqb, ne_eqb}
use Rattle.std.specs.Prelude.{Some, None, nat_eq, slice_index, ◌≢◌}
use Rattle.std.proofs.lemmas.Bool.{ltb-false}
use Rattle.laws.specs.Ascii.{ascii}
use Rattle.text.specs.Text.{decimal}
use Rattle.text.specs.Writing.{Puts}
use Rattle.text.specs.laws.Digits.{field-most}
use Rattle.text.specs.laws.Writing.{placed_three}
use Rattle.files.specs.Calls.{makes, Called}
use Rattle.files.specs.Save.{folder_end, folder_of, stem_of, longest_folder, with_digit, Taken, Tries, free}

-- ---- the folder's end

module _ (name : List ℕ) where
  -- the last '/' ends it
  ends_at : (i n : ℕ) → i < n → slice_index name i ≡ 47 → ((k : ℕ) → i < k → k < n → slice_index name k ≢ 47) → folder_end name n ≡ i + 1
  unfolding folder_end
  ends_at i zero h at after = absurd (omega arith)
  ends_at i (suc n) h at after = by_place (ltb i n) refl (λ above. ends_at i n above at (λ k low high. after k low (omega arith))) where
    by_place : (t : Bool) → ltb i n ≡ t → (i < n → folder_end name n ≡ i + 1) → cond (nat_eq (slice_index name n) 47) (suc n) (folder_end name n) ≡ i + 1
    by_place true e before =
        let above : i < n = ltb-true i n e in
        simp (ne_eqb _ 47 (after n above (omega arith))) (before above)
    by_place false e before =
        let is : i ≡ n = omega (arith, ltb-false i n e) in
        simp (eq-eqb _ 47 (rw is at at)) (omega arith)

  -- where there is none it is empty
  ends_nowhere : (n : ℕ) → ((k : ℕ) → k < n → slice_index name k ≢ 47) → folder_end name n ≡ 0
  unfolding folder_end
  ends_nowhere zero none = refl
  ends_nowhere (suc n) none = simp (ne_eqb _ 47 (none n (omega arith))) (ends_nowhere n (λ k h. none k (omega arith)))

  pub folder_at : (i : ℕ) → i < length name → slice_index name i ≡ 47 → ((k : ℕ) → i < k → k < length name → slice_index name k ≢ 47) → take (i + 1) name ≡ folder_of name
  unfolding folder_of
  folder_at i h at after = ap (λ (n : ℕ). take n name) (sym (ends_at i (length name) h at after))

  pub folder_nowhere : ((k : ℕ) → k < length name → slice_index name k ≢ 47) → ◌≡◌ {A = List ℕ} [] (folder_of name)
  unfolding folder_of
  folder_nowhere none = ap (λ (n : ℕ). take n name) (sym (ends_nowhere (length name) none))

-- ---- the pieces of its stem

pub stem_put : (folder path : List ℕ) (number : ℕ) {p q r : List ℕ} {a b c : ℕ} → length folder ≤ longest_folder → length path ≡ 4096
    → Puts path p 0 a (length folder) folder → Puts p q a b 6 (ascii ".legs-") → Puts q r b c 21 (decimal number ++ (45 ∷ []))
    → (take c r ≡ stem_of folder number) × ((0 < c) × (c < 4096))
unfolding stem_of
stem_put folder path number {r = r} {c = c} few size x y z =
    let all =
    placed_three path 0 (length folder) 6 21 (length folder) 6 21 folder (ascii ".legs-") (decimal number ++ (45 ∷ []))
    (omega arith, omega arith, field-most number 45) (omega arith, omega arith, omega arith) (omega arith, omega arith, omega arith) x y z in
    let e : c ≡ length (stem_of folder number) = all.0.next ∙ zero-add _ in
    (ap (take c) all.0.bytes ∙ take_at (stem_of folder number) _ c (sym e), (omega (arith, simp length-append at all.0.next), omega (arith, all.1)))

-- ---- and its last digit

pub digit_put : (path : List ℕ) (at d : ℕ) → at < length path → take (at + 1) (set path at d) ≡ take at path ++ (d ∷ [])
digit_put path at d h = rw add-one (take-suc-set path at d h)

-- ---- the names that were tried

-- the digits below k
pub record TriedTo (at k : ℕ) (first path : List ℕ) : Type 0 where
  pub stem : take at path ≡ take at first
  pub size : length path ≡ length first
  pub few : k ≤ 10
  pub all : (j : ℕ) → j < k → Taken (with_digit (take at first) j)

pub none_tried : (at : ℕ) (path : List ℕ) → TriedTo at 0 path path
none_tried at path = record { stem = refl; size = refl; few = omega arith; all = λ j h. absurd (omega arith) }

module _ (at k : ℕ) (first old new : List ℕ) (h : TriedTo at k first old) (below : k < 10) (digit : take (at + 1) new ≡ with_digit (take at old) k) where
  named : take (at + 1) new ≡ with_digit (take at first) k
  named = digit ∙ ap (λ (s : List ℕ). with_digit s k) h.stem

  pub one_free : (file : ℤ) → Called (makes (take (at + 1) new) (Some file)) → Tries (take at first) (take (at + 1) new) (Some file)
  one_free file c = free k file below named c

  pub one-taken : Called (makes (take (at + 1) new) None) → take at new ≡ take at old → length new ≡ length old → TriedTo at (k + 1) first new
  one-taken c kept size =
      let it : Taken (with_digit (take at first) k) = rw named at c in
      record {
        stem = kept ∙ h.stem;
        size = size ∙ h.size;
        few = omega arith;
        all = below_more (λ (j : ℕ). Taken (with_digit (take at first) j)) k h.all it;
      }
