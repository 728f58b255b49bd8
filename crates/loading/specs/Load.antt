-- A file's bytes, as far as a buffer goes. Definitions only.
use Rattle.std.specs.Prelude.{◌≡◌, ℕ, ◌+◌, ◌<◌, Bool, true, false, List, [], ◌∷◌, ℤ, length, Some, None, IsUtf8}
use Rattle.files.specs.Calls.{Read, opens, reads, closes, Called}
use Rattle.files.specs.Reads.{brought_of, failed_of, input_of}

-- the buffer: the largest sheet, and one byte more
abbrev pub most : ℕ
most = 49481

-- the reads that were made of a file into a buffer of `room` bytes, with so many in it at first: each but the last brings some more; the buffer is full then, or the
-- last read meets the file's end, or it fails
pub data Fills (room : ℕ) (file : ℤ) : ℕ → List Read → Bool → Type 0 where
  full : Fills room file room [] true
  ends : {at : ℕ} {r : Read} → Called (reads file at r) → failed_of r ≡ false → brought_of r ≡ [] → Fills room file at (r ∷ []) true
  broke : {at : ℕ} {r : Read} → Called (reads file at r) → failed_of r ≡ true → Fills room file at (r ∷ []) false
  more : {at : ℕ} {r : Read} {rs : List Read} {ok : Bool} → Called (reads file at r) → failed_of r ≡ false → 0 < length (brought_of r)
      → Fills room file (at + length (brought_of r)) rs ok → Fills room file at (r ∷ rs) ok

-- what a file brought into such a buffer: the bytes of its reads, and whether none of them failed
pub record Brought (room : ℕ) (file : ℤ) (bytes : List ℕ) (ok : Bool) : Type 0 where
  pub reads : List Read
  pub fills : Fills room file 0 reads ok
  pub is : bytes ≡ input_of reads

-- the file of this name: its bytes, and whether they could be read; none where the name is no UTF-8 text, which std takes for no name, where the file could not be
-- opened, or a read failed
pub data Load (name : List ℕ) : List ℕ → Bool → Type 0 where
  no_text : (IsUtf8 name → ⊥) → Load name [] false
  unopened : Called (opens name None) → Load name [] false
  opened : {bytes : List ℕ} (file : ℤ) → Called (opens name (Some file)) → Brought most file bytes true → Called (closes file) → Load name bytes true
  broken : {bytes : List ℕ} (file : ℤ) → Called (opens name (Some file)) → Brought most file bytes false → Called (closes file) → Load name [] false
