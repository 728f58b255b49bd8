-- A file put in place whole: a new one is made in the same folder, filled, synced, closed, and takes the name. Definitions only.
use Rattle.std.specs.Prelude.{◌≡◌, ℕ, zero, suc, ◌+◌, ◌<◌, Bool, true, false, List, [], ◌∷◌, ◌++◌, length, take, Option, Some, None, ℤ, nat_eq, slice_index, IsUtf8}
use Rattle.laws.specs.Ascii.{ascii}
use Rattle.laws.specs.Ladder.{when◌gives◌else◌}
use Rattle.text.specs.Text.{decimal}
use Rattle.files.specs.Calls.{makes, fills, syncs, closes, renames, removes, Called}

-- ---- the new file's name

-- where a '/' last ends among the first n bytes; 0 where there is none
unfoldable pub folder_end : List ℕ → ℕ → ℕ
folder_end name zero = 0
folder_end name (suc n) =
    when nat_eq (slice_index name n) 47 gives suc n else
    folder_end name n

-- the folder: the name up to and with its last '/'
unfoldable pub folder_of : List ℕ → List ℕ
folder_of name = take (folder_end name (length name)) name

-- in the same folder, with the process's number
unfoldable pub stem_of : List ℕ → ℕ → List ℕ
stem_of folder number = folder ++ ascii ".legs-" ++ (decimal number ++ ascii "-")

-- the name with a last digit
abbrev pub with_digit : List ℕ → ℕ → List ℕ
with_digit stem k = stem ++ ((48 + k) ∷ [])

-- the longest folder that leaves room for such a name in a path of 4,096 bytes
abbrev pub longest_folder : ℕ
longest_folder = 4068

-- the stem of the new file's name, for some number
pub record Stem (name stem : List ℕ) : Type 0 where
  pub number : ℕ
  pub is : stem ≡ stem_of (folder_of name) number

-- ---- the new file

-- the name was tried, and no file was made
abbrev pub Taken : List ℕ → Type 0
Taken new = Called (makes new None)

-- what came of the ten names of a stem: under the first that was free a file was made; or none was
pub data Tries (stem new : List ℕ) : Option ℤ → Type 0 where
  free : (k : ℕ) (file : ℤ) → k < 10 → new ≡ with_digit stem k → Called (makes new (Some file)) → Tries stem new (Some file)
  taken : ((k : ℕ) → k < 10 → Taken (with_digit stem k)) → Tries stem new None

-- a file was made in the folder of this name
pub record New (name new : List ℕ) (file : ℤ) : Type 0 where
  pub number : ℕ
  pub tries : Tries (stem_of (folder_of name) number) new (Some file)

-- what came of writing it: every call answered well, or one did not; it is closed in any case
pub data Written (file : ℤ) (bytes : List ℕ) : Bool → Type 0 where
  unfilled : Called (fills file bytes false) → Called (closes file) → Written file bytes false
  unsynced : Called (fills file bytes true) → Called (syncs file bytes false) → Called (closes file) → Written file bytes false
  synced : Called (fills file bytes true) → Called (syncs file bytes true) → Called (closes file) → Written file bytes true

-- ---- the whole

-- the bytes are under the name; or not, since the name is no UTF-8 text, which std takes for no name, its folder's name is too long, or a call did not answer well, and
-- what was made was removed again
pub data Save (name bytes : List ℕ) : Bool → Type 0 where
  no_text : (IsUtf8 name → ⊥) → Save name bytes false
  long : longest_folder < length (folder_of name) → Save name bytes false
  unmade : (number : ℕ) (new : List ℕ) → Tries (stem_of (folder_of name) number) new None → Save name bytes false
  unwritten : (new : List ℕ) (file : ℤ) (gone : Bool) → New name new file → Written file bytes false → Called (removes new gone) → Save name bytes false
  unnamed : (new : List ℕ) (file : ℤ) (gone : Bool) → New name new file → Written file bytes true → Called (renames new name false) → Called (removes new gone)
      → Save name bytes false
  saved : (new : List ℕ) (file : ℤ) → New name new file → Written file bytes true → Called (renames new name true) → Save name bytes true
