-- Two sheet files compared (02, [5]): what is said of them. s is the old sheet, t the new one. Definitions only.
use Rattle.std.specs.Prelude.{◌≡◌, ℕ, true, false, List, Result, Ok, Err, ⊤, ℤ}
use Rattle.difference.specs.declared.Stop.{Stop}
use Rattle.difference.specs.Difference.{stop_of}
use Rattle.differing.specs.Differing.{text_of, refused_text}
use Rattle.files.specs.Calls.{Called, words, Counts}
use Rattle.loading.specs.Load.{Load}
use Rattle.files.specs.Notes.{usage_line}
use Rattle.loading.specs.Notes.{cannot_read}
use Rattle.files.specs.declared.sending.Output.{Output}
use Rattle.files.specs.Output.{output_of, Wrote}

-- of two sheets: a line for each row that differs, and the end; nothing is printed before every test has passed. Of what is refused, that line alone, with the file's name
abbrev pub said_of : List ℕ → List ℕ → List ℕ → List ℕ → Result ⊤ Stop → List ℕ
said_of old new s t (Ok x) = text_of s t
said_of old new s t (Err q) = refused_text old new q

unfoldable pub compared_text : List ℕ → List ℕ → List ℕ → List ℕ → List ℕ
compared_text old new s t = said_of old new s t (stop_of s t)

-- of two files: both are read before either is tested, and one that can't be read is said to be that, the old one first
pub data Compared (old new text : List ℕ) : Type 0 where
  old_unread : {s : List ℕ} → Load old s false → text ≡ cannot_read old → Compared old new text
  new_unread : {s t : List ℕ} → Load old s true → Load new t false → text ≡ cannot_read new → Compared old new text
  both_read : {s t : List ℕ} → Load old s true → Load new t true → text ≡ compared_text old new s t → Compared old new text

-- the two files were named, and what is said of them was sent, a line at a time
pub record Done (output : ℤ) (old new : List ℕ) (last : Output) : Type 0 where
  pub text : List ℕ
  pub compared : Compared old new text
  pub wrote : Wrote (output_of output) text last

-- a whole run: with two words after the program's name they are the files'; with another number of them it says how it is called, and does nothing else
pub data Ran (output : ℤ) (call : List ℕ) : Type 0 where
  called_wrong : (n : ℕ) (last : Output) → Counts n → (n ≡ 3 → ⊥) → Wrote (output_of output) (usage_line call) last → Ran output call
  called : (old new : List ℕ) → Counts 3 → Called (words 1 old) → Called (words 2 new) → (last : Output) → Done output old new last → Ran output call
