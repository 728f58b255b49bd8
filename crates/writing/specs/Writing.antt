-- A sheet file as hex text (02, [10]): what is printed of it. Definitions only.
use Rattle.std.specs.Prelude.{◌≡◌, ℕ, true, false, List, ℤ}
use Rattle.laws.specs.Ladder.{when◌gives◌else◌}
use Rattle.ledger.specs.Calls.{is_sheet}
use Rattle.hexpage.specs.HexPage.{text_of}
use Rattle.files.specs.Calls.{Called, words, Counts}
use Rattle.files.specs.Notes.{usage_line}
use Rattle.files.specs.declared.sending.Output.{Output}
use Rattle.files.specs.Output.{output_of, Wrote}
use Rattle.loading.specs.Load.{Load}
use Rattle.loading.specs.Notes.{cannot_read, refused7}

-- of these bytes
unfoldable pub written_text : List ℕ → List ℕ
written_text s =
    when is_sheet s gives text_of s else
    refused7

-- of a file
pub data Shown (name text : List ℕ) : Type 0 where
  unread : {s : List ℕ} → Load name s false → text ≡ cannot_read name → Shown name text
  was_read : {s : List ℕ} → Load name s true → text ≡ written_text s → Shown name text

-- the file was named, and what is said of it was sent, a line at a time
pub record Done (output : ℤ) (name : List ℕ) (last : Output) : Type 0 where
  pub text : List ℕ
  pub shown : Shown name text
  pub wrote : Wrote (output_of output) text last

-- a whole run: with one word after the program's name it is the file's; with another number of them it says how it is called, and does nothing else
pub data Ran (output : ℤ) (call : List ℕ) : Type 0 where
  called_wrong : (n : ℕ) (last : Output) → Counts n → (n ≡ 2 → ⊥) → Wrote (output_of output) (usage_line call) last → Ran output call
  called : (name : List ℕ) → Counts 2 → Called (words 1 name) → (last : Output) → Done output name last → Ran output call
