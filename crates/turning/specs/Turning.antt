-- A sheet file turned into one of the other kind (02, [9]): what is said, and what is then in the second file. `forth` says which way: true from 1 to 3. Definitions only.
use Rattle.std.specs.Prelude.{◌≡◌, ℕ, Bool, true, false, List, eqb, ℤ}
use Rattle.laws.specs.Ascii.{ascii}
use Rattle.laws.specs.Ladder.{when◌gives◌else◌}
use Rattle.ledger.specs.Calls.{rows_in}
use Rattle.conversion.specs.Conversion.{Stopped, stop_of, converted_of}
use Rattle.files.specs.Calls.{Called, words, Counts}
use Rattle.loading.specs.Load.{Load}
use Rattle.files.specs.Save.{Save}
use Rattle.files.specs.Notes.{cannot_write, usage_line}
use Rattle.loading.specs.Notes.{cannot_read, refused7, number_line}
use Rattle.files.specs.declared.sending.Output.{Output}
use Rattle.files.specs.Output.{output_of, Wrote}

-- what refused the sheet, of r rows: 7; 17 with its row; 10 for the counts, or with its row
unfoldable pub stop_line : Stopped → ℕ → List ℕ
stop_line s r =
    when eqb s.refusal 7 gives refused7 else
    when eqb s.refusal 17 gives number_line (ascii "refused 17 row ") s.row else
    when eqb s.row r gives ascii "refused 10 counts\n" else
    number_line (ascii "refused 10 row ") s.row

-- how many rows the sheet has
unfoldable pub rows_line : ℕ → List ℕ
rows_line r = number_line (ascii "rows ") r

-- bytes that may be written: a sheet was accepted, and this is what it is converted to
pub record Converted (bytes : List ℕ) : Type 0 where
  pub sheet : List ℕ
  pub forth : Bool
  pub accepted : (stop_of forth sheet).refusal ≡ 0
  pub is : bytes ≡ converted_of forth sheet

-- what comes of bytes that were read, and is said: they are refused, and no file is written; or the file named `to` is put in place with the converted sheet, or can't be
pub data Settled (bytes to : List ℕ) (forth : Bool) (text : List ℕ) : Type 0 where
  refused : ((stop_of forth bytes).refusal ≡ 0 → ⊥) → text ≡ stop_line (stop_of forth bytes) (rows_in bytes) → Settled bytes to forth text
  unwritten : (stop_of forth bytes).refusal ≡ 0 → Save to (converted_of forth bytes) false → text ≡ cannot_write to → Settled bytes to forth text
  written : (stop_of forth bytes).refusal ≡ 0 → Save to (converted_of forth bytes) true → text ≡ rows_line (rows_in bytes) → Settled bytes to forth text

-- what comes of the file named `from`
pub data Turned (from to : List ℕ) (forth : Bool) (text : List ℕ) : Type 0 where
  unread : {bytes : List ℕ} → Load from bytes false → text ≡ cannot_read from → Turned from to forth text
  read : {bytes : List ℕ} → Load from bytes true → Settled bytes to forth text → Turned from to forth text

-- bytes were settled, and what is said of it was sent
pub record Answered (bytes to : List ℕ) (forth : Bool) (out end : Output) : Type 0 where
  pub text : List ℕ
  pub settled : Settled bytes to forth text
  pub wrote : Wrote out text end

-- the two files were named, and this came of it
pub record Done (output : ℤ) (from to : List ℕ) (forth : Bool) (last : Output) : Type 0 where
  pub text : List ℕ
  pub turned : Turned from to forth text
  pub wrote : Wrote (output_of output) text last

-- a whole run: with two words after the program's name they are the files'; with another number of them it says how it is called, and does nothing else
pub data Ran (output : ℤ) (call : List ℕ) (forth : Bool) : Type 0 where
  called_wrong : (n : ℕ) (last : Output) → Counts n → (n ≡ 3 → ⊥) → Wrote (output_of output) (usage_line call) last → Ran output call forth
  called : (from to : List ℕ) → Counts 3 → Called (words 1 from) → Called (words 2 to) → (last : Output) → Done output from to forth last → Ran output call forth
