-- Hex text read into a sheet file (02, [10]): what is said, and what is then in the file. Definitions only.
use Rattle.std.specs.Prelude.{◌≡◌, ℕ, true, false, ◌&&◌, Option, Some, None, List, ◌++◌, ltb, leb, eqb, ℤ, length, replicate}
use Rattle.laws.specs.Ascii.{ascii}
use Rattle.laws.specs.Ladder.{when◌gives◌else◌}
use Rattle.line.specs.Line.{line_ends}
use Rattle.text.specs.Text.{decimal, end}
use Rattle.ledger.specs.Sheet.{most_rows, size_for}
use Rattle.ledger.specs.Calls.{rows_in}
use Rattle.hexline.specs.Parts.{part_at}
use Rattle.hextext.specs.HexText.{Halted, halt_at, Came, count_of, text_into}
use Rattle.files.specs.Calls.{Called, words, Counts}
use Rattle.files.specs.Save.{Save}
use Rattle.files.specs.Notes.{cannot_write, usage_line}
use Rattle.files.specs.declared.sending.Output.{Output}
use Rattle.files.specs.Output.{output_of, Wrote}
use Rattle.loading.specs.Load.{Brought}
use Rattle.loading.specs.Notes.{number_line}

-- ---- a text

-- the buffer: one byte more than any text that reads has, four digits of a count, 1,024 lines of 283 bytes, and their line ends
abbrev pub most_text : ℕ
most_text = 290822

-- the bytes of the sheet that the count asks for; none where there is no such sheet
unfoldable pub lent_for : Option ℕ → ℕ
lent_for None = 0
lent_for (Some r) =
    when ltb most_rows r gives 0 else
    size_for r

-- the text, read into zeros
unfoldable pub taken_of : List ℕ → Came
taken_of t = text_into t (replicate (lent_for (count_of (part_at 10 t 0))) 0)

-- where it halts; a text that fills the buffer is not taken, whatever it says
unfoldable pub end_of : List ℕ → Halted
end_of t =
    when eqb (taken_of t).end.refusal 0 && leb most_text (length t) gives halt_at 18 1 1 else
    (taken_of t).end

-- ---- what is said

unfoldable pub halt_line : Halted → List ℕ
halt_line h =
    when eqb h.refusal 18 gives ascii "refused 18 line " ++ decimal h.line ++ ascii " column " ++ decimal h.column ++ end else
    when eqb h.refusal 22 gives number_line (ascii "refused 22 line ") h.line else
    number_line (ascii "refused ") h.refusal

-- ---- what comes of it

-- bytes that may be written: every line of some text was taken, and came to them
pub record Readable (bytes : List ℕ) : Type 0 where
  pub text : List ℕ
  pub taken : (end_of text).refusal ≡ 0
  pub is : bytes ≡ (taken_of text).sheet

-- of the text t: it is refused, and no file is written; or the file is put in place with the sheet, or can't be
pub data Settled (t name text : List ℕ) : Type 0 where
  refused : ((end_of t).refusal ≡ 0 → ⊥) → text ≡ halt_line (end_of t) → Settled t name text
  unwritten : (end_of t).refusal ≡ 0 → Save name (taken_of t).sheet false → text ≡ cannot_write name → Settled t name text
  written : (end_of t).refusal ≡ 0 → Save name (taken_of t).sheet true → text ≡ number_line (ascii "rows ") (rows_in (taken_of t).sheet) → Settled t name text

-- a text was settled, and what is said of it was sent
pub record Answered (t name : List ℕ) (out last : Output) : Type 0 where
  pub text : List ℕ
  pub settled : Settled t name text
  pub wrote : Wrote out text last

-- of the input: it is read whole, as far as the buffer goes, before anything is tested
pub data Done (input : ℤ) (output : ℤ) (name : List ℕ) (last : Output) : Type 0 where
  failed : {t : List ℕ} → Brought most_text input t false → Wrote (output_of output) (number_line (ascii "input failed after line ") (line_ends t)) last → Done input output name last
  read : {t : List ℕ} → Brought most_text input t true → Answered t name (output_of output) last → Done input output name last

-- a whole run: with one word after the program's name it is the file's; with another number of them it says how it is called, and does nothing else
pub data Ran (input : ℤ) (output : ℤ) (call : List ℕ) : Type 0 where
  called_wrong : (n : ℕ) (last : Output) → Counts n → (n ≡ 2 → ⊥) → Wrote (output_of output) (usage_line call) last → Ran input output call
  called : (name : List ℕ) → Counts 2 → Called (words 1 name) → (last : Output) → Done input output name last → Ran input output call
