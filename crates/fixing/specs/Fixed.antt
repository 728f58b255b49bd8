-- A run on a file that is there. Definitions only.
use Rattle.std.specs.Prelude.{◌≡◌, ℕ, true, false, List, [], ℤ}
use Rattle.ledger.specs.Calls.{is_sheet}
use Rattle.page.specs.Page.{page_of}
use Rattle.ending.specs.Outcome.{Sheet}
use Rattle.files.specs.declared.sending.Output.{Output}
use Rattle.loading.specs.Load.{Load}
use Rattle.files.specs.Output.{output_of, Wrote}
use Rattle.loading.specs.Notes.{cannot_read, refused7}
use Rattle.runner.specs.Done.{Done}

-- the file can't be read; it is no sheet; or a whole run from its sheet
pub data Fixed (input : ℤ) (output : ℤ) (name : List ℕ) : Type 0 where
  unread : (last : Output) → Load name [] false → Wrote (output_of output) (cannot_read name) last → Fixed input output name
  unfit : (bytes : List ℕ) (last : Output) → Load name bytes true → is_sheet bytes ≡ false → Wrote (output_of output) refused7 last → Fixed input output name
  fixed : (bytes : List ℕ) → Load name bytes true → is_sheet bytes ≡ true → Done input output page_of true name (Sheet bytes) → Fixed input output name
