-- The text that a run writes at its end, and what it says where that was cut off. Definitions only.
use Rattle.std.specs.Prelude.{ℕ, Bool, not, List, Result, Ok, Err}
use Rattle.std.specs.Borrow.{Bor}
use Rattle.laws.specs.Ascii.{ascii}
use Rattle.laws.specs.Ladder.{when◌gives◌else◌}
use Rattle.ending.specs.declared.outcome.State.{State}
use Rattle.ending.specs.Outcome.{text_of}
use Rattle.files.specs.Output.{Told as Told_words}
use Rattle.files.specs.Notes.{cannot_write}

-- where the sheet could not be saved, that alone
unfoldable pub done_text : (List ℕ → List ℕ) → List ℕ → Bool → Bool → State → List ℕ → List ℕ
done_text page name ok failed st m =
    when not ok gives cannot_write name else
    text_of page failed st m

-- where the file of this name could not be saved, that alone
abbrev pub kept_or : Result (Unit {0}) (Bor (List ℕ)) → List ℕ → List ℕ
kept_or (Ok x) text = text
kept_or (Err name) text = cannot_write name.now

-- standard error was told, after the program's name, that the output is cut off
abbrev pub Told : List ℕ → Type 0
Told program = Told_words program (ascii ": the output could not be written, and what is there is cut off; run it again\n")
