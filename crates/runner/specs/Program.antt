-- What the program writes, from the bytes that its reads brought. Definitions only.
use Rattle.std.specs.Prelude.{ℕ, Bool, true, false, not, ◌&&◌, List, length, nat_lt}
use Rattle.laws.specs.Ladder.{when◌gives◌else◌}
use Rattle.line.specs.Line.{line_ends}
use Rattle.page.specs.Page.{failed_line}
use Rattle.ending.specs.Outcome.{Outcome, Start, Sheet, Bad, printed}
use Rattle.runner.specs.Run.{lines_of, ran_of}

-- where a read failed, `input failed after line k` and nothing of the sheet; else what the input comes to, from o on (Run)
unfoldable pub written_of : (List ℕ → List ℕ) → Outcome → Bool → List ℕ → List ℕ
written_of page o failed input =
    when failed gives failed_line (line_ends input) else
    printed page (ran_of o input)

-- a sheet, and no bad line
abbrev pub sheet_in : Outcome → Bool
sheet_in Start = false
sheet_in (Sheet s) = true
sheet_in (Bad k) = false

-- whether a sheet is saved: where there is a file, no read failed, no line was bad, and there is one
unfoldable pub saved_of : Bool → Outcome → Bool → List ℕ → Bool
saved_of filed o failed input = filed && (not failed && (sheet_in (ran_of o input) && nat_lt 0 (length (lines_of input))))
