-- A row count and edits as they are entered (01, "The program reads standard input"). Definitions only.
use Rattle.std.specs.Prelude.{ℕ, suc, ◌^◌, ◌<◌, List, [], ◌∷◌, ◌++◌}
use Rattle.laws.specs.Ladder.{when◌gives◌else◌}
use Rattle.demands.specs.Edits.{Edit, accepted}
use Rattle.text.specs.Text.{decimal, pattern, space}

-- an edit as it is written: six numbers, one space apart
unfoldable pub edit_text : ℕ → ℕ → ℕ → ℕ → ℕ → ℕ → List ℕ
edit_text row function a b c times =
    decimal row ++ (space ++ (decimal function ++ (space ++ (pattern a ++ (space ++ (pattern b ++ (space ++ (pattern c ++ (space ++ decimal times)))))))))

-- the line of an edit
abbrev pub text_of : Edit → List ℕ
text_of e = edit_text e.row e.entry.function e.entry.a e.entry.b e.entry.c e.entry.times

-- lines of edits, each with its line end
unfoldable pub edit_lines : List Edit → List ℕ
edit_lines [] = []
edit_lines (e ∷ es) = text_of e ++ (10 ∷ edit_lines es)

-- the row count, and the edits
unfoldable pub sheet_text : ℕ → List Edit → List ℕ
sheet_text r es = decimal r ++ (10 ∷ edit_lines es)

-- an edit's numbers fit their fields
pub record Fits (e : Edit) : Type 0 where
  pub row : e.row < 2 ^ 32
  pub function : e.entry.function < 2 ^ 8
  pub a : e.entry.a < 2 ^ 64
  pub b : e.entry.b < 2 ^ 64
  pub c : e.entry.c < 2 ^ 64
  pub times : e.entry.times < 2 ^ 16

abbrev pub AllFit : List Edit → Type 0
AllFit [] = Unit {0}
AllFit (e ∷ es) = Fits e × AllFit es

-- the number of the first line that is refused, the first edit's being k; 0 where there is none
unfoldable pub refused_line : ℕ → ℕ → List Edit → ℕ
refused_line r k [] = 0
refused_line r k (e ∷ es) =
    when accepted r e gives refused_line r (suc k) es else
    k
