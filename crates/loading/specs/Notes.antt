-- What is said where a file brings no sheet, and a number. Definitions only.
use Rattle.std.specs.Prelude.{ℕ, List, ◌++◌}
use Rattle.laws.specs.Ascii.{ascii}
use Rattle.text.specs.Text.{decimal, end}

-- the file can't be opened or read; the name stands last, as it was given
abbrev pub cannot_read : List ℕ → List ℕ
cannot_read name = ascii "cannot read " ++ (name ++ ascii "\n")

-- no sheet
abbrev pub refused7 : List ℕ
refused7 = ascii "refused 7\n"

-- words, a number and the line's end
unfoldable pub number_line : List ℕ → ℕ → List ℕ
number_line said n = said ++ (decimal n ++ end)
