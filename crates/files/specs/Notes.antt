-- What a program says instead of its answer, of a file or of the words of its call. Definitions only.
use Rattle.std.specs.Prelude.{ℕ, List, ◌++◌}
use Rattle.laws.specs.Ascii.{ascii}

-- the file can't be written
abbrev pub cannot_write : List ℕ → List ℕ
cannot_write name = ascii "cannot write " ++ (name ++ ascii "\n")

-- the program and the words that it takes
abbrev pub usage_line : List ℕ → List ℕ
usage_line call = ascii "usage: " ++ (call ++ ascii "\n")
