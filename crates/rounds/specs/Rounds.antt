-- What legrounds prints (02, [3]): for each row its number, its function, and the rounds that working out its answer makes. Definitions only.
use Rattle.std.specs.Prelude.{ℕ, zero, suc, ◌+◌, ◌*◌, List, [], ◌++◌, length, take, drop, eqb}
use Rattle.laws.specs.Ladder.{when◌gives◌else◌}
use Rattle.sheet.specs.Functions.{counted_of}
use Rattle.ledger.specs.Bytes.{number}
use Rattle.ledger.specs.Sheet.{Row, function_in}
use Rattle.ledger.specs.Calls.{read_of}
use Rattle.text.specs.Text.{three, end}
use Rattle.page.specs.Page.{shown_of}

-- argument k of a row, as its bit pattern
unfoldable pub argument_in : Row → ℕ → ℕ
argument_in w k = number (take 8 (drop (8 + 8 * k) w))

-- the rounds that working out the row in these 48 bytes makes: those of its function at its three arguments; none for a blank row and for functions without recipes
unfoldable pub rounds_in : Row → ℕ
rounds_in w = (counted_of (function_in w) (argument_in w 0) (argument_in w 1) (argument_in w 2)).rounds

-- the line of row i; one that cannot be read has none
unfoldable pub rounds_line : List ℕ → ℕ → List ℕ
rounds_line s i =
    when eqb (length (read_of s i)) 48 gives three i (function_in (read_of s i)) (rounds_in (read_of s i)) ++ end else
    []

-- the first n rows
unfoldable pub rounds_lines : List ℕ → ℕ → List ℕ
rounds_lines s zero = []
rounds_lines s (suc n) = rounds_lines s n ++ rounds_line s n

-- the page: all rows, nothing else; nothing for more bytes than the largest sheet has
unfoldable pub rounds_page : List ℕ → List ℕ
rounds_page s = rounds_lines s (shown_of s)
