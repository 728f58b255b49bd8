-- The run byte by byte, in lent memory, from any state: what the code does. Definitions only.
use Rattle.std.specs.Prelude.{◌≡◌, ℕ, ◌+◌, ◌%◌, ◌^◌, ◌≤◌, Bool, true, false, not, ◌&&◌, Option, Some, None, List, [], ◌∷◌, ◌++◌, length, take, drop, ◌==◌, nat_eq, nat_lt, slice_set}
use Rattle.laws.specs.Ladder.{when◌gives◌else◌}
use Rattle.line.specs.declared.Edit.{Edit}
use Rattle.line.specs.Line.{decimal_of, line_of}
use Rattle.ledger.specs.Sheet.{size_for, most_rows}
use Rattle.ledger.specs.Calls.{blank_refusal, blank_of}
use Rattle.sheet.specs.Edit.{edit_refusal, edit_of}
use Rattle.page.specs.Page.{largest}
use Rattle.ending.specs.declared.outcome.State.{State}
use Rattle.ending.specs.Outcome.{Outcome, Start, Sheet, Bad, ended_of}
use Rattle.runner.specs.Run.{zeros, entry_of}

-- ---- what a run holds

-- the longest line that is no bad one for its length alone (line::LONGEST)
abbrev pub longest : ℕ
longest = 83

-- the state and the sheet's memory
pub record Held : Type 0 where
  pub st : State
  pub sheet : List ℕ

abbrev pub held : State → List ℕ → Held
held st sheet = record { st = st; sheet = sheet }

-- the same with the line's buffer
pub record Room : Type 0 where
  pub st : State
  pub line : List ℕ
  pub sheet : List ℕ

abbrev pub room : State → List ℕ → List ℕ → Room
room st line sheet = record { st = st; line = line; sheet = sheet }

-- between two lines: k lines were taken, there is a sheet of n bytes, and the last line was bad or not
abbrev pub between : ℕ → ℕ → Bool → State
between k n bad = record { lines = k; held = 0; size = n; begun = true; bad = bad }

-- ---- a line

-- a call on the first n bytes of the memory
unfoldable pub on_part : ℕ → (List ℕ → List ℕ) → List ℕ → List ℕ
on_part n f m = f (take n m) ++ drop n m

-- the row count, as line k
unfoldable pub count_line : ℕ → List ℕ → Option ℕ → Held
count_line k m None = held (between k 0 true) m
count_line k m (Some r) =
    when nat_lt most_rows r gives held (between k 0 true) m else
    held (between k (size_for r) (not (blank_refusal (take (size_for r) m) r == 0))) (on_part (size_for r) (λ s. blank_of s r) m)

-- an edit, as line k
unfoldable pub edit_line : ℕ → ℕ → List ℕ → Option Edit → Held
edit_line k n m None = held (between k n true) m
edit_line k n m (Some e) =
    held (between k n (not (edit_refusal (take n m) e.row e.function == 0))) (on_part n (λ s. edit_of s e.row (entry_of e)) m)

-- the number of the line that is being read; a run of fewer than 2 ^ 64 bytes never wraps it
abbrev pub line_number : State → ℕ
line_number st = (st.lines + 1) % 2 ^ 64

unfoldable pub take_line : State → List ℕ → List ℕ → Held
take_line st s m =
    when st.begun gives edit_line (line_number st) st.size m (line_of s) else
    count_line (line_number st) m (decimal_of s)

-- ---- a byte

-- a line end: the line held is taken; one that is longer than its buffer is bad
unfoldable pub end_of : Room → Room
end_of w =
    let after = take_line w.st (take w.st.held w.line) w.sheet in
    when nat_lt longest w.st.held gives room (between (line_number w.st) w.st.size true) w.line w.sheet else
    room after.st w.line after.sheet

-- one more byte of the line is held
abbrev pub longer_of : State → State
longer_of st = record { lines = st.lines; held = st.held + 1; size = st.size; begun = st.begun; bad = false }

-- another byte joins the line held; of a long line only its first 83 bytes are kept
unfoldable pub join_of : Room → ℕ → Room
join_of w b =
    when nat_lt longest w.st.held gives w else
    room (longer_of w.st) (slice_set w.line w.st.held b) w.sheet

-- nothing is read after a bad line
unfoldable pub step_of : Room → ℕ → Room
step_of w b =
    when w.st.bad gives w else
    when nat_eq b 10 gives end_of w else
    join_of w b

-- ---- the calls

-- no sheet yet: line 1 is the row count
abbrev pub start_of : State
start_of = record { lines = 0; held = 0; size = 0; begun = false; bad = false }

-- a sheet of n bytes is there: line 1 is an edit
abbrev pub fixing_of : ℕ → State
fixing_of n = between 0 n false

-- a part of the input
unfoldable pub feed_of : Room → List ℕ → Room
feed_of w [] = w
feed_of w (b ∷ bs) = feed_of (step_of w b) bs

-- parts one after the other, as they are read
unfoldable pub feed_all : Room → List (List ℕ) → Room
feed_all w [] = w
feed_all w (p ∷ ps) = feed_all (feed_of w p) ps

-- the end of the input ends its last line, unless a line end did; where there is no sheet yet, no line at all is an empty line 1
unfoldable pub finish_of : Room → Room
finish_of w =
    when nat_eq w.st.held 0 && w.st.begun gives w else
    step_of w 10

-- what a run has come to when its input ends
unfoldable pub outcome_of : Room → Outcome
outcome_of w = ended_of (finish_of w).st (finish_of w).sheet

-- ---- where a run begins

-- the sheet s stands at the front of the memory
pub record Stored (s : List ℕ) (st : State) (m : List ℕ) : Type 0 where
  pub size : st.size ≡ length s
  pub whole : length m ≡ largest
  pub fits : length s ≤ largest
  pub bytes : take (length s) m ≡ s

-- a run from o begins in w: with no sheet the memory is zeros, else the sheet stands in it; what the line's buffer holds does not matter
abbrev pub Begins : Outcome → Room → Type 0
Begins Start w = (length w.line ≡ longest) × (w.st ≡ start_of) × (w.sheet ≡ zeros largest)
Begins (Sheet s) w = (length w.line ≡ longest) × (w.st ≡ fixing_of (length s)) × Stored s w.st w.sheet
Begins (Bad k) w = ⊥
