-- What a run has come to, and the text that is printed of it (01, "The program reads standard input"). Definitions only.
use Rattle.std.specs.Prelude.{ℕ, Bool, List, take, Result, Ok, Err}
use Rattle.laws.specs.Ladder.{when◌gives◌else◌}
use Rattle.page.specs.Page.{bad_line, failed_line}
use Rattle.ending.specs.declared.outcome.State.{State}

-- what the lines so far have come to
pub data Outcome : Type 0 where
  Start : Outcome
  Sheet : List ℕ → Outcome
  Bad : ℕ → Outcome

-- what a run came to, or, on Err, had come to before a read that failed
abbrev pub state_of : Result State State → State
state_of (Ok st) = st
state_of (Err st) = st

-- what the lines that were taken have come to
unfoldable pub ended_of : State → List ℕ → Outcome
ended_of st m =
    when st.bad gives Bad st.lines else
    Sheet (take st.size m)

-- the output: the page, or the first bad line alone
unfoldable pub printed : (List ℕ → List ℕ) → Outcome → List ℕ
printed page Start = bad_line 1
printed page (Sheet s) = page s
printed page (Bad k) = bad_line k

-- the run's output, by one page or the other; where a read failed, that alone
unfoldable pub text_of : (List ℕ → List ℕ) → Bool → State → List ℕ → List ℕ
text_of page failed st m =
    when failed gives failed_line st.lines else
    printed page (ended_of st m)

-- the line that stands instead of a page: a read failed after line k, or line k was bad
unfoldable pub instead_of : Bool → ℕ → List ℕ
instead_of failed k =
    when failed gives failed_line k else
    bad_line k
