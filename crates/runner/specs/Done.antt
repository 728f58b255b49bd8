-- A whole run: what was read, what was saved, what was written. Definitions only.
use Rattle.std.specs.Prelude.{◌≡◌, ℕ, Bool, true, false, not, ◌&&◌, List, [], take, ℤ, ◌==◌, Option, Some, None}
use Rattle.std.specs.Borrow.{Bor}
use Rattle.laws.specs.Ladder.{when◌gives◌else◌}
use Rattle.ledger.specs.Calls.{is_sheet}
use Rattle.ending.specs.declared.outcome.State.{State}
use Rattle.ending.specs.Outcome.{Outcome, Start, Sheet, ended_of}
use Rattle.runner.specs.Machine.{Room, room, finish_of, Begins}
use Rattle.files.specs.declared.sending.Output.{Output}
use Rattle.files.specs.Calls.{Read}
use Rattle.files.specs.Save.{Save}
use Rattle.files.specs.Output.{output_of, Wrote}
use Rattle.ending.specs.Ending.{done_text}
use Rattle.runner.specs.Reads.{Reads, most_reads}

-- ---- what was read

-- where a run begins that is given these bytes: with the sheet that they are, or with none
unfoldable pub begun_of : List ℕ → Outcome
begun_of from =
    when is_sheet from gives Sheet from else
    Start

-- the input's lines are all taken, unless a read failed
unfoldable pub all_taken : Bool → Room → Room
all_taken failed w =
    when failed gives w else
    finish_of w

-- the reads of the input that were made, from w on, come to the state st and the memory m; whether the last one failed
pub record Took (input : ℤ) (w : Room) (st : State) (m : List ℕ) (failed : Bool) : Type 0 where
  pub reads : List Read
  pub read : Room
  pub led : Reads input most_reads w reads read failed
  pub line : List ℕ
  pub end : room st line m ≡ all_taken failed read

-- so they do from where a run from o begins
pub record Ran (input : ℤ) (o : Outcome) (st : State) (m : List ℕ) (failed : Bool) : Type 0 where
  pub begin : Room
  pub begins : Begins o begin
  pub took : Took input begin st m failed

-- some run does
pub record SomeRun (st : State) (m : List ℕ) (failed : Bool) : Type 0 where
  pub input : ℤ
  pub from : Outcome
  pub ran : Ran input from st m failed

-- ---- what was saved

-- the name of the file that a run is given, and nothing where there is none
abbrev pub named : Option (Bor (List ℕ)) → List ℕ
named None = []
named (Some name) = name.now

-- there is a file, the input was read to its end, no line was bad, and there was one
unfoldable pub saves : Bool → Bool → State → Bool
saves filed failed st = filed && (not failed && (not st.bad && not (st.lines == 0)))

-- bytes that may be saved: some run was read to its end and came to them, by one line at least
pub record Savable (bytes : List ℕ) : Type 0 where
  pub st : State
  pub m : List ℕ
  pub run : SomeRun st m false
  pub comes : ended_of st m ≡ Sheet bytes
  pub some : st.lines ≡ 0 → ⊥

-- nothing is saved; or the sheet is, as far as the calls answer well
pub data Keep (filed : Bool) (name : List ℕ) (failed : Bool) (st : State) (m : List ℕ) : Bool → Type 0 where
  none : saves filed failed st ≡ false → Keep filed name failed st m true
  kept : {ok : Bool} → saves filed failed st ≡ true → Save name (take st.size m) ok → Keep filed name failed st m ok

-- ---- the whole

-- a whole run from o, by one page or the other, with a file of this name or without: what it read, what it kept, and the text that it wrote
pub record Done (input : ℤ) (output : ℤ) (page : List ℕ → List ℕ) (filed : Bool) (name : List ℕ) (o : Outcome) : Type 0 where
  pub st : State
  pub m : List ℕ
  pub failed : Bool
  pub ran : Ran input o st m failed
  pub ok : Bool
  pub keeps : Keep filed name failed st m ok
  pub last : Output
  pub wrote : Wrote (output_of output) (done_text page name ok failed st m) last
