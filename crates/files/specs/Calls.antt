-- The calls of the system that a program makes, and what each answered. Definitions only.
use Rattle.std.specs.Prelude.{ℕ, ◌-◌, ◌^◌, ◌<◌, Bool, true, false, List, Option, Some, None, ℤ, pos}
use Rattle.std.specs.Fd.{file_raw_fd}
use Rattle.std.specs.declared.fs.File.{File}
use Rattle.files.specs.declared.reading.Source.{Source}
use Rattle.files.specs.declared.reading.Source.TheVariants.{Standard, Opened}

-- the descriptor of standard input, or of a file that was opened
abbrev pub number_of : Source → ℤ
number_of Standard = pos 0
number_of (Opened file) = file_raw_fd file.now

-- the descriptor of a file that was opened or made, and none where that failed
abbrev pub number_if : Option File → Option ℤ
number_if None = None
number_if (Some file) = Some (file_raw_fd file)

-- what a read answered, none where it failed, and what its buffer then held
pub record Read : Type 0 where
  pub got : Option ℕ
  pub buffer : List ℕ

abbrev pub read : Option ℕ → List ℕ → Read
read got buffer = record { got = got; buffer = buffer }

-- a call and its answer
pub data Call : Type 0 where
  -- std::fs::File::open opened a name for reading: the descriptor, none where it failed
  opens : List ℕ → Option ℤ → Call
  -- std::io::Read::read on a descriptor; a program numbers the reads of each
  reads : ℤ → ℕ → Read → Call
  -- std::fs::OpenOptions made a new file under a name (create_new): the descriptor, none where it failed
  makes : List ℕ → Option ℤ → Call
  -- std::io::Write::write_all put these bytes into a new file: whether it took them all
  fills : ℤ → List ℕ → Bool → Call
  -- std::fs::File::sync_all, once the file had these bytes
  syncs : ℤ → List ℕ → Bool → Call
  -- the file was dropped, which closes it; of that std says nothing
  closes : ℤ → Call
  -- std::fs::rename from one name to another
  renames : List ℕ → List ℕ → Bool → Call
  -- std::fs::remove_file
  removes : List ℕ → Bool → Call
  -- Print::write_all sent this text to an output, 1 or 2, or io::write_all to another; a program numbers what it sends to each
  sends : ℤ → ℕ → List ℕ → Bool → Call
  -- std::rt::Env::arg, asked whether there is a word of this number in the program's call
  has : ℕ → Bool → Call
  -- std::rt::Env::arg: one of them, by its number
  words : ℕ → List ℕ → Call

-- that the call was made and answered so. Which bytes a call brings or takes no contract can say, so this tells a proof nothing. But it is shut: `called` alone
-- shows it, and the proofs of the functions where the calls stand alone cite `called`, each for its own call. So nothing else passes for a call's answer
pub Called : Call → Type 0
Called c = Unit {0}

pub called : (c : Call) → Called c
unfolding Called
called c = tt

-- how many words the program's call has: it was asked for each of them, and for the one after them, which is not there
pub record Counts (n : ℕ) : Type 0 where
  pub there : (k : ℕ) → k < n → Called (has k true)
  pub end : n < 2 ^ 64 - 1 → Called (has n false)
