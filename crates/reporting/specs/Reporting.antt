-- The month's report of the files that are named (02, [2]): what comes of each, the report, and what is said. Definitions only.
use Rattle.std.specs.Prelude.{◌≡◌, ℕ, ◌+◌, ◌≤◌, ◌<◌, Bool, cond, List, [], ◌∷◌, ◌++◌, Result, Ok, Err, ⊤, ℤ}
use Rattle.std.specs.Result.{is_ok}
use Rattle.laws.specs.Ascii.{ascii}
use Rattle.laws.specs.Ladder.{when◌gives◌else◌}
use Rattle.text.specs.Text.{end}
use Rattle.month.specs.declared.parts.Report.{Report}
use Rattle.month.specs.declared.parts.Stop.{Stop}
use Rattle.month.specs.declared.parts.Stop.TheVariants.{NotASheet, Damaged}
use Rattle.month.specs.Month.{stop_of, start_of, added_of}
use Rattle.month.specs.Files.{most_files}
use Rattle.monthly.specs.Monthly.{report_text, stop_text, unread_text}
use Rattle.files.specs.Calls.{Called, words, Counts}
use Rattle.loading.specs.Load.{Load}
use Rattle.files.specs.Notes.{usage_line}
use Rattle.files.specs.declared.sending.Output.{Output}
use Rattle.files.specs.Output.{output_of, Wrote}
use Rattle.reporting.specs.declared.parts.Apart.{Apart}
use Rattle.reporting.specs.declared.parts.Apart.TheVariants.{Unread, Stopped}

-- ---- what comes of a file

-- what a stop makes of it
abbrev pub stopped_by : Result ⊤ Stop → Result ⊤ Apart
stopped_by (Ok x) = Ok x
stopped_by (Err s) = Err (Stopped s)

-- it is taken; or not, and why
abbrev pub Fate : Type 0
Fate = Result ⊤ Apart

-- it can't be read; or it was, and this stops it, or nothing does
unfoldable pub fate_of : Bool → List ℕ → Fate
fate_of read bytes =
    when read gives stopped_by (stop_of bytes) else
    Err Unread

-- the report after file n: one that can't be read adds nothing, and neither does one that is not taken (month's added_of)
unfoldable pub after_file : Report → ℕ → Bool → List ℕ → Report
after_file r n read bytes = when read gives added_of r n bytes else r

-- how many are not taken
unfoldable pub apart_of : List Fate → ℕ
apart_of [] = 0
apart_of (f ∷ fs) = cond (is_ok f) 0 1 + apart_of fs

-- file n, which is word n of the call: its name is asked for, its bytes are read, and from one report comes the next
pub record Met (n : ℕ) (r new : Report) (f : Fate) : Type 0 where
  pub name : List ℕ
  pub bytes : List ℕ
  pub read : Bool
  pub named : Called (words n name)
  pub loaded : Load name bytes read
  pub fate : f ≡ fate_of read bytes
  pub report : new ≡ after_file r n read bytes

-- the first n files, one after the other: the report, and what came of each
pub data Took : ℕ → Report → List Fate → Type 0 where
  none : Took 0 start_of []
  more : {n : ℕ} {r new : Report} {fs : List Fate} {f : Fate} → Took n r fs → Met (n + 1) r new f → Took (n + 1) new (fs ++ (f ∷ []))

-- ---- the lines of the files that are not taken

-- its refusal, or that it can't be read
unfoldable pub head_of : Apart → List ℕ
head_of Unread = unread_text
head_of (Stopped NotASheet) = stop_text 7 0
head_of (Stopped (Damaged i)) = stop_text 10 i

-- then its name, as it was given
abbrev pub file_line : Apart → List ℕ → List ℕ
file_line a name = head_of a ++ (name ++ end)

-- of file n, whose name is asked for again; no line where it is taken
pub data Line (n : ℕ) : Fate → List ℕ → Type 0 where
  no_line : Line n (Ok tt) []
  line : {a : Apart} (name : List ℕ) → Called (words n name) → Line n (Err a) (file_line a name)

-- of the first n files
pub data Lines : ℕ → List Fate → List ℕ → Type 0 where
  none : Lines 0 [] []
  more : {n : ℕ} {fs : List Fate} {f : Fate} {text last : List ℕ} → Lines n fs text → Line (n + 1) f last → Lines (n + 1) (fs ++ (f ∷ [])) (text ++ last)

-- they were sent
pub record Told (n : ℕ) (a : Apart) (out last : Output) : Type 0 where
  pub text : List ℕ
  pub is : Line n (Err a) text
  pub wrote : Wrote out text last

pub record ToldAll (n : ℕ) (fs : List Fate) (out last : Output) : Type 0 where
  pub text : List ℕ
  pub are : Lines n fs text
  pub wrote : Wrote out text last

-- ---- the run

-- n files, one after the other; then the report of all of them and the lines of those not taken are sent
pub record Reported (out : Output) (n : ℕ) (last : Output) : Type 0 where
  pub report : Report
  pub fates : List Fate
  pub text : List ℕ
  pub took : Took n report fates
  pub lines : Lines n fates text
  pub wrote : Wrote out (report_text (apart_of fates) report ++ text) last

abbrev pub too_many_line : List ℕ
too_many_line = ascii "too many files\n"

-- a whole run: each word after the program's name is a file's; without one it says how it is called, with more than a month's it says so, and does nothing else
pub data Ran (output : ℤ) (call : List ℕ) : Type 0 where
  called_wrong : (n : ℕ) (last : Output) → Counts n → n < 2 → Wrote (output_of output) (usage_line call) last → Ran output call
  too_many : (n : ℕ) (last : Output) → Counts (n + 1) → most_files < n → Wrote (output_of output) too_many_line last → Ran output call
  called : (n : ℕ) (last : Output) → Counts (n + 1) → 0 < n → n ≤ most_files → Reported (output_of output) n last → Ran output call
