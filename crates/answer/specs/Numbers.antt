-- The numbers that a row may hold (01, "Refusal numbers" and "The leg sheet", and 02): which function it is, and which refusal. Definitions only.
use Rattle.std.specs.Prelude.{ℕ, Bool, leb}
use Rattle.answer.specs.declared.Refusal.{Refusal}
use Rattle.answer.specs.declared.Refusal.TheVariants.{NotANumber, AboveOne, Beyond, CharacteristicOne, Unmet, NotFinite, NotASheet, NoSuchRow, NoSuchFunction, Damaged, TooManyRows, OutOfRange, Unequal, DrivenOften, Malformed, Withdrawn}

-- the last function's number: above it is refusal 9
abbrev pub last : ℕ
last = 6

-- a refusal's number
abbrev pub number : Refusal → ℕ
number NotANumber = 1
number AboveOne = 2
number Beyond = 3
number CharacteristicOne = 4
number Unmet = 5
number NotFinite = 6
number NotASheet = 7
number NoSuchRow = 8
number NoSuchFunction = 9
number Damaged = 10
number TooManyRows = 11
number OutOfRange = 12
number Unequal = 13
number DrivenOften = 17
number Malformed = 18
number Withdrawn = 22

-- the refusal numbers that a row may store: 0, which is none, and 1 to 6
unfoldable pub stored : ℕ → Bool
stored q = leb q 6
