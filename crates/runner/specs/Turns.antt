-- What a read came to, as the code has it. Definitions only.
use Rattle.std.specs.Prelude.{Bool, true, false}
use Rattle.ending.specs.declared.outcome.State.{State}
use Rattle.runner.specs.declared.reading.Turn.{Turn}
use Rattle.runner.specs.declared.reading.Turn.TheVariants.{More, End, Failed}

abbrev pub turned : Turn → State
turned (More st) = st
turned (End st) = st
turned (Failed st) = st

-- there may be more reads
abbrev pub goes_on_after : Turn → Bool
goes_on_after (More st) = true
goes_on_after (End st) = false
goes_on_after (Failed st) = false

-- it failed
abbrev pub failed_in : Turn → Bool
failed_in (More st) = false
failed_in (End st) = false
failed_in (Failed st) = true
