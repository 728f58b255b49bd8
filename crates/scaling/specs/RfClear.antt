-- Where a run of RF loses no digits to the ends of the range: what each operation must keep, in the order of Rf.antt. Definitions only.
use Rattle.std.specs.Prelude.{T, Float}
use Rattle.std.specs.Float.Ieee.Scale.{finite}
use Rattle.laws.specs.Arithmetic.{◌⊕◌, 3·0, 512·0}
use Rattle.scaling.specs.Clear.{ClearSum, ClearQuotient}
use Rattle.root.specs.Root.{root_of}
use Rattle.scaling.specs.ClearRuns.{ClearRoot, ClearQuarters, ClearDistances, ClearOffsets, ClearRun}
use Rattle.rf.specs.declared.State.{State}
use Rattle.rf.specs.Rf.{start_of, stops_of, round_of, series_of}

abbrev pub ClearTest : State → Type 0
ClearTest s = ClearQuotient s.mean 512·0

pub record ClearStart (x y z : Float) : Type 0 where
  pub finite_x : T (finite x)
  pub finite_y : T (finite y)
  pub finite_z : T (finite z)
  pub two : ClearSum x y
  pub three : ClearSum (x ⊕ y) z
  pub mean : ClearQuotient (x ⊕ y ⊕ z) 3·0
  pub distances : ClearDistances (start_of x y z).mean x y z
  pub test : ClearTest (start_of x y z)

-- a round, and the stop test after it
pub record ClearRound (s : State) : Type 0 where
  pub quarters : ClearQuarters s.x s.y s.z s.mean s.distance
  pub test : ClearTest (round_of s)

-- the series is the same number for both, so nothing is asked inside it
pub record ClearClosing (s : State) : Type 0 where
  pub offsets : ClearOffsets s.mean s.x s.y
  pub series : T (finite (series_of s))
  pub root : ClearRoot s.mean
  pub value : ClearQuotient (series_of s) (root_of s.mean)
  pub test : ClearTest s

pub record ClearRf (x y z : Float) : Type 0 where
  pub start : ClearStart x y z
  pub run : ClearRun stops_of round_of ClearRound ClearClosing 64 (stops_of (start_of x y z)) (start_of x y z)
