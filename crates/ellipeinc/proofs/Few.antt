-- RF and RD of the same arguments make few rounds, so that they can be added.
use mathlib.Core.Path.{◌≡◌}
use Prim.Native.Nat.{◌≤◌}
use lib.Ieee.{Float}
use Rattle.carlson.specs.declared.Outcome.{Outcome}
use Rattle.carlson.specs.laws.Counts.{few}
use Rattle.rf.specs.Rf.{rf_of}
use Rattle.rf.specs.laws.Counts.{rf_counts}
use Rattle.rd.specs.Rd.{rd_of}
use Rattle.rd.specs.laws.Counts.{rd_counts}

pub both_few : (x y z : Float) {f d : Outcome} → (f ≡ rf_of x y z) × (d ≡ rd_of x y z) → (f.rounds ≤ 64) × (d.rounds ≤ 64)
both_few x y z e = (few e.0 (rf_counts x y z), few e.1 (rd_counts x y z))
