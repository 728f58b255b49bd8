-- RF's number of rounds is the written stop test's, whatever the arguments. Assumes nothing.
use Rattle.std.specs.Prelude.{refl, Float}
use Rattle.carlson.specs.laws.Counts.{Counts, counts}
use Rattle.rf.specs.Rf.{start_of, stops_of, round_of, closed_of, rf_of}

pub rf_counts : (x y z : Float) → Counts stops_of round_of (start_of x y z) (rf_of x y z).rounds
unfolding rf_of closed_of
rf_counts x y z = counts stops_of round_of closed_of (λ s k. refl) (start_of x y z)
