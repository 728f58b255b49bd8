-- RD's number of rounds is the written stop test's, whatever the arguments. Assumes nothing.
use Rattle.std.specs.Prelude.{refl, Float}
use Rattle.carlson.specs.laws.Counts.{Counts, counts}
use Rattle.rd.specs.Rd.{start_of, stops_of, round_of, closed_of, rd_of}

pub rd_counts : (x y z : Float) → Counts stops_of round_of (start_of x y z) (rd_of x y z).rounds
unfolding rd_of closed_of
rd_counts x y z = counts stops_of round_of closed_of (λ s k. refl) (start_of x y z)
