-- RC's number of rounds is the written stop test's, whatever the arguments. Assumes nothing.
use Rattle.std.specs.Prelude.{refl, Float}
use Rattle.carlson.specs.laws.Counts.{Counts, counts}
use Rattle.rc.specs.Rc.{start_of, stops_of, round_of, closed_of, rc_of}

pub rc_counts : (x y : Float) → Counts stops_of round_of (start_of x y) (rc_of x y).rounds
unfolding rc_of closed_of
rc_counts x y = counts stops_of round_of closed_of (λ s k. refl) (start_of x y)
