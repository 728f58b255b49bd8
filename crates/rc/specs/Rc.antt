-- RC(x, y) by duplication (01, module 5; DLMF 19.36(i); Carlson 1995), operation by operation. Definitions only.
use Rattle.std.specs.Prelude.{ℕ, Bool, Float}
use Rattle.laws.specs.Arithmetic.{◌⊕◌, ◌⊖◌, ◌⊗◌, ◌⊘◌, ◌<·◌, 1·0, 2·0, 3·0, 4·0, 7·0, 8·0, 9·0, 10·0, 22·0, 128·0, 159·0, 208·0}
use Rattle.root.specs.Root.{root_of}
use Rattle.whole.specs.Whole.{magnitude_of}
use Rattle.carlson.specs.Loop.{duplicated}
use Rattle.carlson.specs.Series.{larger_of}
use Rattle.carlson.specs.declared.Outcome.{Outcome}
use Rattle.rc.specs.declared.State.{State}

-- the mean A, and the larger distance between A and an argument
unfoldable pub start_of : Float → Float → State
start_of x y =
    let mean = (x ⊕ y ⊕ y) ⊘ 3·0 in
    record { x = x; y = y; mean = mean; distance = larger_of (magnitude_of (mean ⊖ x)) (magnitude_of (mean ⊖ y)) }

-- the distance, quartered once a round, is below A / 128
unfoldable pub stops_of : State → Bool
stops_of s = s.distance <· s.mean ⊘ 128·0

-- each becomes (itself + L) / 4 (DLMF 19.26.25)
unfoldable pub round_of : State → State
round_of s =
    let rx = root_of s.x in
    let ry = root_of s.y in
    let l = 2·0 ⊗ rx ⊗ ry ⊕ s.y in
    record { x = (s.x ⊕ l) ⊘ 4·0; y = (s.y ⊕ l) ⊘ 4·0; mean = (s.mean ⊕ l) ⊘ 4·0; distance = s.distance ⊘ 4·0 }

-- the closing series, of seventh order (Carlson 1995)
unfoldable pub series_of : State → Float
series_of r =
    let s = (r.y ⊖ r.mean) ⊘ r.mean in
    let high = 9·0 ⊘ 22·0 ⊕ s ⊗ (159·0 ⊘ 208·0 ⊕ s ⊗ (9·0 ⊘ 8·0)) in
    1·0 ⊕ s ⊗ s ⊗ (3·0 ⊘ 10·0 ⊕ s ⊗ (1·0 ⊘ 7·0 ⊕ s ⊗ (3·0 ⊘ 8·0 ⊕ s ⊗ high)))

unfoldable pub closed_of : State → ℕ → Outcome
closed_of s rounds = record { value = series_of s ⊘ root_of s.mean; met = stops_of s; rounds = rounds; inside = 0 }

unfoldable pub rc_of : Float → Float → Outcome
rc_of x y = duplicated stops_of round_of closed_of (start_of x y)
