-- RF(x, y, z) by duplication (01, module 5; DLMF 19.36(i); Carlson 1995), operation by operation. Definitions only.
use Rattle.std.specs.Prelude.{ℕ, Bool, Float}
use Rattle.std.specs.Float.Ieee.{neg}
use Rattle.laws.specs.Arithmetic.{◌⊕◌, ◌⊖◌, ◌⊗◌, ◌⊘◌, ◌<·◌, 1·0, 3·0, 4·0, 10·0, 14·0, 24·0, 44·0, 512·0}
use Rattle.root.specs.Root.{root_of}
use Rattle.whole.specs.Whole.{magnitude_of}
use Rattle.carlson.specs.Loop.{duplicated}
use Rattle.carlson.specs.Series.{larger_of}
use Rattle.carlson.specs.declared.Outcome.{Outcome}
use Rattle.rf.specs.declared.Roots.{Roots}
use Rattle.rf.specs.declared.State.{State}

-- the mean A, and the largest distance between A and an argument
unfoldable pub start_of : Float → Float → Float → State
start_of x y z =
    let mean = (x ⊕ y ⊕ z) ⊘ 3·0 in
    record { x = x; y = y; z = z; mean = mean; distance = larger_of (larger_of (magnitude_of (mean ⊖ x)) (magnitude_of (mean ⊖ y))) (magnitude_of (mean ⊖ z)) }

-- the distance, quartered once a round, is below A / 512
unfoldable pub stops_of : State → Bool
stops_of s = s.distance <· s.mean ⊘ 512·0

-- L = √x√y + √y√z + √z√x, by which a round of RF, RD or RJ moves its arguments
abbrev pub spread_of : Float → Float → Float → Float
spread_of x y z = root_of x ⊗ root_of y ⊕ root_of y ⊗ root_of z ⊕ root_of z ⊗ root_of x

-- all that such a round takes of x, y and z
unfoldable pub roots_of : Float → Float → Float → Roots
roots_of x y z = record { x = root_of x; y = root_of y; z = root_of z; spread = spread_of x y z }

-- each becomes (itself + L) / 4 (DLMF 19.26.18, 19.26.19)
unfoldable pub next_of : State → Float → State
next_of s l = record { x = (s.x ⊕ l) ⊘ 4·0; y = (s.y ⊕ l) ⊘ 4·0; z = (s.z ⊕ l) ⊘ 4·0; mean = (s.mean ⊕ l) ⊘ 4·0; distance = s.distance ⊘ 4·0 }

unfoldable pub round_of : State → State
round_of s = next_of s (spread_of s.x s.y s.z)

-- the closing series, of fifth order (DLMF 19.36.1)
unfoldable pub series_of : State → Float
series_of s =
    let x = (s.mean ⊖ s.x) ⊘ s.mean in
    let y = (s.mean ⊖ s.y) ⊘ s.mean in
    let z = neg (x ⊕ y) in
    let e2 = x ⊗ y ⊖ z ⊗ z in
    let e3 = x ⊗ y ⊗ z in
    1·0 ⊖ e2 ⊘ 10·0 ⊕ e3 ⊘ 14·0 ⊕ e2 ⊗ e2 ⊘ 24·0 ⊖ 3·0 ⊗ e2 ⊗ e3 ⊘ 44·0

unfoldable pub closed_of : State → ℕ → Outcome
closed_of s rounds = record { value = series_of s ⊘ root_of s.mean; met = stops_of s; rounds = rounds; inside = 0 }

unfoldable pub rf_of : Float → Float → Float → Outcome
rf_of x y z = duplicated stops_of round_of closed_of (start_of x y z)
