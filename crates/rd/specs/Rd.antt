-- RD(x, y, z) by duplication (01, module 5; DLMF 19.36(i); Carlson 1995), operation by operation. Definitions only.
use Rattle.std.specs.Prelude.{ℕ, Bool, Float}
use Rattle.std.specs.Float.Ieee.{neg}
use Rattle.laws.specs.Arithmetic.{◌⊕◌, ◌⊖◌, ◌⊗◌, ◌⊘◌, ◌<·◌, +0, 1·0, 3·0, 4·0, 5·0, 6·0, 8·0, 1024·0}
use Rattle.root.specs.Root.{root_of}
use Rattle.whole.specs.Whole.{magnitude_of}
use Rattle.carlson.specs.Loop.{duplicated}
use Rattle.carlson.specs.Series.{fifth_of, larger_of}
use Rattle.rf.specs.Rf.{roots_of}
use Rattle.carlson.specs.declared.Outcome.{Outcome}
use Rattle.rf.specs.declared.Roots.{Roots}
use Rattle.rd.specs.declared.State.{State}

-- the mean A, in which z counts three times, and the largest distance between A and an argument
unfoldable pub start_of : Float → Float → Float → State
start_of x y z =
    let mean = (x ⊕ y ⊕ 3·0 ⊗ z) ⊘ 5·0 in
    record { x = x; y = y; z = z; mean = mean; distance = larger_of (larger_of (magnitude_of (mean ⊖ x)) (magnitude_of (mean ⊖ y))) (magnitude_of (mean ⊖ z)); scale = 1·0; sum = +0 }

-- the distance, quartered once a round, is below A / 1024
unfoldable pub stops_of : State → Bool
stops_of s = s.distance <· s.mean ⊘ 1024·0

-- each becomes (itself + L) / 4, and 4^-k / (√z (z + L)) is added (DLMF 19.26.20)
unfoldable pub next_of : State → Roots → State
next_of s w =
    let l = w.spread in
    record { x = (s.x ⊕ l) ⊘ 4·0; y = (s.y ⊕ l) ⊘ 4·0; z = (s.z ⊕ l) ⊘ 4·0; mean = (s.mean ⊕ l) ⊘ 4·0; distance = s.distance ⊘ 4·0; scale = s.scale ⊘ 4·0; sum = s.sum ⊕ s.scale ⊘ (w.z ⊗ (s.z ⊕ l)) }

unfoldable pub round_of : State → State
round_of s = next_of s (roots_of s.x s.y s.z)

-- the closing series, of fifth order (DLMF 19.36.2 with p = z)
unfoldable pub series_of : State → Float
series_of s =
    let x = (s.mean ⊖ s.x) ⊘ s.mean in
    let y = (s.mean ⊖ s.y) ⊘ s.mean in
    let z = neg (x ⊕ y) ⊘ 3·0 in
    let xy = x ⊗ y in
    let zz = z ⊗ z in
    fifth_of (xy ⊖ 6·0 ⊗ zz) ((3·0 ⊗ xy ⊖ 8·0 ⊗ zz) ⊗ z) (3·0 ⊗ (xy ⊖ zz) ⊗ zz) (xy ⊗ zz ⊗ z)

unfoldable pub closed_of : State → ℕ → Outcome
closed_of s rounds = record { value = s.scale ⊗ series_of s ⊘ (s.mean ⊗ root_of s.mean) ⊕ 3·0 ⊗ s.sum; met = stops_of s; rounds = rounds; inside = 0 }

unfoldable pub rd_of : Float → Float → Float → Outcome
rd_of x y z = duplicated stops_of round_of closed_of (start_of x y z)
