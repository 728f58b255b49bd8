-- RJ(x, y, z, p) by duplication (01, module 5; DLMF 19.36(i); Carlson 1995), operation by operation. Definitions only.
use Rattle.std.specs.Prelude.{ℕ, ◌+◌, Bool, true, ◌&&◌, Float}
use Rattle.std.specs.Float.Ieee.{neg}
use Rattle.laws.specs.Arithmetic.{◌⊕◌, ◌⊖◌, ◌⊗◌, ◌⊘◌, ◌<·◌, +0, 1·0, 2·0, 3·0, 4·0, 5·0, 6·0, 1024·0}
use Rattle.root.specs.Root.{root_of}
use Rattle.whole.specs.Whole.{magnitude_of}
use Rattle.carlson.specs.Loop.{duplicated}
use Rattle.carlson.specs.Series.{fifth_of, larger_of, trusted_of}
use Rattle.rf.specs.Rf.{roots_of}
use Rattle.rc.specs.Rc.{rc_of}
use Rattle.carlson.specs.declared.Outcome.{Outcome}
use Rattle.rf.specs.declared.Roots.{Roots}
use Rattle.rj.specs.declared.State.{State}

-- the mean A, in which p counts twice, and the largest distance between A and an argument
unfoldable pub start_of : Float → Float → Float → Float → State
start_of x y z p =
    let mean = (x ⊕ y ⊕ z ⊕ 2·0 ⊗ p) ⊘ 5·0 in
    record { x = x; y = y; z = z; p = p; mean = mean; distance = larger_of (larger_of (magnitude_of (mean ⊖ x)) (magnitude_of (mean ⊖ y))) (larger_of (magnitude_of (mean ⊖ z)) (magnitude_of (mean ⊖ p))); scale = 1·0; sum = +0; inner = true; inside = 0 }

-- the distance, quartered once a round, is below A / 1024
unfoldable pub stops_of : State → Bool
stops_of s = s.distance <· s.mean ⊘ 1024·0

-- each becomes (itself + L) / 4, and 4^-k / d times RC(1, 2√p (p + L) / d) is added (DLMF 19.26.22 and 19.26.23: β is √p (p + L), d is α + β; Carlson 1995: 2β / d is 1 + e)
unfoldable pub next_of : State → Roots → State
next_of s w =
    let l = w.spread in
    let rp = root_of s.p in
    let d = (rp ⊕ w.x) ⊗ (rp ⊕ w.y) ⊗ (rp ⊕ w.z) in
    let c = rc_of 1·0 (2·0 ⊗ rp ⊗ (s.p ⊕ l) ⊘ d) in
    record { x = (s.x ⊕ l) ⊘ 4·0; y = (s.y ⊕ l) ⊘ 4·0; z = (s.z ⊕ l) ⊘ 4·0; p = (s.p ⊕ l) ⊘ 4·0; mean = (s.mean ⊕ l) ⊘ 4·0; distance = s.distance ⊘ 4·0; scale = s.scale ⊘ 4·0; sum = s.sum ⊕ s.scale ⊘ d ⊗ c.value; inner = s.inner && c.met; inside = s.inside + c.rounds }

unfoldable pub round_of : State → State
round_of s = next_of s (roots_of s.x s.y s.z)

-- the closing series, of fifth order (DLMF 19.36.2)
unfoldable pub series_of : State → Float
series_of s =
    let x = (s.mean ⊖ s.x) ⊘ s.mean in
    let y = (s.mean ⊖ s.y) ⊘ s.mean in
    let z = (s.mean ⊖ s.z) ⊘ s.mean in
    let p = neg (x ⊕ y ⊕ z) ⊘ 2·0 in
    let xyz = x ⊗ y ⊗ z in
    let pp = p ⊗ p in
    let e2 = x ⊗ y ⊕ x ⊗ z ⊕ y ⊗ z ⊖ 3·0 ⊗ pp in
    let e3 = xyz ⊕ 2·0 ⊗ e2 ⊗ p ⊕ 4·0 ⊗ pp ⊗ p in
    let e4 = (2·0 ⊗ xyz ⊕ e2 ⊗ p ⊕ 3·0 ⊗ pp ⊗ p) ⊗ p in
    fifth_of e2 e3 e4 (xyz ⊗ pp)

unfoldable pub closed_of : State → ℕ → Outcome
closed_of s rounds = record { value = trusted_of (s.scale ⊗ series_of s ⊘ (s.mean ⊗ root_of s.mean) ⊕ 6·0 ⊗ s.sum); met = stops_of s && s.inner; rounds = rounds; inside = s.inside }

unfoldable pub rj_of : Float → Float → Float → Float → Outcome
rj_of x y z p = duplicated stops_of round_of closed_of (start_of x y z p)
