-- `next_to` meets its contract: the sum of a quotient of at most 1/4, on one side or the other (`Reaching`).
use mathlib.Core.Path.{◌≡◌, refl}
use Prim.Native.Nat.{◌+◌, ◌-◌, ◌*◌, ◌/◌, ◌^◌, ◌<◌}
use Rattle.arctangent.proofs.Reaching.{quotient_whole, fraction_le, rooms, is_down, is_up}
use Rattle.arctangent.proofs.sums.next_to.Goals as goal
use Rattle.arctangent.proofs.sums.next_to.Goals.{After-quotient, After-quotient-2, After-sum-s, After-sum-s-2}

below : (c : After-quotient) → let a = c.args in c.quotient.result ≡ (a.b - a.a) * 2 ^ 64 / a.d
below c =
    let s = c.before.before in
    let a = s.args in
    quotient_whole (a.b - a.a) a.d s.requires.1 s.requires.2 s.requires.3 c.quotient.result c.quotient.ensures

pub sum-s-requires : goal.sum-s-requires
sum-s-requires c =
    let a = c.args in
    fraction_le (a.b - a.a) a.d c.requires.1 c.requires.2 c.quotient.result (below (goal.at.sum-s-requires c).After-quotient)

down : (c : After-sum-s)
    → let a = c.args in
    (a.c.added + c.sum-s.result.taken < 2 ^ 64) × (a.c.taken + c.sum-s.result.added < 2 ^ 64)
down c =
    let q = c.before in
    let s = q.before.before in
    let a = s.args in
    let r = rooms (a.b - a.a) a.d s.requires.1 s.requires.2 q.quotient.result (below q) c.sum-s.result c.sum-s.ensures in
    ((r a.c.added s.requires.4).1, (r a.c.taken s.requires.5).0)

pub overflow_add-result : goal.overflow_add-result
overflow_add-result c = record { fits = (down (goal.at.overflow_add-result c).After-sum-s).0 }

pub overflow_add-result-then-a-b : goal.overflow_add-result-then-a-b
overflow_add-result-then-a-b c = record { fits = (down (goal.at.overflow_add-result-then-a-b c).After-sum-s).1 }

pub returns-then-a-b : goal.returns-then-a-b
returns-then-a-b c =
    let a = c.args in
    is_down (a.b - a.a) a.d c.requires.1 c.requires.2 c.quotient.result (below (goal.at.returns-then-a-b c).After-quotient) c.sum-s.result c.sum-s.ensures a.c a.a a.b c.if-a-b.true refl

above : (c : After-quotient-2) → let a = c.args in c.quotient-2.result ≡ (a.a - a.b) * 2 ^ 64 / a.d
above c =
    let s = c.before.before in
    let a = s.args in
    quotient_whole (a.a - a.b) a.d s.requires.0 s.requires.2 s.requires.3 c.quotient-2.result c.quotient-2.ensures

pub sum-s-requires-2 : goal.sum-s-requires-2
sum-s-requires-2 c =
    let a = c.args in
    fraction_le (a.a - a.b) a.d c.requires.0 c.requires.2 c.quotient-2.result (above (goal.at.sum-s-requires-2 c).After-quotient-2)

up : (c : After-sum-s-2)
    → let a = c.args in
    (a.c.added + c.sum-s-2.result.added < 2 ^ 64) × (a.c.taken + c.sum-s-2.result.taken < 2 ^ 64)
up c =
    let q = c.before in
    let s = q.before.before in
    let a = s.args in
    let r = rooms (a.a - a.b) a.d s.requires.0 s.requires.2 q.quotient-2.result (above q) c.sum-s-2.result c.sum-s-2.ensures in
    ((r a.c.added s.requires.4).0, (r a.c.taken s.requires.5).1)

pub overflow_add-result-2 : goal.overflow_add-result-2
overflow_add-result-2 c = record { fits = (up (goal.at.overflow_add-result-2 c).After-sum-s-2).0 }

pub overflow_add-result-3 : goal.overflow_add-result-3
overflow_add-result-3 c = record { fits = (up (goal.at.overflow_add-result-3 c).After-sum-s-2).1 }

pub returns : goal.returns
returns c =
    let a = c.args in
    is_up (a.a - a.b) a.d c.requires.0 c.requires.2 c.quotient-2.result (above (goal.at.returns c).After-quotient-2) c.sum-s-2.result c.sum-s-2.ensures a.c a.a a.b c.if-a-b.false refl
