-- `step` meets its contract (`Steps`).
use Prim.Native.Nat.{◌+◌, ◌≤◌}
use native.Mathlib.Nat.{mul-le-mul}
use native.Mathlib.Omega.{arith}
use mir.Facts.{Fits-le, Fits-lit}
use Rattle.angle.proofs.Steps.{room, turn, fits}
use Rattle.angle.proofs.series.step.Goals as goal

pub overflow_mul-g : goal.overflow_mul-g
overflow_mul-g c =
    let x : c.args.n + 1 ≤ 41 = omega arith in
    let y : c.args.n + 2 ≤ 42 = omega arith in
    Fits-le (mul-le-mul x y) (Fits-lit tt)

pub scaled-requires : goal.scaled-requires
scaled-requires c = (room c.args.n c.args.t c.args.b c.requires.0 c.requires.1 c.requires.2).1

pub overflow_add-result : goal.overflow_add-result
overflow_add-result c =
    Fits-le (fits c.args.n c.args.t c.args.b c.requires.0 c.requires.1 c.requires.2 c.scaled.result c.scaled.ensures) (Fits-lit tt)

pub scaled-requires-2 : goal.scaled-requires-2
scaled-requires-2 c = (room c.args.n c.args.t c.args.b c.requires.0 c.requires.1 c.requires.2).0

pub returns : goal.returns
returns c =
    turn c.args.n c.args.t c.args.b c.requires.0 c.requires.1 c.requires.2 c.scaled.result c.scaled-2.result c.scaled.ensures c.scaled-2.ensures
