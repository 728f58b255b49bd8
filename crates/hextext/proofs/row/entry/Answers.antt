-- Each field in its place.
use mathlib.Core.Path.{refl}
use native.Mathlib.Omega.{arith}
use Rattle.hexline.specs.laws.Small.{function_small, times_small}
use Rattle.hextext.proofs.row.entry.Goals as goal

pub overflow_cast-result : goal.overflow_cast-result
overflow_cast-result c = omega (arith, c.value.ensures, function_small c.args.line.now)

pub overflow_cast-result-2 : goal.overflow_cast-result-2
overflow_cast-result-2 c = omega (arith, c.value-5.ensures, times_small c.args.line.now)

pub returns : goal.returns
returns c = rw (← c.value.ensures, ← c.value-2.ensures, ← c.value-3.ensures, ← c.value-4.ensures, ← c.value-5.ensures) refl
