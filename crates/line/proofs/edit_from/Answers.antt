-- Each number that is none ends it as the definition's `given` does; the three conversions are the definition's tests.
use Rattle.std.proofs.Common.{arith}
use Rattle.line.specs.Line.{given, edit_from}
use Rattle.line.proofs.Fitting.{fitted, unfitted}
use Rattle.line.proofs.edit_from.Goals as goal

pub returns-in_err-row : goal.returns-in_err-row
unfolding edit_from given
returns-in_err-row c = simp (c.from_residual.ensures, c.in_err-row.was)

pub returns-in_err-function : goal.returns-in_err-function
unfolding edit_from given
returns-in_err-function c = simp (c.from_residual-in_err-function.ensures, c.in_err-function.was, c.in_ok-row.was)

pub returns-in_err-a : goal.returns-in_err-a
unfolding edit_from given
returns-in_err-a c = simp (c.from_residual-in_err-a.ensures, c.in_err-a.was, c.in_ok-row.was, c.in_ok-function.was)

pub returns-in_err-b : goal.returns-in_err-b
unfolding edit_from given
returns-in_err-b c = simp (c.from_residual-in_err-b.ensures, c.in_err-b.was, c.in_ok-row.was, c.in_ok-function.was, c.in_ok-a.was)

pub returns-in_err-c : goal.returns-in_err-c
unfolding edit_from given
returns-in_err-c c = simp (c.from_residual-in_err-c.ensures, c.in_err-c.was, c.in_ok-row.was, c.in_ok-function.was, c.in_ok-a.was, c.in_ok-b.was)

pub returns-in_err-times : goal.returns-in_err-times
unfolding edit_from given
returns-in_err-times c = simp (c.from_residual-in_err-times.ensures, c.in_err-times.was, c.in_ok-row.was, c.in_ok-function.was, c.in_ok-a.was, c.in_ok-b.was, c.in_ok-c.was)

pub returns-in_err-ok : goal.returns-in_err-ok
unfolding edit_from given
returns-in_err-ok c =
    let row = unfitted c.try_from.result c.in_ok-row.row _ 4294967296 c.try_from.ensures c.in_err-ok.ensures.value (λ h. omega arith) in
    simp (c.from_residual-in_err-ok.ensures, c.in_ok-row.was, c.in_ok-function.was, c.in_ok-a.was, c.in_ok-b.was, c.in_ok-c.was, c.in_ok-times.was, row)

pub returns-in_err-ok-2 : goal.returns-in_err-ok-2
unfolding edit_from given
returns-in_err-ok-2 c =
    let row = fitted c.try_from.result c.in_ok-row.row _ 4294967296 _ c.try_from.ensures c.in_ok-ok.ensures.value (λ h. omega arith) in
    let function = unfitted c.try_from-2.result c.in_ok-function.function _ 256 c.try_from-2.ensures c.in_err-ok-2.ensures.value (λ h. omega arith) in
    simp (c.from_residual-in_err-ok-2.ensures, c.in_ok-row.was, c.in_ok-function.was, c.in_ok-a.was, c.in_ok-b.was, c.in_ok-c.was, c.in_ok-times.was, row.1, function)

pub returns-in_err-ok-3 : goal.returns-in_err-ok-3
unfolding edit_from given
returns-in_err-ok-3 c =
    let row = fitted c.try_from.result c.in_ok-row.row _ 4294967296 _ c.try_from.ensures c.in_ok-ok.ensures.value (λ h. omega arith) in
    let function = fitted c.try_from-2.result c.in_ok-function.function _ 256 _ c.try_from-2.ensures c.in_ok-ok-2.ensures.value (λ h. omega arith) in
    let times = unfitted c.try_from-3.result c.in_ok-times.times _ 65536 c.try_from-3.ensures c.in_err-ok-3.ensures.value (λ h. omega arith) in
    simp (c.from_residual-in_err-ok-3.ensures, c.in_ok-row.was, c.in_ok-function.was, c.in_ok-a.was, c.in_ok-b.was, c.in_ok-c.was, c.in_ok-times.was, row.1, function.1, times)

pub returns : goal.returns
unfolding edit_from given
returns c =
    let row = fitted c.try_from.result c.in_ok-row.row _ 4294967296 _ c.try_from.ensures c.in_ok-ok.ensures.value (λ h. omega arith) in
    let function = fitted c.try_from-2.result c.in_ok-function.function _ 256 _ c.try_from-2.ensures c.in_ok-ok-2.ensures.value (λ h. omega arith) in
    let times = fitted c.try_from-3.result c.in_ok-times.times _ 65536 _ c.try_from-3.ensures c.in_ok-ok-3.ensures.value (λ h. omega arith) in
    simp (c.in_ok-row.was, c.in_ok-function.was, c.in_ok-a.was, c.in_ok-b.was, c.in_ok-c.was, c.in_ok-times.was, row.1, function.1, times.1, row.0, function.0, times.0)
