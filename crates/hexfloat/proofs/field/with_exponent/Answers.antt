-- Minus, plus or no sign, and the digits of the exponent.
use mathlib.Core.Path.{sym, ap, ◌∙◌}
use native.Mathlib.Omega.{arith}
use Rattle.hexfloat.specs.Reading.{power_of}
use Rattle.hexfloat.specs.laws.Sizes.{power_lt}
use Rattle.hexfloat.proofs.Exponents.{pattern_up, pattern_down, minus_none, minus_some, plus_none, plus_some}
use Rattle.hexfloat.proofs.field.with_exponent.Goals as goal

pub returns-in_err-k : goal.returns-in_err-k
returns-in_err-k c = λ n H small.
    let a = c.args in
    let minus = c.in-Some.ensures.cases in
    c.from_residual.ensures ∙ minus_none a.negative n a.behind a.s.now minus.0 (c.in_err-k.ensures ∙ ap power_of minus.1)

pub overflow_add-down : goal.overflow_add-down
overflow_add-down c = let k = power_lt _ _ (sym c.in_ok-k.ensures) in let b = c.requires.0 in omega arith

pub scaled-requires : goal.scaled-requires
scaled-requires c = let k = power_lt _ _ (sym c.in_ok-k.ensures) in let b = c.requires in (omega arith, omega (arith, b.0), b.1)

pub returns-in-Some : goal.returns-in-Some
returns-in-Some c = λ n H small.
    let a = c.args in
    let minus = c.in-Some.ensures.cases in
    minus_some a.negative n a.behind a.s.now minus.0 _ c.to_pattern.result (c.in_ok-k.ensures ∙ ap power_of minus.1)
    (pattern_down a.negative n a.h H small _ _ c.to_pattern.ensures _ c.scaled.ensures)

pub returns-in_err-k-2 : goal.returns-in_err-k-2
returns-in_err-k-2 c = λ n H small.
    let a = c.args in
    c.from_residual-in_err-k-2.ensures ∙ plus_none a.negative n a.behind a.s.now c.in_default.ensures.cases (c.in_err-k-2.ensures ∙ ap power_of c.past_plus.ensures)

pub scaled-requires-2 : goal.scaled-requires-2
scaled-requires-2 c = let k = power_lt _ _ (sym c.in_ok-k-2.ensures) in let b = c.requires in (omega arith, omega (arith, b.0), b.1)

pub returns : goal.returns
returns c = λ n H small.
    let a = c.args in
    plus_some a.negative n a.behind a.s.now c.in_default.ensures.cases _ c.to_pattern-2.result (c.in_ok-k-2.ensures ∙ ap power_of c.past_plus.ensures)
    (pattern_up a.negative n a.h H small _ _ c.to_pattern-2.ensures _ _ c.scaled-2.ensures)
