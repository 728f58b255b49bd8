-- Each way through the code is one of the definition.
use Rattle.std.proofs.Common.{◌∙◌}
use Rattle.runner.specs.laws.Steps.{step_idle, step_end, step_over, step_more, step_full}
use Rattle.runner.proofs.engine.step.Goals as goal

pub returns-then-st : goal.returns-then-st
returns-then-st c =
    let a = c.args in
    step_idle a.st a.line.now a.sheet.now a.b c.if-st.true

pub returns-then-b-eq10 : goal.returns-then-b-eq10
returns-then-b-eq10 c =
    let a = c.args in
    c.end_line.ensures
    ∙ step_end a.st a.line.now a.sheet.now a.b c.if-st.false c.if-b-eq10.true

pub returns-then-at-gt-LONGEST : goal.returns-then-at-gt-LONGEST
returns-then-at-gt-LONGEST c =
    let a = c.args in
    step_over a.st a.line.now a.sheet.now a.b c.if-st.false c.if-b-eq10.false c.if-at-gt-LONGEST.true

pub returns-then-at-eq-LONGEST : goal.returns-then-at-eq-LONGEST
returns-then-at-eq-LONGEST c =
    let a = c.args in
    rw c.longer.ensures (step_full a.st a.line.now a.sheet.now a.b c.if-st.false c.if-b-eq10.false c.if-at-eq-LONGEST.true c.requires.0)

pub returns : goal.returns
returns c =
    let a = c.args in
    rw c.longer-2.ensures (step_more a.st a.line.now a.sheet.now a.b c.if-st.false c.if-b-eq10.false c.if-at-gt-LONGEST.false)
