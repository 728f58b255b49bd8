-- The test of the code is the test of the definition; a bad line stays so, else the line held ends.
use Rattle.std.proofs.Common.{refl, ◌∙◌}
use Rattle.laws.specs.Ladder.{held, passed}
use Rattle.runner.specs.Machine.{finish_of}
use Rattle.runner.specs.laws.Steps.{step_idle, step_end}
use Rattle.runner.proofs.engine.finish.Goals as goal

pub returns-then-st : goal.returns-then-st
unfolding finish_of
returns-then-st c = held _ _ c.if-st.true refl

pub returns-then-st-2 : goal.returns-then-st-2
unfolding finish_of
returns-then-st-2 c =
    let a = c.args in
    passed _ _ c.if-st.false (step_idle a.st a.line.now a.sheet.now 10 c.if-st-2.true)

pub returns : goal.returns
unfolding finish_of
returns c =
    let a = c.args in
    passed _ _ c.if-st.false
    (c.end_line.ensures ∙ step_end a.st a.line.now a.sheet.now 10 c.if-st-2.false refl)
