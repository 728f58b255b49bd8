-- Where there is a sheet the line is an edit, else the row count.
use Rattle.std.proofs.Common.{◌∙◌}
use Rattle.runner.specs.Machine.{take_line}
use Rattle.runner.proofs.lines.take_line.Goals as goal

pub returns-then-st : goal.returns-then-st
unfolding take_line
returns-then-st c =
    c.edit_line.ensures ∙ simp c.if-st.true

pub returns : goal.returns
unfolding take_line
returns c =
    c.count_line.ensures ∙ simp c.if-st.false
