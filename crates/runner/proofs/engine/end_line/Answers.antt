-- A line that is too long, or the call for it.
use Rattle.std.proofs.Common.{refl}
use Rattle.runner.specs.laws.Steps.{end-long, end-taken}
use Rattle.runner.proofs.engine.end_line.Goals as goal

pub returns-then-at-gt-LONGEST : goal.returns-then-at-gt-LONGEST
returns-then-at-gt-LONGEST c =
    let a = c.args in
    rw c.between.ensures (end-long a.st a.line.now a.sheet.now _ c.if-at-gt-LONGEST.true refl)

pub returns : goal.returns
returns c =
    let a = c.args in
    end-taken a.st a.line.now a.sheet.now _ _ c.if-at-gt-LONGEST.false c.take_line.ensures
