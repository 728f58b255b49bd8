-- Six fields in turn; a longer line is malformed, and so is one with more fields.
use mathlib.Core.Path.{sym}
use Rattle.line.specs.laws.Long.{long-line}
use Rattle.line.proofs.Edits.{too_many, just_six}
use Rattle.line.proofs.read_edit.Goals as goal

pub returns-then-s-gt-LONGEST : goal.returns-then-s-gt-LONGEST
returns-then-s-gt-LONGEST c = sym (long-line _ c.if-s-gt-LONGEST.true)

pub returns-then-times-s : goal.returns-then-times-s
returns-then-times-s c =
    too_many c.args.s.now c.field-row.ensures c.field-function.ensures c.field-a.ensures c.field-b.ensures c.field-c.ensures c.field-times.ensures
    c.if-times-s.true

pub returns : goal.returns
returns c =
    just_six c.args.s.now c.field-row.ensures c.field-function.ensures c.field-a.ensures c.field-b.ensures c.field-c.ensures c.field-times.ensures
    c.if-times-s.false c.edit_from.ensures
