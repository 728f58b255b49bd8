-- Blank for function 0; else the arguments that are kept.
use mathlib.Core.Path.{◌∙◌, ap}
use borrow.Author.Tests.{eq-eqb, ne_eqb}
use Rattle.ledger.specs.Bytes.{bytes, fields}
use Rattle.sheet.specs.Edit.{answered, row_of}
use Rattle.sheet.proofs.row.words.Goals as goal

pub returns-then-entry-eq0 : goal.returns-then-entry-eq0
unfolding row_of fields bytes
returns-then-entry-eq0 c = rw (eq-eqb _ _ c.if-entry-eq0.true)

pub returns : goal.returns
unfolding row_of
returns c = rw (ne_eqb _ _ c.if-entry-eq0.false) (c.worked.ensures ∙ ap answered c.kept.ensures)
