-- The test of the code is the definition's.
use mathlib.Core.Path.{refl}
use borrow.Author.Tests.{eq-eqb, ne_eqb}
use Rattle.hexfloat.specs.Spelled.{lead_of}
use Rattle.hexfloat.proofs.writing.lead.Goals as goal

pub returns-then-field-eq0 : goal.returns-then-field-eq0
unfolding lead_of
returns-then-field-eq0 c = rw (eq-eqb _ _ c.if-field-eq0.true) refl

pub returns-else-field-eq0 : goal.returns-else-field-eq0
unfolding lead_of
returns-else-field-eq0 c = rw (ne_eqb _ _ c.if-field-eq0.false) refl
