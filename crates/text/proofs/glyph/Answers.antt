-- The test of the code is the test of the definition.
use borrow.Author.Tests.{lt-ltb, le-ltb}
use Rattle.text.specs.Text.{glyph_of}
use Rattle.text.proofs.glyph.Goals as goal

pub returns-then-d-lt10 : goal.returns-then-d-lt10
unfolding glyph_of
returns-then-d-lt10 c = simp (lt-ltb _ _ c.if-d-lt10.true)

pub returns : goal.returns
unfolding glyph_of
returns c = simp (le-ltb _ _ c.if-d-lt10.false)
