-- One return for each side of the test.
use Rattle.ellipeinc.specs.Ellipeinc.{sign_of}
use Rattle.ellipeinc.proofs.Signed.of.Goals as goal

pub returns-then-phi : goal.returns-then-phi
unfolding sign_of
returns-then-phi c = simp (c.if-phi.true, c.magnitude-size.ensures)

pub returns : goal.returns
unfolding sign_of
returns c = simp (c.if-phi.false, c.magnitude-size.ensures)
