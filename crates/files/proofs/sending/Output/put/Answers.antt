-- One more piece, or nothing more after a failure.
use Rattle.files.specs.Output.{lost}
use Rattle.files.specs.laws.Outputs.{wrote_piece}
use Rattle.files.proofs.sending.Output.put.Goals as goal

pub returns-then-self : goal.returns-then-self
returns-then-self c = wrote_piece c.send.result c.if-self.true c.send.ensures

pub returns-else-self : goal.returns-else-self
returns-else-self c = lost c.if-self.false
