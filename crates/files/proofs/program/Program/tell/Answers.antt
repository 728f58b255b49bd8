-- Two pieces.
use Rattle.files.specs.laws.Outputs.{wrote_both}
use Rattle.files.proofs.program.Program.tell.Goals as goal

pub returns : goal.returns
returns c = wrote_both (rw c.begin.ensures at c.put.ensures) c.put-2.ensures
