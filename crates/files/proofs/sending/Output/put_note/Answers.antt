-- Three pieces.
use Rattle.files.specs.laws.Outputs.{wrote_both}
use Rattle.files.proofs.sending.Output.put_note.Goals as goal

pub returns : goal.returns
returns c = wrote_both c.put.ensures (wrote_both c.put-2.ensures c.put-3.ensures)
