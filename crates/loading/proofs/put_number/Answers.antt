-- The words, then the digits that were put at the start of the buffer.
use Rattle.std.proofs.Common.{arith}
use Rattle.files.specs.laws.Outputs.{wrote_both}
use Rattle.loading.specs.Notes.{number_line}
use Rattle.loading.specs.laws.Sent.{sent_front}
use Rattle.loading.proofs.put_number.Goals as goal

pub returns : goal.returns
unfolding number_line
returns c = wrote_both c.put.ensures (sent_front (c.put_decimal-end.ensures.put (omega arith)) c.put-2.ensures)
