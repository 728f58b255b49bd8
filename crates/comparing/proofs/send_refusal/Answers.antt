-- The words, the file's name, the line's end.
use Rattle.loading.specs.laws.Sent.{sent_front}
use Rattle.files.specs.laws.Outputs.{wrote_both}
use Rattle.differing.specs.Differing.{refused_text}
use Rattle.comparing.proofs.send_refusal.Goals as goal

pub returns : goal.returns
unfolding refused_text
returns c = wrote_both (wrote_both (sent_front (rw (c.number.ensures, c.row.ensures) at c.put_stop-n.ensures.put) c.put.ensures) (rw c.name_in.ensures at c.put-2.ensures)) c.put-3.ensures
