-- What was put at the start of the buffer is what is sent.
use Rattle.loading.specs.laws.Sent.{sent_front}
use Rattle.writing.proofs.send_count.Goals as goal

pub returns : goal.returns
returns c = sent_front c.put_count-n.ensures.put c.put.ensures
