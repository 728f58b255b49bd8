-- What was put in the buffer is sent.
use Rattle.loading.specs.laws.Sent.{sent_front}
use Rattle.reading.proofs.saying.put_18.Goals as goal

pub returns : goal.returns
returns c = sent_front c.put_place-n.ensures.put c.put.ensures
