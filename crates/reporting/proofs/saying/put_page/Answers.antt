-- The page was put at the start of the buffer, and that was sent.
use Rattle.loading.specs.laws.Sent.{sent_front}
use Rattle.reporting.proofs.saying.put_page.Goals as goal

pub returns : goal.returns
returns c = sent_front c.put_report-end.ensures.put c.put.ensures
