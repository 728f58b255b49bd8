-- Its three pieces.
use Rattle.files.specs.laws.Outputs.{wrote_both}
use Rattle.loading.specs.laws.Sent.{sent_front}
use Rattle.reporting.specs.Reporting.{Line}
use Rattle.reporting.proofs.saying.put_file.Goals as goal

pub returns : goal.returns
returns c = record {
  text = _;
  is = Line.line _ c.word-name.ensures.called;
  wrote = wrote_both (sent_front c.put_head-end.ensures.put c.put.ensures) (wrote_both c.put-2.ensures c.put-3.ensures);
}
