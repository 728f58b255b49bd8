-- The second byte of the first word.
use Rattle.hextext.specs.laws.Words.{refusal_words}
use Rattle.hextext.proofs.row.refusal_of.Goals as goal

pub returns : goal.returns
returns c = let g = c.well_formed.0 in refusal_words c.args.words g.1.0.1
