-- Another number of words, or the file.
use Rattle.std.proofs.Common.{subst}
use Rattle.files.specs.Calls.{Counts}
use Rattle.reading.specs.Taken.{called_wrong, called}
use Rattle.reading.proofs.run.Goals as goal

pub returns-then-word_count-ne2 : goal.returns-then-word_count-ne2
returns-then-word_count-ne2 c =
    let n = c.word_count in
    called_wrong n.result c.usage.result n.ensures c.if-word_count-ne2.true c.usage.ensures

pub returns : goal.returns
returns c = called _ (subst Counts c.if-word_count-ne2.false c.word_count.ensures) c.word-name.ensures.called c.read_input-end.result c.read_input-end.ensures
