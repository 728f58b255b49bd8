-- Another number of words, or the two files.
use Rattle.std.proofs.Common.{subst}
use Rattle.files.specs.Calls.{Counts}
use Rattle.comparing.specs.Comparing.{called_wrong, called}
use Rattle.comparing.proofs.run.Goals as goal

pub returns-then-word_count-ne3 : goal.returns-then-word_count-ne3
returns-then-word_count-ne3 c =
    let n = c.word_count in
    called_wrong n.result c.usage.result n.ensures c.if-word_count-ne3.true c.usage.ensures

pub returns : goal.returns
returns c = called _ _ (subst Counts c.if-word_count-ne3.false c.word_count.ensures) c.word-old.ensures.called c.word-new.ensures.called c.compare_files-end.result c.compare_files-end.ensures
