-- No file, too many, or the report of them.
use Rattle.std.proofs.Common.{◌≡◌, ◌+◌, ◌-◌, arith}
use Rattle.reporting.specs.Reporting.{Ran}
use Rattle.reporting.proofs.run.Goals as goal

pub returns-then-words-lt2 : goal.returns-then-words-lt2
returns-then-words-lt2 c =
    let n = c.word_count-words in
    Ran.called_wrong n.result c.usage.result n.ensures c.if-words-lt2.true c.usage.ensures

pub returns-then-files-gt-MOST_FILES : goal.returns-then-files-gt-MOST_FILES
returns-then-files-gt-MOST_FILES c =
    let n = c.word_count-words in
    let k : n.result ≡ n.result - 1 + 1 = omega arith in
    Ran.too_many (n.result - 1) c.put.result (rw k at n.ensures) c.if-files-gt-MOST_FILES.true (rw c.begin.ensures at c.put.ensures)

pub returns : goal.returns
returns c =
    let n = c.word_count-words in
    let k : n.result ≡ n.result - 1 + 1 = omega arith in
    Ran.called (n.result - 1) c.answer-end.result (rw k at n.ensures) (omega arith) (omega arith) c.answer-end.ensures
