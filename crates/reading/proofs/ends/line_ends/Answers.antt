-- The line ends are counted.
use Rattle.std.proofs.Common.{◌≡◌, ◌==◌, ◌∙◌, rules}
use Rattle.std.specs.Prelude.{count_by}
use Rattle.std.proofs.iter.runs.Made.{chains}
use Rattle.reading.proofs.EndByEnd.{ends_counted}
use Rattle.reading.proofs.ends.line_ends.Goals as goal

pub returns : goal.returns
returns c =
    let all : c.count.result ≡ count_by (λ b. b == 10) c.args.s.now = search (rules, chains) in
    all ∙ ends_counted c.args.s.now
