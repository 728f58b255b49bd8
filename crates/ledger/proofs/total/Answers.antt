-- The exact total, rounded once.
use mathlib.Core.Path.{ap, ◌∙◌}
use Rattle.total.specs.Total.{val, round_total}
use Rattle.ledger.proofs.Answered.{total_exact}
use Rattle.ledger.proofs.total.Goals as goal

pub returns : goal.returns
returns c =
    c.rounded.ensures ∙ ap round_total (ap val c.of.ensures ∙ c.exact_total.ensures) ∙ total_exact c.args.sheet.now
