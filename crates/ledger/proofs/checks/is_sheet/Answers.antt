-- The one first word, else the other.
use Rattle.std.proofs.Common.{sym, ◌∙◌}
use Rattle.ledger.specs.laws.Refusals.{sheet_with_times}
use Rattle.ledger.proofs.Tested.{not_the_first}
use Rattle.ledger.proofs.checks.is_sheet.Goals as goal

pub returns-then-says : goal.returns-then-says
returns-then-says c = c.if-says.true ∙ sym (sheet_with_times c.args.s.now (sym c.says.ensures ∙ c.if-says.true))

pub returns-else-says : goal.returns-else-says
returns-else-says c = c.says-else-says.ensures ∙ not_the_first c.args.s.now (sym c.says.ensures ∙ c.if-says.false)
