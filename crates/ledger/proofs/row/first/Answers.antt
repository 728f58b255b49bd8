-- The fifth word is the first answer.
use Rattle.std.proofs.Common.{ap, arith, ◌∙◌}
use Rattle.laws.specs.Arithmetic.{float}
use Rattle.ledger.specs.Sheet.{first_in}
use Rattle.ledger.specs.laws.Fields.{pattern_there}
use Rattle.ledger.proofs.row.first.Goals as goal

pub returns : goal.returns
unfolding first_in
returns c = c.from_pattern.ensures ∙ ap float (c.pattern_at.ensures ∙ pattern_there c.args.row.now 32 (omega (arith, c.told-row)))
