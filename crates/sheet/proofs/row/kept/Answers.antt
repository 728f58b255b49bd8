-- Argument by argument.
use Rattle.sheet.specs.Edit.{kept_of}
use Rattle.sheet.proofs.row.kept.Goals as goal

pub returns : goal.returns
unfolding kept_of
returns c = λ i. record { function = c.args.entry.function; a = c.argument.ensures i; b = c.argument-2.ensures i; c = c.argument-3.ensures i; times = c.args.entry.times }
