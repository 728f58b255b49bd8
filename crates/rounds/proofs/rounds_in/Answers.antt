-- The function and the arguments, from their places in the row.
use mathlib.Core.Path.{◌∙◌}
use native.Mathlib.Omega.{arith}
use Rattle.ledger.specs.Sheet.{function_in}
use Rattle.ledger.specs.laws.Fields.{pattern_there}
use Rattle.rounds.specs.Rounds.{argument_in, rounds_in}
use Rattle.rounds.proofs.rounds_in.Goals as goal

pub returns : goal.returns
unfolding rounds_in argument_in function_in
returns c =
    let w = c.args.row.now in
    rw (
      c.counted.ensures,
      c.pattern_at-a.ensures ∙ pattern_there w 8 (omega (arith, c.requires)),
      c.pattern_at-b.ensures ∙ pattern_there w 16 (omega (arith, c.requires)),
      c.pattern_at-c.ensures ∙ pattern_there w 24 (omega (arith, c.requires)),
    )
