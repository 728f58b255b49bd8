-- std's method is the definition.
use Rattle.std.proofs.Common.{◌∙◌, arith}
use Rattle.answer.specs.laws.Floats.{infinite_kinds}
use Rattle.answer.proofs.infinite.Goals as goal

pub returns : goal.returns
returns c =
    let e = c.is_infinite.ensures.value ∙ infinite_kinds c.args.v in
    grind (arith, e)
