-- The answer of `counted`.
use mathlib.Core.Path.{ap}
use Rattle.answer.specs.declared.Counted.{Counted}
use Rattle.sheet.specs.Functions.{evaluate_of}
use Rattle.sheet.proofs.functions.evaluate.Goals as goal

pub returns : goal.returns
unfolding evaluate_of
returns c = ap (λ (r : Counted). r.answer) c.counted.ensures
