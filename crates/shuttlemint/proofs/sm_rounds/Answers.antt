-- The rounds of `counted`.
use mathlib.Core.Path.{ap}
use Rattle.answer.specs.declared.Counted.{Counted}
use Rattle.shuttlemint.proofs.sm_rounds.Goals as goal

pub returns : goal.returns
returns c = ap (λ (r : Counted). r.rounds) c.counted.ensures
