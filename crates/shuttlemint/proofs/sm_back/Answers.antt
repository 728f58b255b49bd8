-- The number of `convert`, and its bytes.
use Rattle.std.proofs.Common.{ap, ◌∙◌}
use Rattle.conversion.specs.Conversion.{Stopped, is_forth}
use Rattle.shuttlemint.proofs.sm_back.Goals as goal

pub returns : goal.returns
unfolding is_forth
returns c = (c.stop_number.ensures ∙ ap (λ (q : Stopped). q.refusal) c.convert.ensures.0, c.convert.ensures.1)
