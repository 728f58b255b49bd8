-- The row of `refusal`.
use Rattle.std.proofs.Common.{ap, ◌∙◌}
use Rattle.conversion.specs.Conversion.{Stopped, is_forth}
use Rattle.shuttlemint.proofs.sm_forth_row.Goals as goal

pub returns : goal.returns
unfolding is_forth
returns c = c.stop_row.ensures ∙ ap (λ (q : Stopped). q.row) c.refusal.ensures
