-- What the field says, or 0.
use Rattle.std.proofs.Common.{ap, ◌∙◌, ℕ, Option}
use Rattle.std.specs.Option.{unwrap_or}
use Rattle.hexline.specs.Fields.{value_in}
use Rattle.hexline.proofs.fields.value.Goals as goal

pub returns : goal.returns
unfolding value_in
returns c = c.unwrap_or.ensures ∙ ap (λ (o : Option ℕ). unwrap_or o 0) c.says.ensures
