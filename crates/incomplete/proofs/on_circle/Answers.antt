-- The body is the definition, each call replaced by what it ensures.
use mathlib.Core.Path.{ap, ◌∙◌}
use Rattle.answer.specs.Answer.{value_of}
use Rattle.incomplete.proofs.on_circle.Goals as goal

pub returns : goal.returns
returns c =
    let both = c.sine_cosine-both.ensures in
    (c.value.ensures ∙ ap value_of both.sine_value.0, c.value-2.ensures ∙ ap value_of both.cosine_value.0)
