-- What the bytes say goes to the row tests.
use mathlib.Core.Path.{◌∙◌, ap}
use lib.Ieee.{Float}
use Rattle.ledger.specs.Sheet.{function_in, refusal_in, sound_of}
use Rattle.ledger.proofs.row.is_sound.Goals as goal

pub returns : goal.returns
unfolding function_in refusal_in
returns c =
    let w = c.args.row.now in
    c.can_stand.ensures ∙ ap (λ (x : Float). sound_of (function_in w) (refusal_in w) x) c.first.ensures
