-- `settled` meets its contract: any radicand of the right size may stand there.
use Rattle.std.proofs.Common.{ap, sym, ◌∙◌, arith}
use Rattle.std.specs.Prelude.{Option, Some, None}
use lib.Ieee.{Float}
use Rattle.root.proofs.settled.Goals as goal

or : Float → Option Float → Float
or d None = d
or d (Some v) = v

pub returns : goal.returns
unfolding or
returns c x e = record { sized = record { least = (omega arith); most = (omega arith); scale = (omega arith) }; worked = (λ h. absurd (cc)); known = (λ v h. sym (ap (or v) h) ∙ e) }
