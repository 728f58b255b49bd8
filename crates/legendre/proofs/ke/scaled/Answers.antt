-- The definition, computed.
use mathlib.Core.Path.{refl}
use Rattle.legendre.specs.Ellipke.{scaled_of}
use Rattle.legendre.proofs.ke.scaled.Goals as goal

pub returns : goal.returns
unfolding scaled_of
returns c = refl
