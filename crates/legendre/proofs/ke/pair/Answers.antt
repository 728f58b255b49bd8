-- The definition, computed.
use mathlib.Core.Path.{refl}
use Rattle.legendre.specs.Ellipke.{pair_of}
use Rattle.legendre.proofs.ke.pair.Goals as goal

pub returns : goal.returns
unfolding pair_of
returns c = refl
