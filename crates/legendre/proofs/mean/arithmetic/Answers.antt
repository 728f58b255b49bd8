-- The definition, computed.
use mathlib.Core.Path.{refl}
use Rattle.legendre.specs.Mean.{arithmetic_of}
use Rattle.legendre.proofs.mean.arithmetic.Goals as goal

pub returns : goal.returns
unfolding arithmetic_of
returns c = refl
