-- One straight line, computed.
use mathlib.Core.Path.{refl}
use lib.Ieee.{of_bits}
use Rattle.legendre.specs.Ellipk.{k_from_of}
use Rattle.legendre.proofs.k.k_from.Goals as goal

pub returns : goal.returns
unfolding k_from_of of_bits
returns c = refl
