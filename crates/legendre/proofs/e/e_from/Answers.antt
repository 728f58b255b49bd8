-- One straight line, computed.
use mathlib.Core.Path.{refl}
use lib.Ieee.{of_bits}
use Rattle.legendre.specs.Ellipe.{e_from_of}
use Rattle.legendre.proofs.e.e_from.Goals as goal

pub returns : goal.returns
unfolding e_from_of of_bits
returns c = refl
