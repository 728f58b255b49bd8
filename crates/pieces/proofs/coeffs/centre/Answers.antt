use Rattle.std.proofs.Common.{◌≡◌, get_or, rules}
use lib.Ieee.{of_bits}
use Rattle.laws.specs.Arithmetic.{dec, +0}
use Rattle.pieces.specs.Piece.{centre_of}
use Rattle.pieces.specs.declared.coeffs.TheConstants.{CENTRES}
use Rattle.pieces.proofs.coeffs.centre.Goals as goal

pub returns : goal.returns
unfolding centre_of dec of_bits
returns c = let e : c.unwrap_or.result ≡ get_or CENTRES c.args.i +0 = search rules in e
