-- The table without its padding is the definition's, computed.
use Rattle.std.proofs.Common.{refl, ap, ◌∙◌}
use lib.Ieee.{of_bits, neg}
use Rattle.laws.specs.Arithmetic.{dec}
use Rattle.pieces.specs.Coeffs.{k_rows}
use Rattle.pieces.specs.Polyeval.{polyeval_of}
use Rattle.pieces.specs.Piece.{k_piece_of}
use Rattle.pieces.specs.declared.coeffs.TheConstants.{K, K_LENGTHS}
use Rattle.pieces.proofs.Rows.{picked}
use Rattle.pieces.proofs.coeffs.k_piece.Goals as goal

pub returns : goal.returns
unfolding k_piece_of k_rows dec of_bits neg
returns c = c.polyeval.ensures ∙ ap (polyeval_of c.args.delta) (picked K_LENGTHS K k_rows refl refl refl refl _ c.row.ensures.within c.row.ensures.beyond)
