-- The table without its padding is the definition's, computed.
use Rattle.std.proofs.Common.{refl, ap, ◌∙◌}
use lib.Ieee.{of_bits, neg}
use Rattle.laws.specs.Arithmetic.{dec}
use Rattle.pieces.specs.Coeffs.{e_rows}
use Rattle.pieces.specs.Polyeval.{polyeval_of}
use Rattle.pieces.specs.Piece.{e_piece_of}
use Rattle.pieces.specs.declared.coeffs.TheConstants.{E, E_LENGTHS}
use Rattle.pieces.proofs.Rows.{picked}
use Rattle.pieces.proofs.coeffs.e_piece.Goals as goal

pub returns : goal.returns
unfolding e_piece_of e_rows dec of_bits neg
returns c = c.polyeval.ensures ∙ ap (polyeval_of c.args.delta) (picked E_LENGTHS E e_rows refl refl refl refl _ c.row.ensures.within c.row.ensures.beyond)
