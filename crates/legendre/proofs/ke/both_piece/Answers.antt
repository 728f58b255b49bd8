-- K and E by what their functions ensure.
use Rattle.legendre.specs.Ellipke.{both_piece_of}
use Rattle.legendre.proofs.ke.both_piece.Goals as goal

pub returns : goal.returns
unfolding both_piece_of
returns c = rw (c.k_piece.ensures, c.e_piece.ensures)
