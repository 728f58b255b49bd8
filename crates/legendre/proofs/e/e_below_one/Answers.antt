-- By its piece, or by the mean (`chosen_below` of Decided.antt).
use Rattle.pieces.specs.Piece.{e_piece_of}
use Rattle.std.proofs.Common.{rules}
use Rattle.legendre.specs.laws.Decided.{chosen_below}
use Rattle.legendre.specs.Ellipe.{e_mean_of, e_below_one_of}
use Rattle.legendre.proofs.e.e_below_one.Goals as goal

pub returns : goal.returns
unfolding e_below_one_of
returns c = chosen_below e_piece_of (e_mean_of 32) _ _ _ (λ i h. search rules) (λ h. h) c.below_one.ensures
