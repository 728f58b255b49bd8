-- By its piece, or by the mean (`chosen_below` of Decided.antt).
use Rattle.pieces.specs.Piece.{k_piece_of}
use Rattle.std.proofs.Common.{rules}
use Rattle.legendre.specs.laws.Decided.{chosen_below}
use Rattle.legendre.specs.Ellipk.{k_mean_of, k_below_one_of}
use Rattle.legendre.proofs.k.k_below_one.Goals as goal

pub returns : goal.returns
unfolding k_below_one_of
returns c = chosen_below k_piece_of k_mean_of _ _ _ (λ i h. search rules) (λ h. h) c.below_one.ensures
