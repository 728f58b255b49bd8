-- By its piece, or by the mean (`chosen_below` of Decided.antt).
use Rattle.std.proofs.Common.{rules}
use Rattle.legendre.specs.laws.Decided.{chosen_below}
use Rattle.legendre.specs.Ellipke.{both_piece_of, both_mean_of, both_below_one_of}
use Rattle.legendre.proofs.ke.both_below_one.Goals as goal

pub returns : goal.returns
unfolding both_below_one_of
returns c = chosen_below both_piece_of both_mean_of _ _ _ (λ i h. search rules) (λ h. h) c.below_one.ensures
