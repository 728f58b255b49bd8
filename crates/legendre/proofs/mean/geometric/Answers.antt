-- What root ensures of the product.
use Rattle.legendre.specs.Mean.{geometric_of}
use Rattle.legendre.proofs.mean.geometric.Goals as goal

pub returns : goal.returns
unfolding geometric_of
returns c = c.root.ensures
