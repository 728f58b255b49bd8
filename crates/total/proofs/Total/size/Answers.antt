-- The sign, and the limbs of the size.
use Rattle.total.specs.Total.{signed_of}
use Rattle.total.proofs.Total.size.Goals as goal

pub returns : goal.returns
unfolding signed_of
returns c = let s = c.sized in
    ((λ i. record { negative = s.ensures.0 i; limbs = s.ensures.1 i }), s.ensures.2)
