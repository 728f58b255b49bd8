-- The total of nothing is zero limbs.
use Rattle.std.proofs.Common.{replicate, None}
use Rattle.month.specs.Month.{start_of}
use Rattle.month.proofs.start.Goals as goal

pub returns : goal.returns
unfolding start_of
returns c = λ i. record { sheets = 0; counts = replicate 5 0; refusals = replicate 32 0; total = record { limbs = c.zero.ensures.1 i }; largest = None; smallest = None }
