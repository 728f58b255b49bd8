-- The body is the definition, each call replaced by what it ensures.
use Rattle.carlson.specs.laws.Counts.{few}
use Rattle.rj.specs.laws.Counts.{rj_counts, few_inside}
use Rattle.ellippi.specs.Ellippi.{principal_of}
use Rattle.ellippi.proofs.principal.Goals as goal

pub of_rj-requires : goal.of_rj-requires
of_rj-requires c = let e = c.rj-j.ensures in (few e (rj_counts _ _ _ _), few_inside _ _ _ _ _ e)

pub returns : goal.returns
unfolding principal_of
returns c = rw (c.of_rj.ensures, c.rj-j.ensures)
