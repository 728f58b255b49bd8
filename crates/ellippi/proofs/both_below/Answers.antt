-- The body is the definition, each call replaced by what it ensures.
use Rattle.laws.specs.Ladder.{held, passed}
use Rattle.carlson.specs.laws.Counts.{few}
use Rattle.rj.specs.laws.Counts.{rj_counts, few_inside}
use Rattle.ellippi.specs.Ellippi.{both_below_of}
use Rattle.ellippi.proofs.both_below.Goals as goal

pub returns-then-m-n : goal.returns-then-m-n
unfolding both_below_of
returns-then-m-n c = held _ _ c.if-m-n.true (rw (← c.complete_e-e.ensures) c.plain_term.ensures)

pub of_rj-requires : goal.of_rj-requires
of_rj-requires c = let e = c.rj-j.ensures in (few e (rj_counts _ _ _ _), few_inside _ _ _ _ _ e)

pub returns : goal.returns
unfolding both_below_of
returns c =
    passed _ _ c.if-m-n.false (rw (c.of_rj.ensures, c.complete_k-k.ensures, c.weight-w.ensures, c.rj-j.ensures))
