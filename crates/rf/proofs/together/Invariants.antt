-- The joint loop of Together, and beside it what each recipe's rounds keep.
use Rattle.carlson.specs.Loop.{duplicated}
use Rattle.rf.specs.laws.Together.{Recipe, Together}
use Rattle.rf.proofs.together.Given as goal

abbrev pub first : (g : goal.Over) → Recipe g.row.A.Denot
first g = record { stops = g.A.Recipe.stops; round = g.A.Recipe.round; closed = g.A.Recipe.closed; at = g.A.Rooted.at }

abbrev pub second : (g : goal.Over) → Recipe g.row.B.Denot
second g = record { stops = g.B.Recipe.stops; round = g.B.Recipe.round; closed = g.B.Recipe.closed; at = g.B.Rooted.at }

abbrev pub invariant-loop-k : goal.invariant-loop-k
invariant-loop-k g l =
    let p = first g in
    let q = second g in
    record {
      first_reached : g.A.Recipe.reached l.s l.k;
      second_reached : g.B.Recipe.reached l.t l.k;
      runs : Together p q (duplicated p.stops p.round p.closed l.initial.s) (duplicated q.stops q.round q.closed l.initial.t) l.s l.t l.k;
    }
