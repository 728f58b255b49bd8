-- The loop of Duplication.
use Rattle.std.proofs.Common.{◌≤◌, max}
use Rattle.carlson.specs.Loop.{finish_of}
use Rattle.carlson.specs.laws.Duplication.{Holds}
use Rattle.carlson.proofs.Recipe.finish.Given as goal

abbrev pub invariant-loop-j : goal.invariant-loop-j
invariant-loop-j g l =
    let r = g.Self.Recipe in
    record {
      few : l.j ≤ max l.k 64;
      reached : r.reached l.s l.j;
      runs : Holds r.stops r.round r.closed (finish_of r.stops r.round r.closed l.initial.s l.k) l.s l.j;
    }
