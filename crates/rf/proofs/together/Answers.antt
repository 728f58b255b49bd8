-- The joint loop of Together, and beside it what each recipe's rounds keep.
use Rattle.std.proofs.Common.{◌≡◌, refl, ◌∙◌, arith}
use Rattle.carlson.specs.Loop.{finish_of}
use Rattle.carlson.specs.laws.Duplication.{where_spent}
use Rattle.rf.specs.laws.Together.{begun, onward, alongside}
use Rattle.rf.proofs.together.Invariants.{first, second}
use Rattle.rf.proofs.together.Goals as goal

pub loop-k-init : goal.loop-k-init
loop-k-init g c = record { first_reached = c.requires.first; second_reached = c.requires.second; runs = begun (first g) (second g) _ _ _ _ refl refl c.requires.same }

pub round_by-s-requires : goal.round_by-s-requires
round_by-s-requires g c = (c.loop-k.k, c.loop-k-test.true, c.loop-k.invariant.first_reached)

pub round_by-t-requires : goal.round_by-t-requires
round_by-t-requires g c = (c.loop-k.k, c.loop-k-test.true, c.loop-k.invariant.second_reached)

pub loop-k-preserved : goal.loop-k-preserved
loop-k-preserved g c =
    let l = c.loop-k in
    let a = g.met.A in
    let b = g.met.B in
    let s = alongside (first g) g.A.Rooted.next a.Rooted.by_roots _ _ _ _ l.invariant.runs.same c.roots-w.ensures c.round_by-s.ensures in
    let t = alongside (second g) g.B.Rooted.next b.Rooted.by_roots _ _ _ _ refl c.roots-w.ensures c.round_by-t.ensures in
    let s_reached = a.Recipe.stays l.s l.k l.invariant.first_reached in
    let t_reached = b.Recipe.stays l.t l.k l.invariant.second_reached in
    record {
      first_reached = rw s s_reached;
      second_reached = rw t t_reached;
      runs = onward (first g) (second g) a.Rooted.moves b.Rooted.moves _ _ _ _ _ _ _ _ _ c.loop-k-test.true c.stops.ensures c.stops-in-loop-k.ensures c.if-stops.false s t l.invariant.runs;
    }

pub returns-then-stops : goal.returns-then-stops
unfolding finish_of
returns-then-stops g c = record { first = c.finish.ensures ∙ c.loop-k.invariant.runs.first_run; second = c.finish-then-stops.ensures ∙ c.loop-k.invariant.runs.second_run }

pub returns : goal.returns
returns g c =
    let k : 64 ≡ c.loop-k.k = omega arith in
    record {
      first = where_spent _ _ _ _ _ _ _ c.loop-k-test.false (rw k at c.closed.ensures) c.loop-k.invariant.runs.first_run;
      second = where_spent _ _ _ _ _ _ _ c.loop-k-test.false (rw k at c.closed-2.ensures) c.loop-k.invariant.runs.second_run;
    }
