-- The loop of Duplication; where no round is left, 64 are made, or more before it began.
use Rattle.std.proofs.Common.{◌≡◌, refl, max, arith}
use Rattle.carlson.specs.Loop.{finish_of}
use Rattle.carlson.specs.laws.Duplication.{at_next, where_met, where_spent}
use Rattle.carlson.proofs.Recipe.finish.Goals as goal

pub loop-j-init : goal.loop-j-init
unfolding finish_of
loop-j-init g c = record { few = omega arith; reached = c.requires; runs = refl }

pub returns-then-stops : goal.returns-then-stops
returns-then-stops g c =
    where_met _ _ _ _ _ _ _ _ c.stops.ensures c.if-stops.true c.closed.ensures c.loop-j.invariant.runs

pub round-s-requires : goal.round-s-requires
round-s-requires g c = (c.loop-j.j, omega arith, c.loop-j.invariant.reached)

pub loop-j-preserved : goal.loop-j-preserved
loop-j-preserved g c =
    let reached = g.met.Self.Recipe.stays c.loop-j.s c.loop-j.j c.loop-j.invariant.reached in
    record {
      few = omega arith;
      reached = rw c.round-s.ensures reached;
      runs = at_next _ _ _ _ _ _ _ _ (omega arith) c.stops.ensures c.if-stops.false c.round-s.ensures c.loop-j.invariant.runs;
    }

pub returns : goal.returns
returns g c =
    let made : max c.args.k 64 ≡ c.loop-j.j = omega arith in
    where_spent _ _ _ _ _ _ _ (omega arith) (rw (c.max.ensures, made) at c.closed-2.ensures) c.loop-j.invariant.runs
