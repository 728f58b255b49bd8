-- What is left of the part, from the state so far, comes to what the whole part does.
use Rattle.std.proofs.Common.{◌+◌, drop, sym, refl, ap, ◌∙◌, arith}
use Rattle.runner.specs.Machine.{Room, room, feed_of}
use Rattle.runner.specs.laws.Steps.{feed_next, feed_end}
use Rattle.runner.proofs.engine.feed.Goals as goal

pub loop-b-init : goal.loop-b-init
loop-b-init c = (refl, c.requires.0, c.requires.1)

pub step-now-requires : goal.step-now-requires
step-now-requires c = (c.loop-b.invariant.1, c.loop-b.invariant.2)

pub loop-b-preserved : goal.loop-b-preserved
loop-b-preserved c =
    let l = c.loop-b in
    let part = c.args.part.now in
    let next = c.step-now in (
      ap (λ (w : Room). feed_of w (drop (l.b-index + 1) part)) next.ensures
          ∙ feed_next (room l.now l.line l.sheet) part l.b-index c.loop-b-test.true
          ∙ l.invariant.0,
      next.auto.line ∙ l.invariant.1,
      next.auto.sheet ∙ l.invariant.2,
    )

pub returns : goal.returns
returns c =
    let l = c.loop-b in
    sym (feed_end (room l.now l.line l.sheet) c.args.part.now l.b-index c.loop-b-test.false) ∙ l.invariant.0
