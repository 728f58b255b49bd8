-- What is left of the part, from the state so far, comes to what the whole part does.
use Rattle.std.proofs.Common.{◌≡◌, length, drop}
use Rattle.page.specs.Page.{largest}
use Rattle.runner.specs.Machine.{longest, room, feed_of}
use Rattle.runner.proofs.engine.feed.Given as goal

abbrev pub invariant-loop-b : goal.invariant-loop-b
invariant-loop-b l =
    (feed_of (room l.now l.line l.sheet) (drop l.b-index l.part) ≡ feed_of (room l.initial.now l.initial.line l.initial.sheet) l.part)
    × (length l.line ≡ longest) × (length l.sheet ≡ largest)
