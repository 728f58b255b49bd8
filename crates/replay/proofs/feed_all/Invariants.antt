-- The buffers keep their lengths, and the state stays in range.
use Rattle.std.proofs.Common.{◌≡◌, ◌≤◌, length}
use Rattle.replay.proofs.feed_all.Given as goal

abbrev pub invariant-loop-b : goal.invariant-loop-b
invariant-loop-b l = (length l.line ≡ 256) × (length l.buffer ≡ 99328) × (l.s.length ≤ 49664) × (l.s.held ≤ 256)
