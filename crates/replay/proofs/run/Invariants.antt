-- The buffers keep their lengths.
use Rattle.std.proofs.Common.{◌≡◌, ◌≤◌, length}
use Rattle.replay.proofs.run.Given as goal

abbrev pub invariant-loop-turns : goal.invariant-loop-turns
invariant-loop-turns l = (length l.line ≡ 256) × (length l.buffer ≡ 99328) × (l.st.length ≤ 49664) × (l.st.held ≤ 256)
