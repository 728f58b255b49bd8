-- The sum stays below its modulus.
use Rattle.std.proofs.Common.{◌<◌}
use Rattle.replay.proofs.calls.checksum.Given as goal

abbrev pub invariant-loop-b : goal.invariant-loop-b
invariant-loop-b l = l.h < 36028797018963913
