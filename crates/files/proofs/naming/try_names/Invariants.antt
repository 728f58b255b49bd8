-- The digits so far were taken.
use Rattle.std.proofs.Common.{◌-◌, ◌<◌, length}
use Rattle.files.proofs.NewName.{TriedTo}
use Rattle.files.proofs.naming.try_names.Given as goal

abbrev pub invariant-loop-k : goal.invariant-loop-k
invariant-loop-k l = TriedTo l.at l.k l.initial.path l.path × (l.at < length l.path)

abbrev pub decreases-loop-k : goal.decreases-loop-k
decreases-loop-k l = 10 - l.k
