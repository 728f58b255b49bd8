-- The reads so far brought the bytes so far.
use Rattle.std.proofs.Common.{◌≡◌, ◌-◌, ◌≤◌, length}
use Rattle.files.specs.Calls.{number_of}
use Rattle.loading.proofs.Filling.{SoFar}
use Rattle.loading.proofs.read_whole.Given as goal

abbrev pub invariant-loop-at : goal.invariant-loop-at
invariant-loop-at l = SoFar (length l.initial.into) (number_of l.file) l.at l.into × (l.at ≤ length l.into) × (length l.into ≡ length l.initial.into)

abbrev pub decreases-loop-at : goal.decreases-loop-at
decreases-loop-at l = length l.initial.into - l.at
