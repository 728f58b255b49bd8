-- Whatever the reads that are left come to, all of them together come to that.
use Rattle.std.proofs.Common.{Bool}
use Rattle.files.specs.Calls.{number_of}
use Rattle.runner.specs.Machine.{Room, room}
use Rattle.runner.specs.Reads.{most_reads, SomeReads}
use Rattle.runner.proofs.reading.read_all.Given as goal

abbrev pub invariant-loop-left : goal.invariant-loop-left
invariant-loop-left l =
    (v : Room) (failed : Bool) → SomeReads (number_of l.input) l.left (room l.st l.line l.sheet) v failed
    → SomeReads (number_of l.input) most_reads (room l.initial.st l.initial.line l.initial.sheet) v failed

abbrev pub decreases-loop-left : goal.decreases-loop-left
decreases-loop-left l = l.left
