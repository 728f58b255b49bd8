-- The counts so far stand in the buffer, at most 11 bytes each.
use Rattle.std.proofs.Common.{◌*◌}
use Rattle.placing.specs.Placed.{Placed}
use Rattle.page.specs.Page.{count_fields}
use Rattle.page.proofs.put_counts.Given as goal

abbrev pub invariant-loop-class : goal.invariant-loop-class
invariant-loop-class l = Placed l.initial.out l.out l.from l.at (11 * l.class) (count_fields l.sheet l.class)
