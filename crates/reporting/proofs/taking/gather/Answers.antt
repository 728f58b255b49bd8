-- What the files so far came to, each in its place.
use Rattle.std.proofs.Common.{◌≡◌, arith, length, take_all}
use Rattle.reporting.specs.Reporting.{Took}
use Rattle.reporting.proofs.Files.{took_more}
use Rattle.reporting.proofs.taking.gather.Goals as goal

pub loop-i-init : goal.loop-i-init
loop-i-init c = rw c.start-report.ensures Took.none

pub loop-i-preserved : goal.loop-i-preserved
loop-i-preserved c =
    let l = c.loop-i in
    took_more l.fates (omega arith) l.invariant c.take_file.ensures (grind arith) (grind arith)

pub returns : goal.returns
returns c =
    let l = c.loop-i in
    let e : l.i ≡ length l.fates = omega arith in
    rw (e, take_all (length l.fates) l.fates (omega arith)) at l.invariant
