-- The lines so far were sent.
use Rattle.std.proofs.Common.{◌≡◌, arith, length, take_all, Ok}
use Rattle.reporting.proofs.Files.{told-all-none, told-all_more, told-all_taken}
use Rattle.reporting.proofs.saying.put_files.Goals as goal
use Rattle.reporting.proofs.saying.put_files.Goals.{in-Err, in_default}

pub loop-i-init : goal.loop-i-init
loop-i-init c = told-all-none c.args.fates.now _

pub loop-i-preserved : goal.loop-i-preserved
loop-i-preserved c =
    let l = c.loop-i in
    elim c.match-fate.branch [
      | in-Err w ↦ rw w.sent-is (told-all_more l.i c.args.fates.now (Ok tt) (omega arith) l.invariant (grind arith) w.put_file-sent.ensures)
      | in_default w ↦ rw w.sent-is (told-all_taken l.i c.args.fates.now (Ok tt) (omega arith) l.invariant {u = tt} (grind arith))
    ]

pub returns : goal.returns
returns c =
    let l = c.loop-i in
    let e : l.i ≡ length c.args.fates.now = omega arith in
    rw (e, take_all (length c.args.fates.now) c.args.fates.now (omega arith)) at l.invariant
