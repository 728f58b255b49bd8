-- This row, or those from here on.
use Rattle.std.proofs.Common.{arith, rules, tests}
use Rattle.conversion.specs.Conversion.{rejected}
use Rattle.conversion.proofs.Searching.{unsearched, search_on, search_here, search_past}
use Rattle.conversion.proofs.first_rejected.Goals as goal

pub loop-i-init : goal.loop-i-init
loop-i-init c = unsearched (rejected c.args.sheet.now) c.args.rows

pub returns-then-found : goal.returns-then-found
returns-then-found c =
    let l = c.loop-i in
    search_here (rejected c.args.sheet.now) c.args.rows l.i l.invariant c.loop-i-test.true (search (rules, tests))

pub loop-i-preserved : goal.loop-i-preserved
loop-i-preserved c =
    let l = c.loop-i in
    search_on (rejected c.args.sheet.now) c.args.rows l.i l.invariant c.loop-i-test.true (search (rules, tests))

pub returns : goal.returns
returns c =
    let l = c.loop-i in
    search_past (rejected c.args.sheet.now) c.args.rows l.i l.invariant (omega arith)
