-- This row, or those from here on.
use Rattle.std.proofs.Common.{arith, rules, tests}
use Rattle.conversion.specs.Conversion.{oftener}
use Rattle.conversion.proofs.Searching.{unsearched, search_on, search_here, search_past}
use Rattle.conversion.proofs.first_oftener.Goals as goal

pub loop-j-init : goal.loop-j-init
loop-j-init c = unsearched (oftener c.args.sheet.now) c.args.rows

pub returns-then-found : goal.returns-then-found
returns-then-found c =
    let l = c.loop-j in
    search_here (oftener c.args.sheet.now) c.args.rows l.j l.invariant c.loop-j-test.true (search (rules, tests))

pub loop-j-preserved : goal.loop-j-preserved
loop-j-preserved c =
    let l = c.loop-j in
    search_on (oftener c.args.sheet.now) c.args.rows l.j l.invariant c.loop-j-test.true (search (rules, tests))

pub returns : goal.returns
returns c =
    let l = c.loop-j in
    search_past (oftener c.args.sheet.now) c.args.rows l.j l.invariant (omega arith)
