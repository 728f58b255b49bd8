-- A row of 48 bytes has its line, any other none.
use native.Mathlib.Omega.{arith}
use mathlib.Core.List.{◌++◌}
use lib.ListN.{get_or}
use borrow.Author.Tests.{eq-eqb, ne_eqb}
use Rattle.ledger.specs.Sheet.{function_in}
use Rattle.text.specs.Text.{three, end}
use Rattle.text.specs.laws.Digits.{three-length}
use Rattle.text.specs.laws.Writing.{placed, put_none}
use Rattle.rounds.specs.Rounds.{rounds_line}
use Rattle.rounds.proofs.put_line.Goals as goal

pub returns-then-row-eq48 : goal.returns-then-row-eq48
unfolding rounds_line function_in
returns-then-row-eq48 c =
    let a = c.args in
    let w = c.read_row-row.ensures in
    let n = c.rounds_in-n in
    let f = get_or c.read_row-row.result.now 0 0 in
    let short = three-length a.i f n.result 10 4 3 20 (omega arith, omega arith, omega arith) (omega arith, omega arith, omega arith)
    (omega arith, omega arith, omega arith) in
    let p = placed a.out.now a.at 63 30 (three a.i f n.result ++ end) short (omega arith) (omega arith) c.put_three.ensures in
    record { put = simp (eq-eqb _ 48 (rw w at c.if-row-eq48.true)) (rw (n.ensures, w) at p.0); upper_bound = p.1 }

pub returns : goal.returns
unfolding rounds_line
returns c =
    let a = c.args in
    let w = c.read_row-row.ensures in
    record { put = simp (ne_eqb _ 48 (rw w at c.if-row-eq48.false)) (put_none a.out.now a.at); upper_bound = omega arith }
