-- The lines so far stand in the buffer, at most 30 bytes a row.
use Rattle.std.proofs.Common.{◌≡◌, refl, arith}
use Rattle.text.specs.laws.Lines.{none_yet, one_more_lem}
use Rattle.rounds.specs.Rounds.{rounds_line, rounds_lines, rounds_page}
use Rattle.rounds.proofs.put_rounds.Goals as goal

pub loop-i-init : goal.loop-i-init
unfolding rounds_lines
loop-i-init c =
    let a = c.args in
    (omega arith, none_yet (rounds_line a.sheet.now) (rounds_lines a.sheet.now) a.out.now 0 30 refl)

pub put_line-at-requires : goal.put_line-at-requires
put_line-at-requires c = (omega arith, omega arith)

pub loop-i-preserved : goal.loop-i-preserved
unfolding rounds_lines
loop-i-preserved c =
    let a = c.args in
    let l = c.loop-i in
    let p = c.put_line-at.ensures in
    let line = one_more_lem (rounds_line a.sheet.now) (rounds_lines a.sheet.now) a.out.now 0 30 l.i refl l.invariant.1 p.put p.upper_bound (omega arith) in
    (omega (arith, line.short, line.same), line)

pub returns : goal.returns
unfolding rounds_page
returns c =
    let l = c.loop-i in
    let e : l.i ≡ c.shown-i-end.result = omega arith in
    record { put = rw (e, c.shown-i-end.ensures.0) at l.invariant.1.text; upper_bound = l.invariant.0 }
