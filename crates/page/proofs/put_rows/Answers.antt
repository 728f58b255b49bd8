-- The lines so far stand in the buffer, at most 54 bytes a row.
use Rattle.std.proofs.Common.{◌≡◌, ◌+◌, ◌*◌, refl, arith}
use Rattle.text.specs.laws.Lines.{none_yet, one_more_lem}
use Rattle.page.specs.Page.{row_line, row_lines}
use Rattle.page.proofs.put_rows.Goals as goal

pub loop-i-init : goal.loop-i-init
unfolding row_lines
loop-i-init c = none_yet (row_line c.args.sheet.now) (row_lines c.args.sheet.now) c.args.out.now 0 54 refl

pub put_row-at-requires : goal.put_row-at-requires
put_row-at-requires c = (omega (arith, c.loop-i.invariant.short, c.loop-i.invariant.same), omega arith)

pub loop-i-preserved : goal.loop-i-preserved
unfolding row_lines
loop-i-preserved c =
    let a = c.args in
    let l = c.loop-i in
    let p = c.put_row-at.ensures in
    one_more_lem (row_line a.sheet.now) (row_lines a.sheet.now) a.out.now 0 54 l.i refl l.invariant p.put p.short (omega arith)

pub returns : goal.returns
returns c =
    let l = c.loop-i in
    let s = l.invariant in
    let e : l.i ≡ c.args.rows = omega arith in
    record { put = rw e at s.text; short = rw e at s.short; same = s.same }
