-- What was sent so far is the lines of the rows so far.
use Rattle.std.proofs.Common.{List, ℕ, ◌+◌, add-one, arith, ◌≡◌, subst}
use Rattle.files.specs.declared.sending.Output.{Output}
use Rattle.files.specs.Output.{Wrote, none}
use Rattle.files.specs.laws.Outputs.{wrote_both}
use Rattle.hexpage.specs.HexPage.{row_line, row_lines}
use Rattle.writing.proofs.send_rows.Goals as goal

-- one row more
one_more_lem : (s : List ℕ) (i : ℕ) {o u v : Output} → Wrote o (row_lines s i) u → Wrote u (row_line s i) v → Wrote o (row_lines s (i + 1)) v
unfolding row_lines
one_more_lem s i w x = rw (add-one i) (wrote_both w x)

pub loop-i-init : goal.loop-i-init
unfolding row_lines
loop-i-init c = none

pub loop-i-preserved : goal.loop-i-preserved
loop-i-preserved c = one_more_lem c.args.sheet.now c.loop-i.i c.loop-i.invariant c.send_row-sent.ensures

pub returns : goal.returns
returns c =
    let all : c.loop-i.i ≡ c.args.rows = omega arith in
    subst (λ (n : ℕ). Wrote c.args.out (row_lines c.args.sheet.now n) c.loop-i.sent) all c.loop-i.invariant
