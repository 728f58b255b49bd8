-- What was sent so far is the lines of the rows so far.
use Rattle.std.proofs.Common.{List, ℕ, ◌+◌, add-one, arith, ◌≡◌, subst}
use Rattle.files.specs.declared.sending.Output.{Output}
use Rattle.files.specs.Output.{Wrote, none}
use Rattle.files.specs.laws.Outputs.{wrote_both}
use Rattle.differing.specs.Differing.{line_of, lines_of}
use Rattle.comparing.proofs.send_lines.Goals as goal

-- one row more
one_more_lem : (old new : List ℕ) (i : ℕ) {o u v : Output} → Wrote o (lines_of old new i) u → Wrote u (line_of old new i) v → Wrote o (lines_of old new (i + 1)) v
unfolding lines_of
one_more_lem old new i w x = rw (add-one i) (wrote_both w x)

pub loop-i-init : goal.loop-i-init
unfolding lines_of
loop-i-init c = none

pub loop-i-preserved : goal.loop-i-preserved
loop-i-preserved c = one_more_lem c.args.old.now c.args.new.now c.loop-i.i c.loop-i.invariant c.send_line-sent.ensures

pub returns : goal.returns
returns c =
    let all : c.loop-i.i ≡ c.args.rows = omega arith in
    subst (λ (n : ℕ). Wrote c.args.out (lines_of c.args.old.now c.args.new.now n) c.loop-i.sent) all c.loop-i.invariant
