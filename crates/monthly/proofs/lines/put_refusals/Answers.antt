-- The lines so far stand in the buffer, at most 50 bytes each.
use Rattle.std.proofs.Common.{◌≡◌, ◌+◌, ◌*◌, add-one, arith, get_or}
use Rattle.monthly.specs.Monthly.{refusal_text, refusal_lines}
use Rattle.placing.specs.laws.Placing.{nothing, join, looser}
use Rattle.monthly.proofs.lines.put_refusals.Goals as goal

pub loop-i-init : goal.loop-i-init
unfolding refusal_lines
loop-i-init c = nothing _ _ 0

pub put_refusal-at-requires : goal.put_refusal-at-requires
put_refusal-at-requires c = let p = c.loop-i.invariant in omega (arith, p.short, p.same)

pub loop-i-preserved : goal.loop-i-preserved
unfolding refusal_lines
loop-i-preserved c =
    let a = c.args in
    let l = c.loop-i in
    let s = a.out.now in
    let xs = a.refusals in
    rw (add-one l.i)
    (looser s a.from (50 * l.i + 50) _ _ (omega arith) (join s a.from (50 * l.i) 50 (refusal_lines xs l.i) (refusal_text l.i (get_or xs l.i 0)) (omega arith) l.invariant c.put_refusal-at.ensures))

pub returns : goal.returns
returns c =
    let l = c.loop-i in
    let all : l.i ≡ 32 = omega arith in
    rw all at l.invariant
