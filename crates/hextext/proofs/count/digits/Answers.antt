-- The digits left after those read spell, from the number so far, what all of them spell, cut at 1,025.
use mathlib.Core.Path.{refl, sym, ap, ◌∙◌}
use Prim.Native.Nat.{◌+◌, ◌*◌}
use native.Mathlib.Nat.{min-eq_left, min-le_right}
use native.Mathlib.Omega.{arith}
use lib.ListN.{drop}
use lib.Dec.{lit≤}
use Rattle.std.specs.Prelude.{Some}
use Rattle.line.proofs.Spelling.{no_digit, not_one, one_more_lem, no_more}
use Rattle.hextext.specs.HexText.{capped}
use Rattle.hextext.specs.laws.Capped.{cut-same, cut_twice}
use Rattle.hextext.proofs.count.digits.Goals as goal

pub loop-b-init : goal.loop-b-init
loop-b-init c = (refl, omega arith)

pub returns-in_err-d : goal.returns-in_err-d
unfolding capped
returns-in_err-d c =
    let l = c.loop-b in
    c.from_residual.ensures ∙ sym (ap capped (not_one 10 l.n c.args.s.now l.b-index c.loop-b-test.true (lit≤ tt) c.in_err-d.ensures)) ∙ l.invariant.0

pub returns-then-d-ge10 : goal.returns-then-d-ge10
unfolding capped
returns-then-d-ge10 c =
    let l = c.loop-b in
    sym (ap capped (no_digit 10 l.n _ c.args.s.now l.b-index c.loop-b-test.true c.in_ok-d.ensures c.if-d-ge10.true)) ∙ l.invariant.0

pub overflow_mul-n : goal.overflow_mul-n
overflow_mul-n c = let l = c.loop-b.invariant in record { fits = omega arith }

pub overflow_add-n : goal.overflow_add-n
overflow_add-n c = let l = c.loop-b.invariant in record { fits = omega (arith, c.if-d-ge10.false) }

pub loop-b-preserved : goal.loop-b-preserved
loop-b-preserved c =
    let l = c.loop-b in
    let s = c.args.s.now in
    let d = c.in_ok-d in
    let more = one_more_lem 10 l.n _ s l.b-index c.loop-b-test.true d.ensures c.if-d-ge10.false in (
      cut-same (drop (l.b-index + 1) s) _ _ (cut_twice _ _ c.min-n.ensures) ∙ sym (ap capped more) ∙ l.invariant.0,
      rw c.min-n.ensures (min-le_right (l.n * 10 + d.d) 1025),
    )

pub returns : goal.returns
unfolding capped
returns c =
    let l = c.loop-b in
    ap Some (sym (min-eq_left l.invariant.1)) ∙ sym (ap capped (no_more 10 l.n c.args.s.now l.b-index (omega arith))) ∙ l.invariant.0
