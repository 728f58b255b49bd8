-- The digits left after those taken lead, from what is held, to what all of them lead to.
use mathlib.Core.Path.{refl, sym, ap, ◌∙◌}
use Prim.Native.Nat.{◌+◌}
use lib.ListN.{drop}
use native.Mathlib.Omega.{arith}
use Rattle.hexfloat.specs.declared.digits.Held.{Held}
use Rattle.hexfloat.specs.Steps.{held_from}
use Rattle.hexfloat.specs.laws.Holding.{dropped_more}
use Rattle.hexfloat.proofs.Holding.{worth, no_digit, one_more_lem, no_more}
use Rattle.hexfloat.proofs.digits.take_digits.Goals as goal

pub loop-b-init : goal.loop-b-init
loop-b-init c = (refl, omega arith)

pub returns-in_err-d : goal.returns-in_err-d
returns-in_err-d c =
    let l = c.loop-b in
    c.from_residual.ensures ∙ sym (no_digit l.h c.args.s.now l.b-index c.loop-b-test.true c.in_err-d.ensures) ∙ l.invariant.0

pub with_digit-h-requires : goal.with_digit-h-requires
with_digit-h-requires c = ((worth _ _ c.in_ok-d.ensures).1, let p = c.requires in let l = c.loop-b.invariant.1 in omega arith)

pub loop-b-preserved : goal.loop-b-preserved
loop-b-preserved c =
    let l = c.loop-b in
    let a = c.args in
    let d = c.in_ok-d.d in (
      ap (λ (h : Held). held_from h (drop (l.b-index + 1) a.s.now)) c.with_digit-h.ensures
          ∙ sym (one_more_lem l.h a.s.now l.b-index c.loop-b-test.true d c.in_ok-d.ensures)
          ∙ l.invariant.0,
      let k = dropped_more l.h d in rw c.with_digit-h.ensures (omega (arith, l.invariant.1)),
    )

pub returns : goal.returns
returns c =
    let l = c.loop-b in
    sym (no_more l.h c.args.s.now l.b-index (omega arith)) ∙ l.invariant.0
