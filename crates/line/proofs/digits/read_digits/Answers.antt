-- The digits left after those read spell, from the number so far, what all of them spell; i digits stay below 16 ^ i.
use mathlib.Core.Path.{refl, sym, ◌∙◌}
use native.Mathlib.Omega.{arith}
use borrow.Author.Tests.{lt-ltb, le-ltb}
use Rattle.laws.specs.Ladder.{held, passed}
use Rattle.line.specs.Line.{few_of}
use Rattle.line.specs.laws.Few.{few}
use Rattle.line.proofs.Spelling.{no_digit, not_one, one_more_lem, no_more, grows, fits}
use Rattle.line.proofs.digits.read_digits.Goals as goal

pub returns-then-base-gt16 : goal.returns-then-base-gt16
unfolding few_of
returns-then-base-gt16 c = held _ _ (lt-ltb _ _ c.if-base-gt16.true) refl

pub returns-then-s-gt16 : goal.returns-then-s-gt16
unfolding few_of
returns-then-s-gt16 c = passed _ _ (le-ltb _ _ c.if-base-gt16.false) (held _ _ (lt-ltb _ _ c.if-s-gt16.true) refl)

pub loop-b-init : goal.loop-b-init
loop-b-init c = (sym (few _ _ c.if-base-gt16.false c.if-s-gt16.false), omega arith)

pub returns-in_err-d : goal.returns-in_err-d
returns-in_err-d c =
    let l = c.loop-b in
    c.from_residual.ensures
    ∙ sym (not_one c.args.base l.n c.args.s.now l.b-index c.loop-b-test.true c.if-base-gt16.false c.in_err-d.ensures)
    ∙ l.invariant.0

pub returns-then-base-d : goal.returns-then-base-d
returns-then-base-d c =
    let l = c.loop-b in
    sym (no_digit c.args.base l.n _ c.args.s.now l.b-index c.loop-b-test.true c.in_ok-d.ensures c.if-base-d.true)
    ∙ l.invariant.0

pub overflow_mul-n : goal.overflow_mul-n
overflow_mul-n c =
    let l = c.loop-b in
    let m = grows l.n c.args.base c.in_ok-d.d l.b-index c.if-base-gt16.false c.if-base-d.false l.invariant.1 in
    let k = fits _ l.b-index (omega arith) m in
    record { fits = omega arith }

pub overflow_add-n : goal.overflow_add-n
overflow_add-n c =
    let l = c.loop-b in
    let m = grows l.n c.args.base c.in_ok-d.d l.b-index c.if-base-gt16.false c.if-base-d.false l.invariant.1 in
    record { fits = fits _ l.b-index (omega arith) m }

pub loop-b-preserved : goal.loop-b-preserved
loop-b-preserved c =
    let l = c.loop-b in (
      sym (one_more_lem c.args.base l.n _ c.args.s.now l.b-index c.loop-b-test.true c.in_ok-d.ensures c.if-base-d.false)
          ∙ l.invariant.0,
      grows l.n c.args.base c.in_ok-d.d l.b-index c.if-base-gt16.false c.if-base-d.false l.invariant.1,
    )

pub returns : goal.returns
returns c =
    let l = c.loop-b in
    sym (no_more c.args.base l.n c.args.s.now l.b-index (omega arith)) ∙ l.invariant.0
