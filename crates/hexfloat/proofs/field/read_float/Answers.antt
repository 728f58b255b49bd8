-- Test by test.
use mathlib.Core.Path.{refl, sym, ap, ◌∙◌}
use mathlib.Core.Bool.{true, false}
use lib.ListN.{take}
use Rattle.laws.specs.Ascii.{ascii}
use Rattle.laws.specs.Ladder.{held, passed}
use Rattle.hexfloat.specs.Reading.{prefixed_of, nan_of, read_of}
use Rattle.hexfloat.proofs.Parts.{same_is, minus_is, named}
use Rattle.hexfloat.proofs.field.read_float.Goals as goal

pub returns-then-eq : goal.returns-then-eq
unfolding read_of
returns-then-eq c = held _ _ (named c.args.s.now _ (ascii "inf") c.eq.ensures c.as_slice.ensures c.if-eq.true) refl

pub returns-then-eq-2 : goal.returns-then-eq-2
unfolding read_of
returns-then-eq-2 c =
    let s = c.args.s.now in
    passed _ _ (named s _ (ascii "inf") c.eq.ensures c.as_slice.ensures c.if-eq.false)
    (held _ _ (named s _ (ascii "-inf") c.eq-2.ensures c.as_slice-2.ensures c.if-eq-2.true) refl)

pub returns-in-Some : goal.returns-in-Some
unfolding read_of
returns-in-Some c =
    let s = c.args.s.now in
    let nan = c.in-Some.ensures.cases in
    passed _ _ (named s _ (ascii "inf") c.eq.ensures c.as_slice.ensures c.if-eq.false)
    (passed _ _ (named s _ (ascii "-inf") c.eq-2.ensures c.as_slice-2.ensures c.if-eq-2.false)
    (held _ _ (sym (same_is (take 4 s) (ascii "nan:")) ∙ nan.0) (c.nan.ensures ∙ ap nan_of nan.1)))

pub returns-in-Some-strip_prefix : goal.returns-in-Some-strip_prefix
unfolding read_of
returns-in-Some-strip_prefix c =
    let s = c.args.s.now in
    let minus = c.in-Some-strip_prefix.ensures.cases in
    passed _ _ (named s _ (ascii "inf") c.eq.ensures c.as_slice.ensures c.if-eq.false)
    (passed _ _ (named s _ (ascii "-inf") c.eq-2.ensures c.as_slice-2.ensures c.if-eq-2.false)
    (passed _ _ (sym (same_is (take 4 s) (ascii "nan:")) ∙ c.in_default.ensures.cases)
    (held _ _ (sym (minus_is s) ∙ minus.0) (c.prefixed.ensures ∙ ap (prefixed_of true) minus.1))))

pub returns : goal.returns
unfolding read_of
returns c =
    let s = c.args.s.now in
    passed _ _ (named s _ (ascii "inf") c.eq.ensures c.as_slice.ensures c.if-eq.false)
    (passed _ _ (named s _ (ascii "-inf") c.eq-2.ensures c.as_slice-2.ensures c.if-eq-2.false)
    (passed _ _ (sym (same_is (take 4 s) (ascii "nan:")) ∙ c.in_default.ensures.cases)
    (passed _ _ (sym (minus_is s) ∙ c.in_default-strip_prefix.ensures.cases) (c.prefixed-2.ensures ∙ ap (prefixed_of false) c.past_plus.ensures))))
