-- Down the file's tests: the i-th return passed the tests before its own.
use Rattle.std.proofs.Common.{sym, ap, ap₂, Bool, ◌||◌, ◌∙◌}
use Rattle.laws.specs.Ladder.{held, passed}
use Rattle.laws.specs.laws.Kinds.{differs_is}
use Rattle.answer.specs.Settle.{unasked_of}
use Rattle.ellipf.specs.Ellipf.{counted_of}
use Rattle.ellipf.proofs.ellipf.Goals as goal

pub returns-then-is_nan : goal.returns-then-is_nan
unfolding counted_of
returns-then-is_nan c =
    let either = ap₂ (λ (a b : Bool). a || b) (differs_is _ ∙ sym c.is_nan.ensures.value) (differs_is _ ∙ sym c.is_nan-2.ensures.value) in
    held _ _ (either ∙ c.if-is_nan.true) c.unasked.ensures

pub returns-then-m : goal.returns-then-m
unfolding counted_of
returns-then-m c =
    let either = ap₂ (λ (a b : Bool). a || b) (differs_is _ ∙ sym c.is_nan.ensures.value) (differs_is _ ∙ sym c.is_nan-2.ensures.value) in
    passed _ _ (either ∙ c.if-is_nan.false) (held _ _ c.if-m.true (c.unasked-then-m.ensures ∙ ap unasked_of c.handed.ensures))

pub returns-then-hides_pole : goal.returns-then-hides_pole
unfolding counted_of
returns-then-hides_pole c =
    let either = ap₂ (λ (a b : Bool). a || b) (differs_is _ ∙ sym c.is_nan.ensures.value) (differs_is _ ∙ sym c.is_nan-2.ensures.value) in
    passed _ _ (either ∙ c.if-is_nan.false) (passed _ _ c.if-m.false (held _ _ (sym c.hides_pole.ensures ∙ c.if-hides_pole.true) c.unasked-then-hides_pole.ensures))

pub returns-then-size : goal.returns-then-size
unfolding counted_of
returns-then-size c =
    let either = ap₂ (λ (a b : Bool). a || b) (differs_is _ ∙ sym c.is_nan.ensures.value) (differs_is _ ∙ sym c.is_nan-2.ensures.value) ∙ c.if-is_nan.false in
    rw (← c.magnitude-size.ensures, ← c.signum-sign.ensures)
    (passed _ _ either (passed _ _ c.if-m.false (passed _ _ (sym c.hides_pole.ensures ∙ c.if-hides_pole.false) (held _ _ c.if-size.true (c.unasked-then-size.ensures ∙ ap unasked_of c.far.ensures)))))

pub returns : goal.returns
unfolding counted_of
returns c =
    let either = ap₂ (λ (a b : Bool). a || b) (differs_is _ ∙ sym c.is_nan.ensures.value) (differs_is _ ∙ sym c.is_nan-2.ensures.value) ∙ c.if-is_nan.false in
    rw (← c.magnitude-size.ensures, ← c.signum-sign.ensures)
    (passed _ _ either (passed _ _ c.if-m.false (passed _ _ (sym c.hides_pole.ensures ∙ c.if-hides_pole.false) (passed _ _ c.if-size.false c.reduced.ensures))))
