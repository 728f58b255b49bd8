-- Down 01's list of tests: the i-th return passed the tests before its own.
use Rattle.std.proofs.Common.{sym, ap, ap₂, Bool, ◌||◌, ◌&&◌, ◌∙◌}
use lib.Ieee.{of_bits}
use Rattle.laws.specs.Arithmetic.{◌<·◌, 1·0}
use Rattle.laws.specs.Ladder.{held, passed}
use Rattle.laws.specs.laws.Kinds.{differs_is}
use Rattle.answer.specs.Settle.{unasked_of}
use Rattle.ellipeinc.specs.Ellipeinc.{on_size_of, counted_of}
use Rattle.ellipeinc.specs.declared.Signed.{Signed}
use Rattle.ellipeinc.proofs.ellipeinc.Goals as goal

pub returns-then-phi : goal.returns-then-phi
unfolding counted_of
returns-then-phi c = held _ _ c.if-phi.true c.unasked.ensures

pub returns-then-m : goal.returns-then-m
unfolding counted_of
returns-then-m c =
    passed _ _ c.if-phi.false (held _ _ c.if-m.true (c.unasked-then-m.ensures ∙ ap unasked_of c.itself.ensures))

pub returns-then-a : goal.returns-then-a
unfolding counted_of of_bits
returns-then-a c =
    passed _ _ c.if-phi.false (passed _ _ c.if-m.false (held _ _ (rw c.of-a.ensures at c.if-a.true) c.unasked-then-a.ensures))

pub returns-then-is_nan-m : goal.returns-then-is_nan-m
unfolding counted_of of_bits
returns-then-is_nan-m c =
    let is = differs_is _ ∙ sym c.is_nan.ensures.value in
    passed _ _ c.if-phi.false (passed _ _ c.if-m.false (passed _ _ (rw c.of-a.ensures at c.if-a.false) (held _ _ (ap (λ (b : Bool). b && 1·0 <· c.args.m.0) is ∙ c.if-is_nan-m.true) c.unasked-then-is_nan-m.ensures)))

pub returns-then-is_nan : goal.returns-then-is_nan
unfolding counted_of of_bits
returns-then-is_nan c =
    let is = differs_is _ ∙ sym c.is_nan.ensures.value in
    let either = ap₂ (λ (a b : Bool). a || b) (differs_is _ ∙ sym c.is_nan-2.ensures.value) (differs_is _ ∙ sym c.is_nan-3.ensures.value) in
    passed _ _ c.if-phi.false (passed _ _ c.if-m.false (passed _ _ (rw c.of-a.ensures at c.if-a.false) (passed _ _ (ap (λ (b : Bool). b && 1·0 <· c.args.m.0) is ∙ c.if-is_nan-m.false)
    (held _ _ (either ∙ c.if-is_nan.true) c.unasked-then-is_nan.ensures))))

pub returns-then-m-2 : goal.returns-then-m-2
unfolding counted_of of_bits
returns-then-m-2 c =
    let is = differs_is _ ∙ sym c.is_nan.ensures.value in
    let either = ap₂ (λ (a b : Bool). a || b) (differs_is _ ∙ sym c.is_nan-2.ensures.value) (differs_is _ ∙ sym c.is_nan-3.ensures.value) in
    passed _ _ c.if-phi.false (passed _ _ c.if-m.false (passed _ _ (rw c.of-a.ensures at c.if-a.false) (passed _ _ (ap (λ (b : Bool). b && 1·0 <· c.args.m.0) is ∙ c.if-is_nan-m.false)
    (passed _ _ (either ∙ c.if-is_nan.false) (held _ _ c.if-m-2.true c.unasked-then-m-2.ensures)))))

pub returns : goal.returns
unfolding counted_of of_bits
returns c =
    let is = differs_is _ ∙ sym c.is_nan.ensures.value in
    let either = ap₂ (λ (a b : Bool). a || b) (differs_is _ ∙ sym c.is_nan-2.ensures.value) (differs_is _ ∙ sym c.is_nan-3.ensures.value) in
    passed _ _ c.if-phi.false (passed _ _ c.if-m.false (passed _ _ (rw c.of-a.ensures at c.if-a.false) (passed _ _ (ap (λ (b : Bool). b && 1·0 <· c.args.m.0) is ∙ c.if-is_nan-m.false)
    (passed _ _ (either ∙ c.if-is_nan.false) (passed _ _ c.if-m-2.false (c.on_size.ensures ∙ ap (λ (a : Signed). on_size_of a.sign a.size c.args.m.0) c.of-a.ensures))))))
