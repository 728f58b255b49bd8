-- Down 01's list of tests: the i-th return passed the tests before its own.
use Rattle.std.proofs.Common.{sym, ap₂, Bool, ◌||◌, ◌∙◌}
use lib.Ieee.{of_bits}
use Rattle.laws.specs.Ladder.{held, passed}
use Rattle.laws.specs.laws.Kinds.{differs_is}
use Rattle.ellippi.specs.Ellippi.{counted_of}
use Rattle.ellippi.proofs.ellippi.Goals as goal

pub returns-then-is_nan : goal.returns-then-is_nan
unfolding counted_of
returns-then-is_nan c =
    held _ _ (ap₂ (λ (a b : Bool). a || b) (differs_is _ ∙ sym c.is_nan.ensures.value) (differs_is _ ∙ sym c.is_nan-2.ensures.value) ∙ c.if-is_nan.true) c.unasked.ensures

pub returns-then-m : goal.returns-then-m
unfolding counted_of
returns-then-m c =
    passed _ _ (ap₂ (λ (a b : Bool). a || b) (differs_is _ ∙ sym c.is_nan.ensures.value) (differs_is _ ∙ sym c.is_nan-2.ensures.value) ∙ c.if-is_nan.false) (held _ _ c.if-m.true c.unasked-then-m.ensures)

pub returns-then-n : goal.returns-then-n
unfolding counted_of
returns-then-n c =
    passed _ _ (ap₂ (λ (a b : Bool). a || b) (differs_is _ ∙ sym c.is_nan.ensures.value) (differs_is _ ∙ sym c.is_nan-2.ensures.value) ∙ c.if-is_nan.false) (passed _ _ c.if-m.false (held _ _ c.if-n.true c.unasked-then-n.ensures))

pub returns-then-m-2 : goal.returns-then-m-2
unfolding counted_of
returns-then-m-2 c =
    passed _ _ (ap₂ (λ (a b : Bool). a || b) (differs_is _ ∙ sym c.is_nan.ensures.value) (differs_is _ ∙ sym c.is_nan-2.ensures.value) ∙ c.if-is_nan.false) (passed _ _ c.if-m.false (passed _ _ c.if-n.false (held _ _ c.if-m-2.true c.unasked-then-m-2.ensures)))

pub returns-then-n-m : goal.returns-then-n-m
unfolding counted_of of_bits
returns-then-n-m c =
    passed _ _ (ap₂ (λ (a b : Bool). a || b) (differs_is _ ∙ sym c.is_nan.ensures.value) (differs_is _ ∙ sym c.is_nan-2.ensures.value) ∙ c.if-is_nan.false) (passed _ _ c.if-m.false (passed _ _ c.if-n.false (passed _ _ c.if-m-2.false (held _ _ c.if-n-m.true c.unasked-then-n-m.ensures))))

pub returns : goal.returns
unfolding counted_of of_bits
returns c =
    passed _ _ (ap₂ (λ (a b : Bool). a || b) (differs_is _ ∙ sym c.is_nan.ensures.value) (differs_is _ ∙ sym c.is_nan-2.ensures.value) ∙ c.if-is_nan.false) (passed _ _ c.if-m.false (passed _ _ c.if-n.false (passed _ _ c.if-m-2.false (passed _ _ c.if-n-m.false (rw (← c.arms-t.ensures, c.settled.ensures))))))
