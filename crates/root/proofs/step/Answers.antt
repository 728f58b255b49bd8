-- `step` meets its contract: both choices are by the borrow (`Trials`).
use Rattle.std.proofs.Common.{ℕ, ◌*◌, ◌%◌, ◌^◌, ◌<◌, sym, subst, inl, inr, rules}
use Rattle.root.specs.Steps.{Tried}
use Rattle.root.proofs.Trials.{digit}
use Rattle.root.proofs.step.Goals as goal
use Rattle.root.proofs.step.Goals.{After-wrapping_sub_u64-left, then-borrow-eq1, else-borrow-eq1, then-borrow-eq1-2, else-borrow-eq1-2}

left-fits : (c : After-wrapping_sub_u64-left) → c.wrapping_sub_u64-left.result < 2 ^ 64
left-fits c = search rules

pub returns : goal.returns
returns c n s t v =
    let a = c.args in
    let d =
    digit n s a.p.rest a.p.next t a.m.up a.m.down v c.wrapping_sub_u64-left.result c.if-borrow-eq1.rest c.if-borrow-eq1-2.more (left-fits (goal.at.returns c).After-wrapping_sub_u64-left) c.wrapping_sub_u64-left.ensures.value
    (elim c.if-borrow-eq1.branch [ then-borrow-eq1 x ↦ inl (x.if-borrow-eq1.true, x.rest-is) | else-borrow-eq1 x ↦ inr (x.if-borrow-eq1.false, x.rest-is) ])
    (elim c.if-borrow-eq1-2.branch [ then-borrow-eq1-2 x ↦ inl (x.if-borrow-eq1-2.true, x.more-is) | else-borrow-eq1-2 x ↦ inr (x.if-borrow-eq1-2.false, x.more-is) ]) in
    subst (λ (x : ℕ). Tried n s (c.if-borrow-eq1.rest * 2 ^ 1 % 2 ^ 64) x) (sym c.wrapping_add_u64.ensures.value) d
