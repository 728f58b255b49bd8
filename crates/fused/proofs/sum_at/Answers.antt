-- `sum_at` meets its contract: one sign, or two and either the larger (`Sums`).
use Rattle.std.proofs.Common.{ℕ, ◌-◌, ◌^◌, ◌<◌, ◌≤◌, ltb→lt, nltb→le, sym, ap, ◌∙◌, le_of_eq, lt_of_le_of_lt, le_trans, div-le_self}
use Rattle.laws.specs.laws.Flags.{holds, fails}
use Rattle.bits.specs.Rounded.{rounded_of}
use Rattle.bits.specs.laws.Wide.{room_for, plus_whole}
use Rattle.fused.proofs.Sums.{Placed, like, fits_under, unlike_over, unlike_under}
use Rattle.fused.proofs.sum_at.Goals as goal
use Rattle.fused.proofs.sum_at.Goals.{Start, After-shifted-t, Then-less, Else-less}

a_placed : (c : Start) → Placed c.args.a.digits c.args.a.exponent
a_placed c = let a = c.args.a in record { most = a.most; round = a.zeros; lead = a.leading }

b_placed : (c : Start) → Placed c.args.b.digits c.args.b.exponent
b_placed c = let b = c.args.b in record { most = b.most; round = b.zeros; lead = b.leading }

t_most : (c : After-shifted-t) → c.shifted-t.result.digits < 2 ^ 127
t_most c = let b = c.args.b in lt_of_le_of_lt (le_trans (le_of_eq c.shifted-t.ensures.whole) (div-le_self b.digits (2 ^ (c.args.a.exponent - b.exponent)))) b.most

pub returns-then-a-b : goal.returns-then-a-b
returns-then-a-b c =
    let a = c.args.a in
    let b = c.args.b in
    let t = c.shifted-t in
    c.rounded.ensures
    ∙ ap (λ (n : ℕ). rounded_of a.negative n t.result.more a.exponent) (plus_whole a.digits t.result.digits c.plus.result (room_for a.digits t.result.digits a.most (t_most (goal.at.returns-then-a-b c).After-shifted-t)) c.plus.ensures)
    ∙ like a.digits a.exponent b.digits b.exponent t.result.digits t.result.more (a_placed (goal.at.returns-then-a-b c).Start) (b_placed (goal.at.returns-then-a-b c).Start) c.requires t.ensures a.negative b.negative c.if-a-b.true

smaller : (c : Then-less) → c.args.a.digits < c.shifted-t.result.digits
smaller c = ltb→lt _ _ (holds (sym c.less.ensures ∙ c.if-less.true))

larger : (c : Else-less) → c.shifted-t.result.digits ≤ c.args.a.digits
larger c = nltb→le _ _ (fails (sym c.less.ensures ∙ c.if-less.false))

pub returns-then-less : goal.returns-then-less
returns-then-less c =
    let a = c.args.a in
    let b = c.args.b in
    let t = c.shifted-t in
    c.take.ensures
    ∙ unlike_under a.digits a.exponent b.digits b.exponent t.result.digits t.result.more (a_placed (goal.at.returns-then-less c).Start) (b_placed (goal.at.returns-then-less c).Start) c.requires t.ensures a.negative b.negative c.if-a-b.false (smaller (goal.at.returns-then-less c).Then-less)

pub take-requires-2 : goal.take-requires-2
take-requires-2 c =
    let a = c.args.a in
    let b = c.args.b in
    let t = c.shifted-t in
    fits_under a.digits a.exponent b.digits b.exponent t.result.digits t.result.more (a_placed (goal.at.take-requires-2 c).Start) (b_placed (goal.at.take-requires-2 c).Start) c.requires t.ensures (larger (goal.at.take-requires-2 c).Else-less)

pub returns : goal.returns
returns c =
    let a = c.args.a in
    let b = c.args.b in
    let t = c.shifted-t in
    c.take-2.ensures
    ∙ unlike_over a.digits a.exponent b.digits b.exponent t.result.digits t.result.more (a_placed (goal.at.returns c).Start) (b_placed (goal.at.returns c).Start) c.requires t.ensures a.negative b.negative c.if-a-b.false (larger (goal.at.returns c).Else-less)
