-- `made_ready` meets its contract: each kind of value has its own case (`Values`).
use Rattle.std.proofs.Common.{◌*◌, ◌^◌, T, sym, ap, ◌∙◌}
use lib.Ieee.{of_bits}
use lib.Ieee.Positive.{positive}
use Rattle.bits.specs.Parts.{Decoded}
use Rattle.root.specs.Root.{round_root}
use Rattle.root.specs.laws.Meaning.{root_at}
use Rattle.root.proofs.Values.{root_negative, root_infinite, root_self, is_positive, some_digits}
use Rattle.root.proofs.made_ready.Goals as goal
use Rattle.root.proofs.made_ready.Goals.{In-Some}

decoded : (c : In-Some) → Decoded c.args.x c.in-Some.p.negative c.in-Some.p.digits c.in-Some.p.exponent
decoded c = let p = c.in-Some.ensures in p.decoded (sym p.kind)

above : (c : In-Some) → T (positive c.args.x)
unfolding of_bits
above c = is_positive c.args.x c.if-x.true (sym c.in-Some.ensures.kind)

pub aligned-requires : goal.aligned-requires
aligned-requires c =
    let p = c.in-Some.p in
    let d = decoded (goal.at.aligned-requires c).In-Some in
    some_digits c.args.x p.negative p.digits p.exponent (above (goal.at.aligned-requires c).In-Some) d.value

pub returns-then-x : goal.returns-then-x
returns-then-x c =
    let p = c.in-Some.p in
    let a = c.aligned.ensures in
    let e = ap round_root a.same ∙ sym (root_at c.args.x p.negative (p.digits * 2 ^ p.exponent) (above (goal.at.returns-then-x c).In-Some) (decoded (goal.at.returns-then-x c).In-Some).value) in
    record { sized = a.sized; worked = (λ h. e); known = (λ v h. absurd (cc)) }

pub returns-in_default : goal.returns-in_default
unfolding of_bits
returns-in_default c =
    let x = c.args.x in
    c.settled.ensures x (root_infinite x c.if-x.true (sym c.in_default.ensures.kind))

pub returns-then-x-2 : goal.returns-then-x-2
unfolding of_bits
returns-then-x-2 c =
    let x = c.args.x in
    c.settled-then-x-2.ensures x (c.from_pattern.ensures ∙ root_negative x c.if-x-2.true)

pub returns : goal.returns
unfolding of_bits
returns c =
    let x = c.args.x in
    c.settled-2.ensures x (root_self x c.if-x.false c.if-x-2.false)
