-- `floor` meets its contract: below 2 ^ 52 by the value's parts, and else it stays (`Wholes`).
use Rattle.std.proofs.Common.{◌≡◌, ℕ, ◌-◌, ◌/◌, ◌^◌, Bool, true, false, cond, sym, ap, ◌∙◌}
use Rattle.laws.specs.laws.Flags.{holds}
use Rattle.whole.specs.laws.Wholes.{picked, far, no_parts}
use Rattle.floor.specs.Floor.{floor_of, ceiling}
use Rattle.floor.specs.laws.Picking.{floor_picks}
use Rattle.floor.proofs.floor.Goals as goal
use Rattle.floor.proofs.floor.Goals.{then-p, else-p}

-- what it picks, by its sign
by_sign : (s t : Bool) (n a c : ℕ) → s ≡ t → n ≡ cond t (ceiling a c) (a / c) → n ≡ cond s (ceiling a c) (a / c)
by_sign s t n a c e h = h ∙ ap (λ (b : Bool). cond b (ceiling a c) (a / c)) (sym e)

pub returns-after-p : goal.returns-after-p
returns-after-p c =
    let p = c.in-Some.p in
    let n : c.if-p.n ≡ cond p.negative (ceiling p.digits (2 ^ (1074 - p.exponent))) (p.digits / 2 ^ (1074 - p.exponent)) =
    elim c.if-p.branch [
      | then-p w ↦ by_sign p.negative true c.if-p.n p.digits (2 ^ (1074 - p.exponent)) w.if-p.true (w.n-is ∙ w.upper-n.ensures.0)
      | else-p w ↦ by_sign p.negative false c.if-p.n p.digits (2 ^ (1074 - p.exponent)) w.if-p.false (w.n-is ∙ w.lower-n.ensures.0)
    ] in
    c.signed.ensures ∙ picked floor_of _ floor_picks c.args.x p.negative p.digits p.exponent c.in-Some.ensures c.if-p-lt1074.true c.if-p.n n

pub returns-in_default : goal.returns-in_default
returns-in_default c = let p = c.in-Some.p in far floor_of _ floor_picks c.args.x p.negative p.digits p.exponent c.in-Some.ensures (holds c.well_formed.0.1) c.if-p-lt1074.false

pub returns-in_default-2 : goal.returns-in_default-2
returns-in_default-2 c = no_parts floor_of _ floor_picks c.args.x c.in_default.ensures
