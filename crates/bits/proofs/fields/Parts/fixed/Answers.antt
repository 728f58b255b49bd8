-- `fixed` meets its contract: one law of units for each way (`Units`).
use Rattle.std.proofs.Common.{◌≡◌, ℕ, ◌+◌, ◌-◌, ◌/◌, ◌^◌, ◌≤◌, ap, ◌∙◌, arith}
use Rattle.bits.specs.laws.Units.{moved_up, moved_down, moved_out}
use Rattle.bits.proofs.fields.Parts.fixed.Goals as goal

whole : (f : ℕ) → f ≤ 1074 → 1074 - f + f ≡ 1074
whole f h = omega arith

pub returns-then-self-unit : goal.returns-then-self-unit
returns-then-self-unit c =
    let a = c.args in
    let p = a.self in
    let h = c.if-self-unit.true in
    moved_up a.places (1074 - a.places) (whole a.places c.requires.0) p.digits p.exponent p.digits_fit h (omega (arith, c.requires, h))

pub returns-then-below-lt64 : goal.returns-then-below-lt64
returns-then-below-lt64 c =
    let a = c.args in
    let p = a.self in
    ap (λ (j : ℕ). p.digits / 2 ^ j) (omega arith) ∙ moved_down a.places (1074 - a.places) (whole a.places c.requires.0) p.digits p.exponent p.digits_fit c.if-self-unit.false

pub returns-else-below-lt64 : goal.returns-else-below-lt64
returns-else-below-lt64 c =
    let a = c.args in
    let p = a.self in
    let h = c.if-below-lt64.false in
    let g = c.if-self-unit.false in
    moved_out a.places (1074 - a.places) (whole a.places c.requires.0) p.digits p.exponent p.digits_fit (omega (arith, h, g))
