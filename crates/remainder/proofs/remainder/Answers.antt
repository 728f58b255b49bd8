-- `remainder` meets its contract: each kind of case has its own law, and lib.Ieee's remainder is the same (`Values`).
use Rattle.std.proofs.Common.{◌≡◌, false, T, sym, ◌∙◌}
use lib.Ieee.{binary64, of_bits, div, fits}
use Rattle.laws.specs.laws.Flags.{holds}
use Rattle.bits.specs.laws.Found.{found, none_found}
use Rattle.remainder.specs.Steps.{within}
use Rattle.remainder.proofs.Values.{small, exponents, by_digits, no-x, no-y, no_digits, and_ours, and_theirs}
use Rattle.remainder.proofs.remainder.Goals as goal
use Rattle.remainder.proofs.remainder.Goals.{Else-smaller, Start, in_default-via-in-Some-Some+else-b-gt0, in_default-via-in-Some+in_default, in_default-via-in_default}

x_fits : (c : Start) → T (fits binary64 c.args.x)
x_fits c = holds c.well_formed.0.1

y-fits : (c : Start) → T (fits binary64 c.args.y)
y-fits c = holds c.well_formed.1.0.1

pub returns-then-smaller : goal.returns-then-smaller
returns-then-smaller c =
    let x = c.args.x in
    let y = c.args.y in
    and_ours x y x (x_fits (goal.at.returns-then-smaller c).Start) (y-fits (goal.at.returns-then-smaller c).Start) (small x y (x_fits (goal.at.returns-then-smaller c).Start) (sym c.smaller.ensures ∙ c.if-smaller.true))

-- where |x| is not below |y|
apart : (c : Else-smaller) → within c.args.x c.args.y ≡ false
apart c = sym c.smaller.ensures ∙ c.if-smaller.false

pub remainder_of-requires : goal.remainder_of-requires
remainder_of-requires c =
    let s = c.in-Some-Some in
    (c.if-b-gt0.true, exponents c.args.x c.args.y s.a s.b (found c.args.x _ s.a s.is-0 c.parts.ensures) (found c.args.y _ s.b s.is-1 c.parts-2.ensures) (apart (goal.at.remainder_of-requires c).Else-smaller))

pub returns-in-Some-Some : goal.returns-in-Some-Some
returns-in-Some-Some c =
    let s = c.in-Some-Some in
    and_theirs c.args.x c.args.y c.remainder_of.result (x_fits (goal.at.returns-in-Some-Some c).Start) (y-fits (goal.at.returns-in-Some-Some c).Start)
    (c.remainder_of.ensures ∙ by_digits c.args.x c.args.y s.a s.b (found c.args.x _ s.a s.is-0 c.parts.ensures) (found c.args.y _ s.b s.is-1 c.parts-2.ensures) c.if-b-gt0.true)

pub returns-in_default : goal.returns-in_default
unfolding of_bits div
returns-in_default c =
    let x = c.args.x in
    let y = c.args.y in
    let w = apart (goal.at.returns-in_default c).Else-smaller in
    and_theirs x y _ (x_fits (goal.at.returns-in_default c).Start) (y-fits (goal.at.returns-in_default c).Start)
    (elim c.in_default.branch [
      | in_default-via-in-Some-Some+else-b-gt0 v ↦ let b = v.in-Some-Some.b in no_digits x y b.negative b.digits b.exponent (found y _ b v.in-Some-Some.is-1 c.parts-2.ensures) v.if-b-gt0.false w
      | in_default-via-in-Some+in_default v ↦ no-y x y (none_found y _ v.in_default.is-1 c.parts-2.ensures) w
      | in_default-via-in_default v ↦ no-x x y (none_found x _ v.in_default.is-0 c.parts.ensures)
    ])
