-- `square` meets its contract: |x| ≤ 4 keeps the product within 128 places.
use mathlib.Core.Path.{sym, ap, ◌∙◌, subst}
use Prim.Native.Nat.{ℕ, ◌*◌, ◌/◌, ◌^◌, ◌≤◌}
use native.Mathlib.Nat.{mul-le-mul, lt_of_le_of_lt}
use lib.Dec.{lit<}
use lib.Pow.{pow_pos}
use Rattle.angle.specs.Alternating.{square_of}
use Rattle.angle.proofs.Angles.{x_le}
use Rattle.angle.proofs.argument.square.Goals as goal

pub scaled-requires : goal.scaled-requires
scaled-requires c =
    let l = subst (λ (x : ℕ). x ≤ 2 ^ 61) (sym c.fixed-x.ensures) (x_le (c.args.p.digits * 2 ^ c.args.p.exponent) (2 ^ 1074) (pow_pos 1074) c.requires.1) in
    lt_of_le_of_lt (mul-le-mul l l) (lit< tt)

pub returns : goal.returns
unfolding square_of
returns c = c.scaled.ensures ∙ ap (λ (x : ℕ). x * x / 2 ^ 59) c.fixed-x.ensures
