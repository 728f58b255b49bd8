-- `scaled` meets its contract: a parted at 2^59 (`Places`).
use mathlib.Core.Path.{ap, ◌∙◌}
use Prim.Native.Nat.{ℕ, ◌+◌, ◌*◌, ◌/◌, ◌^◌}
use native.Mathlib.Nat.{le_trans, le_of_eq, le-add_right, div-lt_iff_lt-mul}
use mir.Facts.{Fits-le}
use lib.Pow.{pow_pos}
use Rattle.angle.proofs.Places.{parted}
use Rattle.angle.proofs.series.scaled.Goals as goal

pub overflow_mul-result : goal.overflow_mul-result
overflow_mul-result c = Fits-le (le_trans (le-add_right _ _) (le_of_eq (parted c.args.a c.args.b))) (record { fits = (div-lt_iff_lt-mul (pow_pos 59)).1 c.requires })

pub returns : goal.returns
returns c = ap (λ (x : ℕ). c.args.a / 2 ^ 59 * c.args.b + x) c.upper.ensures ∙ parted c.args.a c.args.b

pub overflow_add-result : goal.overflow_add-result
overflow_add-result c = Fits-le (le_of_eq (returns c)) (record { fits = (div-lt_iff_lt-mul (pow_pos 59)).1 c.requires })
