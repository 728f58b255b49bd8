-- A row's weight in the total: what the running total's calls make of it. Assumes nothing.
use Rattle.std.specs.Prelude.{◌≡◌, Bool, true, false, cond, ℕ, ◌+◌, ◌-◌, ◌%◌, ◌^◌, ◌<◌, T, eqb}
use Rattle.std.proofs.Common.{ap, ◌∙◌}
use Rattle.std.proofs.Math.Nat.{mod-add-mod}
use Rattle.std.specs.Float.Ieee.{fits}
use Rattle.std.specs.Float.{binary64}
use Rattle.std.specs.Float.Ieee.Bits.{of_bits-fits}
use Rattle.laws.specs.Arithmetic.{+0}
use Rattle.total.specs.Total.{N, units_of, add_of, take_of}
use Rattle.total.specs.laws.Units.{taken-units}
use Rattle.ledger.specs.Sheet.{Row, times_in, first_in, class_of, value_of, size_in, units_in, retotal}

pub value-fits : (w : Row) → T (fits binary64 (value_of w))
unfolding value_of first_in
value-fits w = go (eqb (class_of w) 1)
  where
    go : (b : Bool) → T (fits binary64 (cond b (first_in w) +0))
    go true = of_bits-fits binary64 _
    go false = of_bits-fits binary64 0

-- the old row's value taken away as often as it was driven, and then the new one's added
pub retotal_is : (t : ℕ) (o n : Row) → times_in o < 2 ^ 16 → add_of (take_of t (times_in o) (value_of o)) (times_in n) (value_of n) ≡ retotal t o n
unfolding add_of retotal units_in size_in units_of
retotal_is t o n h =
    let u = units_of (times_in o) (value_of o) in
    let v = units_of (times_in n) (value_of n) in
    ap (λ (k : ℕ). (k + v) % N) (taken-units t (times_in o) (value_of o) h (value-fits o)) ∙ mod-add-mod (t + (N - u)) N v
