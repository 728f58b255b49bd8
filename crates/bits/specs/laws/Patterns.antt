-- Every f64 has a pattern. Assumes nothing.
use Rattle.std.specs.Prelude.{◌≡◌, T, from_bits, to_bits, Float}
use Rattle.std.specs.Float.{binary64}
use Rattle.std.specs.Float.Ieee.{fits}
use Rattle.std.specs.Float.Ieee.Bits.{of_bits-to_bits}

-- every f64 comes back from its pattern
pub value_back : (x : Float) → T (fits binary64 x) → from_bits binary64 (to_bits binary64 x) ≡ x
value_back x h = of_bits-to_bits binary64 x h
