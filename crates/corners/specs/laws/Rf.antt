-- RF at the values that Carlson's 1995 paper prints (section 3), by computing. Assumes nothing.
use Rattle.std.specs.Prelude.{◌≡◌, refl, true}
use Rattle.std.specs.Float.Ieee.{of_bits, neg, add, sub, sum, mul, div, lt, le, eq, ne, round}
use Rattle.laws.specs.Arithmetic.{float, +0, 1·0, 2·0, 3·0, 4·0}
use Rattle.root.specs.Root.{root_of}
use Rattle.whole.specs.Whole.{magnitude_of}
use Rattle.carlson.specs.Loop.{iterate, duplicated}
use Rattle.carlson.specs.Series.{larger_of}
use Rattle.rf.specs.Rf.{start_of, stops_of, next_of, round_of, closed_of, series_of, rf_of}

pub record Corners : Type 0 where
  -- RF(1, 2, 0) = 1.3110287771461
  pub one-two-zero : rf_of 1·0 2·0 +0 ≡ record { value = float 0x3ff4_f9f9_4f9f_50b1; met = true; rounds = 5; inside = 0 }
  -- RF(2, 3, 4) = 0.58408284167715
  pub two-three_four : rf_of 2·0 3·0 4·0 ≡ record { value = float 0x3fe2_b0ce_7fe5_0f42; met = true; rounds = 4; inside = 0 }

pub corners : Corners
unfolding rf_of start_of stops_of next_of round_of closed_of series_of larger_of iterate duplicated root_of magnitude_of of_bits neg add sub sum mul div lt le eq ne round
corners = record { one-two-zero = refl; two-three_four = refl }
