-- RC at the values that Carlson's 1995 paper prints (section 3), by computing. Assumes nothing.
use Rattle.std.specs.Prelude.{◌≡◌, refl, true}
use Rattle.std.specs.Float.Ieee.{of_bits, neg, add, sub, sum, mul, div, lt, le, eq, ne, round}
use Rattle.laws.specs.Arithmetic.{float, +0, π, 2·0}
use Rattle.root.specs.Root.{root_of}
use Rattle.whole.specs.Whole.{magnitude_of}
use Rattle.carlson.specs.Loop.{iterate, duplicated}
use Rattle.carlson.specs.Series.{larger_of}
use Rattle.rc.specs.Rc.{start_of, stops_of, round_of, closed_of, series_of, rc_of}

pub record Corners : Type 0 where
  -- RC(0, 1/4) = π = 3.1415926535898
  pub zero-quarter : rc_of +0 (float 0x3fd0_0000_0000_0000) ≡ record { value = π; met = true; rounds = 4; inside = 0 }
  -- RC(9/4, 2) = log 2 = 0.69314718055995; its f64 is 0x3fe6_2e42_fefa_39ef
  pub nine_quarters_two : rc_of (float 0x4002_0000_0000_0000) 2·0 ≡ record { value = float 0x3fe6_2e42_fefa_39ee; met = true; rounds = 2; inside = 0 }

pub corners : Corners
unfolding rc_of start_of stops_of round_of closed_of series_of larger_of iterate duplicated root_of magnitude_of of_bits neg add sub sum mul div lt le eq ne round
corners = record { zero-quarter = refl; nine_quarters_two = refl }
