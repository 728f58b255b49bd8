-- RJ at the values that Carlson's 1995 paper prints (section 3), by computing. Assumes nothing.
use Rattle.std.specs.Prelude.{◌≡◌, refl, true}
use Rattle.std.specs.Float.Ieee.{of_bits, neg, add, sub, sum, mul, div, lt, le, eq, ne, round}
use Rattle.laws.specs.Arithmetic.{float, +0, 1·0, 2·0, 3·0, 4·0, 5·0}
use Rattle.root.specs.Root.{root_of}
use Rattle.whole.specs.Whole.{magnitude_of}
use Rattle.carlson.specs.Loop.{iterate, duplicated}
use Rattle.carlson.specs.Series.{larger_of, fifth_of, trusted_of}
use Rattle.rf.specs.Rf.{roots_of}
use Rattle.rc.specs.Rc as Rc
use Rattle.rj.specs.Rj.{start_of, stops_of, next_of, round_of, closed_of, series_of, rj_of}

pub record Corners : Type 0 where
  -- RJ(0, 1, 2, 3) = 0.77688623778582
  pub zero-one-two-three : rj_of +0 1·0 2·0 3·0 ≡ record { value = float 0x3fe8_dc40_8700_1538; met = true; rounds = 6; inside = 1 }
  -- RJ(2, 3, 4, 5) = 0.14297579667157
  pub two-three_four_five : rj_of 2·0 3·0 4·0 5·0 ≡ record { value = float 0x3fc2_4d07_e969_767a; met = true; rounds = 5; inside = 0 }

pub corners : Corners
unfolding rj_of start_of stops_of next_of round_of closed_of series_of Rc.rc_of Rc.start_of Rc.stops_of Rc.round_of Rc.closed_of Rc.series_of larger_of roots_of fifth_of trusted_of iterate duplicated root_of magnitude_of of_bits neg add sub sum mul div lt le eq ne round
corners = record { zero-one-two-three = refl; two-three_four_five = refl }
