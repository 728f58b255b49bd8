-- RD at the values that Carlson's 1995 paper prints (section 3), by computing. Assumes nothing.
use Rattle.std.specs.Prelude.{◌≡◌, refl, true}
use Rattle.std.specs.Float.Ieee.{of_bits, neg, add, sub, sum, mul, div, lt, le, eq, ne, round}
use Rattle.laws.specs.Arithmetic.{float, +0, 1·0, 2·0, 3·0, 4·0}
use Rattle.root.specs.Root.{root_of}
use Rattle.whole.specs.Whole.{magnitude_of}
use Rattle.carlson.specs.Loop.{iterate, duplicated}
use Rattle.carlson.specs.Series.{larger_of, fifth_of}
use Rattle.rf.specs.Rf.{roots_of}
use Rattle.rd.specs.Rd.{start_of, stops_of, next_of, round_of, closed_of, series_of, rd_of}

pub record Corners : Type 0 where
  -- RD(0, 2, 1) = 1.7972103521034
  pub zero-two-one : rd_of +0 2·0 1·0 ≡ record { value = float 0x3ffc_c15f_a465_1134; met = true; rounds = 6; inside = 0 }
  -- RD(2, 3, 4) = 0.16510527294261
  pub two-three_four : rd_of 2·0 3·0 4·0 ≡ record { value = float 0x3fc5_222b_69d7_c3e7; met = true; rounds = 5; inside = 0 }

pub corners : Corners
unfolding rd_of start_of stops_of next_of round_of closed_of series_of larger_of roots_of fifth_of iterate duplicated root_of magnitude_of of_bits neg add sub sum mul div lt le eq ne round
corners = record { zero-two-one = refl; two-three_four = refl }
