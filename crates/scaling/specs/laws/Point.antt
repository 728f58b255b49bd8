-- The law of Scaled speaks of something: at (1, 1, 129/128) and at four times that, one round is made, and no digit is lost. Assumes nothing.
use Rattle.std.specs.Prelude.{Float}
use Rattle.std.specs.Float.Ieee.{add, sub, sum, mul, div, neg, lt, of_bits, round}
use Rattle.laws.specs.Arithmetic.{◌⊗◌, float, 1·0, 4·0}
use Rattle.root.specs.Root.{root_of}
use Rattle.whole.specs.Whole.{magnitude_of}
use Rattle.carlson.specs.Series.{larger_of}
use Rattle.scaling.specs.ClearRuns.{ClearRun}
use Rattle.rf.specs.Rf.{start_of, stops_of, next_of, round_of, series_of}
use Rattle.scaling.specs.RfClear.{ClearRf}

abbrev z : Float
z = float 0x3ff0_2000_0000_0000

pub clear_points : ClearRf 1·0 1·0 z × ClearRf (4·0 ⊗ 1·0) (4·0 ⊗ 1·0) (4·0 ⊗ z)
unfolding ClearRun start_of stops_of next_of round_of series_of larger_of magnitude_of root_of add sub sum mul div neg lt round of_bits
clear_points = (
  record {
    start = search;
    run = (
      record { quarters = record { spread = record { root_x = tt; root_y = tt; root_z = tt; xy = tt; yz = tt; zx = tt; two = tt; three = tt }; x_next = record { sum = tt; quotient = tt }; y_next = record { sum = tt; quotient = tt }; z_next = record { sum = tt; quotient = tt }; mean_next = record { sum = tt; quotient = tt }; distance_next = tt }; test = tt },
      record { offsets = record { dx = tt; dy = tt; some = tt }; series = tt; root = tt; value = tt; test = tt },
    );
  },
  record {
    start = search;
    run = (
      record { quarters = record { spread = record { root_x = tt; root_y = tt; root_z = tt; xy = tt; yz = tt; zx = tt; two = tt; three = tt }; x_next = record { sum = tt; quotient = tt }; y_next = record { sum = tt; quotient = tt }; z_next = record { sum = tt; quotient = tt }; mean_next = record { sum = tt; quotient = tt }; distance_next = tt }; test = tt },
      record { offsets = record { dx = tt; dy = tt; some = tt }; series = tt; root = tt; value = tt; test = tt },
    );
  },
)
