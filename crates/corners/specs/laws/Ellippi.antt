-- 01's corner table, the lines of ellippi, by computing, and where an RC inside RJ is not met (02, [3]). Assumes nothing.
use Rattle.std.specs.Prelude.{◌≡◌, refl, true, false, Ok, Err}
use Rattle.std.specs.Float.Ieee.{of_bits, neg, add, sub, sum, mul, div, lt, le, eq, ne, round}
use Rattle.laws.specs.Arithmetic.{float, ½, 1·0, 2·0}
use Rattle.answer.specs.declared.Answer.TheVariants.{Infinite}
use Rattle.answer.specs.declared.Refusal.TheVariants.{CharacteristicOne, Unmet}
use Rattle.answer.specs.Settle.{settled_of}
use Rattle.root.specs.Root.{root_of}
use Rattle.whole.specs.Whole.{magnitude_of}
use Rattle.carlson.specs.Loop.{iterate, duplicated}
use Rattle.carlson.specs.Series.{larger_of, fifth_of, trusted_of}
use Rattle.rf.specs.Rf.{roots_of}
use Rattle.rc.specs.Rc as Rc
use Rattle.rj.specs.Rj as Rj
use Rattle.ellippi.specs.Ellippi.{weight_of, both_below_of, arms_of, counted_of, ellippi_of}

pub record Corners : Type 0 where
  pub one-one : ellippi_of 1·0 1·0 ≡ Err CharacteristicOne
  pub two-one : ellippi_of 2·0 1·0 ≡ Ok (Infinite true)
  pub half-one : ellippi_of ½ 1·0 ≡ Ok (Infinite false)
  -- (-2^-900, -2^682): RJ stops after 13 rounds, one RC inside it does not within its 64
  pub inner_unmet : counted_of (float 0x87b0_0000_0000_0000) (float 0xea90_0000_0000_0000) ≡ record { answer = Err Unmet; rounds = 77 }

pub corners : Corners
unfolding ellippi_of counted_of arms_of both_below_of weight_of settled_of Rj.rj_of Rj.start_of Rj.stops_of Rj.next_of Rj.round_of Rj.closed_of Rj.series_of Rc.rc_of Rc.start_of Rc.stops_of Rc.round_of Rc.closed_of Rc.series_of larger_of roots_of fifth_of trusted_of iterate duplicated root_of magnitude_of of_bits neg add sub sum mul div lt le eq ne round
corners = record { one-one = refl; two-one = refl; half-one = refl; inner_unmet = refl }
