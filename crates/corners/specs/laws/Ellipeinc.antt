-- The corner table's lines of ellipeinc (01, with 02's [7]), by computing. Assumes nothing.
use Rattle.std.specs.Prelude.{◌≡◌, refl, true, false, Float, Ok, Err}
use Rattle.std.specs.Float.{nan}
use Rattle.std.specs.Float.Ieee.{of_bits, neg, add, sub, sum, mul, div, rem, lt, le, eq, ne, round, to_unsigned}
use Rattle.laws.specs.Arithmetic.{float, dec, +0, +∞, -∞, ½, 1·0, 2·0}
use Rattle.corners.specs.Most.{most}
use Rattle.answer.specs.Answer.{value_of}
use Rattle.answer.specs.declared.Answer.TheVariants.{One, Infinite}
use Rattle.answer.specs.declared.Refusal.TheVariants.{NotANumber, AboveOne, Beyond}
use Rattle.root.specs.Root.{root_of}
use Rattle.whole.specs.Whole.{magnitude_of, round_of}
use Rattle.angle.specs.Alternating.{square_of, alternating_of, up_to_four}
use Rattle.angle.specs.Sine.{sine_at, sine_of}
use Rattle.angle.specs.Cosine.{cosine_by, cosine_at, cosine_of}
use Rattle.carlson.specs.Loop.{iterate, duplicated}
use Rattle.carlson.specs.Series.{larger_of, fifth_of}
use Rattle.rf.specs.Rf.{roots_of}
use Rattle.rf.specs.Rf as Rf
use Rattle.rd.specs.Rd as Rd
use Rattle.incomplete.specs.Period.{folded_of}
use Rattle.legendre.specs.Domain.{by_domain, below_one_of}
use Rattle.legendre.specs.Ellipe.{e_below_one_of, ellipe_within, ellipe_of}
use Rattle.pieces.specs.Coeffs.{e_rows}
use Rattle.pieces.specs.Piece.{truncated_of, row_of, piece_of, centre_of, e_piece_of}
use Rattle.pieces.specs.Polyeval.{paired_of, horner_of, polyeval_of}
use Rattle.answer.specs.Settle.{handed_of}
use Rattle.ellipeinc.specs.Ellipeinc.{counted_of, ellipeinc_of, on_size_of, reduced_of, by_recipe_of, with_periods_of, recipe_of, above_of, own_of, far_of, itself_of, sign_of}

-- 2^-1000
abbrev pub tiny : Float
tiny = float 0x0170_0000_0000_0000

pub record Corners : Type 0 where
  -- 01's table
  pub zero-nan : ellipeinc_of +0 nan ≡ Ok (One +0)
  pub tiny-bottom : ellipeinc_of tiny -∞ ≡ Ok (Infinite false)
  -- and of [7]: the smallest f64 below zero; an infinite φ with NaN; NaN with m = -∞
  pub least-bottom : ellipeinc_of (float 0x8000_0000_0000_0001) -∞ ≡ Ok (Infinite true)
  pub infinite_nan : ellipeinc_of +∞ nan ≡ Ok (Infinite false)
  pub nan-bottom : ellipeinc_of nan -∞ ≡ Err NotANumber
  -- 2^1023 and the largest f64 have finite answers, and the refusals that others have
  pub large_one : ellipeinc_of (float 0x7fe0_0000_0000_0000) 1·0 ≡ Ok (One (float 0x7fd4_5f30_6dc9_c883))
  pub most-one : ellipeinc_of most 1·0 ≡ Ok (One (float 0x7fe4_5f30_6dc9_c882))
  pub most-half : ellipeinc_of most ½ ≡ Ok (One (float 0x7feb_83dd_0460_8242))
  pub most-zero : ellipeinc_of most +0 ≡ Ok (One most)
  pub most-nan : ellipeinc_of most nan ≡ Err NotANumber
  pub most-two : ellipeinc_of most 2·0 ≡ Err AboveOne
  -- rounds (02, [3]): 3 comes before the recipes; 2 with a period term after them, RF's two rounds and RD's three made: 3.3 is π and more
  pub three_unasked : counted_of 1·0 2·0 ≡ record { answer = Err Beyond; rounds = 0 }
  pub two-after-both : counted_of (float 0x400a_6666_6666_6666) 2·0 ≡ record { answer = Err AboveOne; rounds = 5 }

pub corners : Corners
unfolding ellipeinc_of counted_of on_size_of reduced_of by_recipe_of with_periods_of recipe_of above_of own_of folded_of sine_of sine_at cosine_of cosine_by cosine_at up_to_four square_of alternating_of Rf.rf_of Rf.start_of Rf.stops_of Rf.next_of Rf.round_of Rf.closed_of Rf.series_of Rd.rd_of Rd.start_of Rd.stops_of Rd.next_of Rd.round_of Rd.closed_of Rd.series_of larger_of roots_of fifth_of iterate duplicated root_of round_of far_of itself_of sign_of handed_of value_of magnitude_of ellipe_of ellipe_within by_domain e_below_one_of below_one_of truncated_of row_of piece_of centre_of e_piece_of e_rows polyeval_of paired_of horner_of dec to_unsigned of_bits lt le eq ne add sub sum mul div rem neg round
corners = record { zero-nan = refl; tiny-bottom = refl; least-bottom = refl; infinite_nan = refl; nan-bottom = refl; large_one = refl; most-one = refl; most-half = refl; most-zero = refl; most-nan = refl; most-two = refl; three_unasked = refl; two-after-both = refl }
