-- The arc tangent of 0, 1, +∞ and the smallest f64. Assumes nothing.
use Rattle.std.specs.Prelude.{◌≡◌, refl, false, Ok}
use Rattle.std.specs.Float.{inf, binary64}
use Rattle.std.specs.Float.Ieee.{round, of_bits}
use Rattle.laws.specs.Arithmetic.{+0, 1·0}
use Rattle.answer.specs.declared.Answer.TheVariants.{One}
use Rattle.arctangent.specs.Sums.{run_of}
use Rattle.arctangent.specs.Arctangent.{factor_of, sum_of, next_to, sides_at, arctangent_at, arctangent_of}

pub of_zero : arctangent_of +0 ≡ Ok (One +0)
unfolding arctangent_of arctangent_at sides_at next_to sum_of factor_of run_of round of_bits
of_zero = refl

-- π / 4
pub of_one : arctangent_of 1·0 ≡ Ok (One (of_bits binary64 0x3fe921fb54442d18))
unfolding arctangent_of arctangent_at sides_at next_to sum_of factor_of run_of round of_bits
of_one = refl

-- π / 2
pub of_infinity : arctangent_of (inf false) ≡ Ok (One (of_bits binary64 0x3ff921fb54442d18))
unfolding arctangent_of round of_bits
of_infinity = refl

pub of_smallest : arctangent_of (of_bits binary64 1) ≡ Ok (One (of_bits binary64 1))
unfolding arctangent_of arctangent_at sides_at next_to sum_of factor_of run_of round of_bits
of_smallest = refl
