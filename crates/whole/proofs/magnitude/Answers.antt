-- `magnitude` meets its contract: without the sign's bit a pattern is that of the magnitude.
use lib.Dec.{T}
use lib.Ieee.{binary64, fits}
use Rattle.laws.specs.laws.Flags.{holds}
use Rattle.laws.specs.laws.Kinds.{nan_of_lem, not-nan}
use Rattle.whole.proofs.Fractions.{magnitude_nan, magnitude_masked, masked_no_nan}
use Rattle.whole.proofs.magnitude.Goals as goal
use Rattle.whole.proofs.magnitude.Goals.{Start}

held : (c : Start) → T (fits binary64 c.args.x)
held c = holds c.well_formed.0.1

pub returns-then-x : goal.returns-then-x
returns-then-x c = let x = c.args.x in magnitude_nan x (nan_of_lem x c.if-x.true)

pub float_to_bits-result : goal.float_to_bits-result
float_to_bits-result c = not-nan c.args.x c.if-x.false

pub float_from_bits-result : goal.float_from_bits-result
float_from_bits-result c = let x = c.args.x in masked_no_nan x (held (goal.at.float_from_bits-result c).Start) (not-nan x c.if-x.false)

pub returns : goal.returns
returns c = let x = c.args.x in magnitude_masked x (held (goal.at.returns c).Start) (not-nan x c.if-x.false)
