-- `to_pattern` meets its contract.
use Rattle.std.proofs.Common.{sym, ap}
use lib.Ieee.{binary64, to_bits}
use Rattle.laws.specs.laws.Kinds.{nan_of_lem, not-nan}
use Rattle.bits.proofs.pattern.to_pattern.Goals as goal

pub returns-then-x : goal.returns-then-x
unfolding to_bits
returns-then-x c = sym (ap (to_bits binary64) (nan_of_lem c.args.x c.if-x.true))

pub float_to_bits-result : goal.float_to_bits-result
float_to_bits-result c = not-nan c.args.x c.if-x.false
