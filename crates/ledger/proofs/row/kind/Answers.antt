-- Test by test.
use Rattle.std.proofs.Common.{ap}
use lib.Ieee.{nan_bits}
use Rattle.ledger.specs.Class.{class_at}
use Rattle.ledger.proofs.Shares.{kind_nan, kind_plus, kind_minus, kind_finite}
use Rattle.ledger.proofs.row.kind.Goals as goal

pub returns-then-x : goal.returns-then-x
unfolding class_at
returns-then-x c = ap class_at (kind_nan c.args.x c.if-x.true)

pub float_from_bits-t-3 : goal.float_from_bits-t-3
unfolding nan_bits
float_from_bits-t-3 c = tt

pub returns-then-x-2 : goal.returns-then-x-2
unfolding class_at
returns-then-x-2 c = ap class_at (kind_plus c.args.x c.if-x-2.true)

pub float_from_bits-t-3-2 : goal.float_from_bits-t-3-2
unfolding nan_bits
float_from_bits-t-3-2 c = tt

pub returns-then-x-3 : goal.returns-then-x-3
unfolding class_at
returns-then-x-3 c = ap class_at (kind_minus c.args.x c.if-x-3.true)

pub returns : goal.returns
unfolding class_at
returns c = ap class_at (kind_finite c.args.x c.if-x.false c.if-x-2.false c.if-x-3.false)
