-- `signed` meets its contract.
use Rattle.whole.specs.laws.Wholes.{in_float_lem, signed-neg, signed_pos}
use Rattle.whole.proofs.signed.Goals as goal

pub int_to_float-y : goal.int_to_float-y
int_to_float-y c = in_float_lem c.args.n c.requires

pub returns-then-negative : goal.returns-then-negative
returns-then-negative c = signed-neg c.args.negative c.args.n c.if-negative.true

pub returns-else-negative : goal.returns-else-negative
returns-else-negative c = signed_pos c.args.negative c.args.n c.if-negative.false
