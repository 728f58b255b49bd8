-- `smaller` meets its contract (`Values`).
use Rattle.remainder.proofs.Values.{tests}
use Rattle.remainder.proofs.smaller.Goals as goal

pub returns : goal.returns
returns c = tests c.args.x c.args.y
