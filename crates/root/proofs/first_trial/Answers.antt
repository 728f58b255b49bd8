-- `first_trial` meets its contract (`Trials`).
use Rattle.root.proofs.Trials.{first}
use Rattle.root.proofs.first_trial.Goals as goal

pub returns : goal.returns
returns c = first c.args.r.digits c.args.r.least c.args.r.most
