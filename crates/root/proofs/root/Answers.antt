-- `root` meets its contract, from what its parts ensure.
use Rattle.root.proofs.root.Goals as goal

pub returns-in-Some : goal.returns-in-Some
returns-in-Some c = c.made_ready-r.ensures.known c.in-Some.value c.in-Some.is

pub returns-in-None : goal.returns-in-None
returns-in-None c = c.finished.ensures c.args.x c.made_ready-r.ensures
