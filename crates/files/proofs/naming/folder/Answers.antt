-- The last '/', or none.
use Rattle.std.proofs.Common.{rules}
use Rattle.files.proofs.NewName.{folder_at, folder_nowhere}
use Rattle.files.proofs.naming.folder.Goals as goal

pub returns-in-Some : goal.returns-in-Some
returns-in-Some c = folder_at c.args.name.now c.in-Some.last (search rules) (search rules) (search rules)

pub returns-in-None : goal.returns-in-None
returns-in-None c = folder_nowhere c.args.name.now (search rules)
