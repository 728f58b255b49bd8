-- No text, too long a folder, or what comes of the new file.
use Rattle.files.specs.Save.{no_text, long}
use Rattle.files.proofs.saving.save.Goals as goal

pub returns-in_default : goal.returns-in_default
returns-in_default c = no_text c.in_default.ensures.cases.0

pub returns-in_default-put_new : goal.returns-in_default-put_new
returns-in_default-put_new c = long c.in_default-put_new.ensures
