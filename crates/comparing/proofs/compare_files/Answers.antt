-- One of the files can't be read, or both are compared.
use Rattle.std.proofs.Common.{refl}
use Rattle.comparing.specs.Comparing.{old_unread, new_unread, both_read}
use Rattle.comparing.proofs.compare_files.Goals as goal

pub returns-in_default : goal.returns-in_default
returns-in_default c = record { text = _; compared = old_unread c.in_default.ensures.load refl; wrote = c.unread.ensures }

pub returns-in_default-after : goal.returns-in_default-after
returns-in_default-after c = record { text = _; compared = new_unread c.in-Some.ensures.load c.in_default-after.ensures.load refl; wrote = c.unread-in_default-after.ensures }

pub returns : goal.returns
returns c = record { text = _; compared = both_read c.in-Some.ensures.load c.in-Some-after.ensures.load refl; wrote = c.compare.ensures }
