-- The file can't be read, or its bytes are looked at.
use Rattle.std.proofs.Common.{refl}
use Rattle.writing.specs.Writing.{unread, was_read}
use Rattle.writing.proofs.write_file.Goals as goal

pub returns-in_default : goal.returns-in_default
returns-in_default c = record { text = _; shown = unread c.in_default.ensures.load refl; wrote = c.unread.ensures }

pub returns : goal.returns
returns c = record { text = _; shown = was_read c.in-Some.ensures.load refl; wrote = c.write.ensures }
