-- The file can not be read, or its bytes are looked at.
use Rattle.fixing.specs.Fixed.{unread}
use Rattle.fixing.proofs.fix.Goals as goal

pub returns-in_default : goal.returns-in_default
returns-in_default c = unread c.cannot_read-out.result c.in_default.ensures.load (rw c.begin.ensures at c.cannot_read-out.ensures)
