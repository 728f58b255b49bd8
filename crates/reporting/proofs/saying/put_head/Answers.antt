-- By what keeps it out.
use Rattle.std.proofs.Common.{◌≡◌, refl}
use Rattle.month.specs.declared.parts.Stop.{Stop}
use Rattle.month.specs.declared.parts.Stop.TheVariants.{NotASheet, Damaged}
use Rattle.month.specs.Month.{number_of, row_of}
use Rattle.monthly.specs.Monthly.{stop_text}
use Rattle.reporting.specs.declared.parts.Apart.TheVariants.{Stopped}
use Rattle.reporting.specs.Reporting.{head_of}
use Rattle.reporting.proofs.saying.put_head.Goals as goal

stopped : (s : Stop) → head_of (Stopped s) ≡ stop_text (number_of s) (row_of s)
unfolding head_of
stopped NotASheet = refl
stopped (Damaged i) = refl

pub returns-in-Unread : goal.returns-in-Unread
unfolding head_of
returns-in-Unread c = rw c.in-Unread.is c.put_unread.ensures

pub returns-in-Stopped : goal.returns-in-Stopped
returns-in-Stopped c = rw (c.in-Stopped.is, stopped c.in-Stopped.stop, ← c.number.ensures, ← c.row.ensures) c.put_stop.ensures
