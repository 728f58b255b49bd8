-- A row is found, or none.
use Rattle.std.proofs.Common.{refl}
use Rattle.inspection.specs.laws.Rejected.{row_rejected, none_rejected}
use Rattle.difference.specs.Difference.{rejected_of}
use Rattle.difference.proofs.rows_taken.Goals as goal

pub returns-in-Some : goal.returns-in-Some
unfolding rejected_of
returns-in-Some c = let f = row_rejected c.args.sheet.now _ c.first_rejected.ensures _ c.in-Some.is in rw (f.1, f.0) refl

pub returns-in-None : goal.returns-in-None
unfolding rejected_of
returns-in-None c = rw (none_rejected c.args.sheet.now _ c.first_rejected.ensures c.requires c.in-None.is) refl
