-- By cases.
use Rattle.std.proofs.Common.{◌≡◌, refl, arith}
use denote.Enum.Declared.{tag_of}
use Rattle.ledger.specs.contracts.row.Class.{the_type}
use Rattle.ledger.specs.declared.row.Class.{Class}
use Rattle.ledger.specs.declared.row.Class.TheVariants.{Blank, Finite, PlusInfinity, MinusInfinity, Refused}
use Rattle.ledger.specs.Class.{number_of, class_number}
use Rattle.inspection.proofs.class_number.Goals as goal

tag : (k : Class) → tag_of the_type k ≡ number_of k
unfolding number_of
tag Blank = refl
tag Finite = refl
tag PlusInfinity = refl
tag MinusInfinity = refl
tag Refused = refl

pub returns-in-Some : goal.returns-in-Some
unfolding class_number number_of
returns-in-Some c = rw c.in-Some.is (grind (arith, tag c.in-Some.class))

pub returns-in-None : goal.returns-in-None
unfolding class_number
returns-in-None c = rw c.in-None.is
