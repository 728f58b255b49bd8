-- By cases.
use Rattle.std.proofs.Common.{◌≡◌, refl}
use denote.Enum.Declared.{tag_of}
use Rattle.ledger.specs.contracts.row.Class.{the_type}
use Rattle.ledger.specs.declared.row.Class.{Class}
use Rattle.ledger.specs.declared.row.Class.TheVariants.{Blank, Finite, PlusInfinity, MinusInfinity, Refused}
use Rattle.ledger.specs.Class.{number_of}
use Rattle.ledger.proofs.row.index.Goals as goal

tag : (k : Class) → tag_of the_type k ≡ number_of k
unfolding number_of
tag Blank = refl
tag Finite = refl
tag PlusInfinity = refl
tag MinusInfinity = refl
tag Refused = refl

pub returns : goal.returns
returns c = tag c.args.class
