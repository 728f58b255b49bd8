-- A row's class by name, and its number: its place among the counts. Definitions only.
use Rattle.std.specs.Prelude.{ℕ, Option, Some, None, ◌∷◌, [], List, slice_index_or}
use Rattle.ledger.specs.declared.row.Class.{Class}
use Rattle.ledger.specs.declared.row.Class.TheVariants.{Blank, Finite, PlusInfinity, MinusInfinity, Refused}
use Rattle.ledger.specs.Sheet.{blank_class, finite_class, plus∞Class, minus∞Class, refused_class, no_class}

-- a class's number
unfoldable pub number_of : Class → ℕ
number_of Blank = blank_class
number_of Finite = finite_class
number_of PlusInfinity = plus∞Class
number_of MinusInfinity = minus∞Class
number_of Refused = refused_class

-- the classes in the order of the counts
abbrev pub classes : List (Option Class)
classes = Some Blank ∷ Some Finite ∷ Some PlusInfinity ∷ Some MinusInfinity ∷ Some Refused ∷ []

-- the class of this number; none for 5, where a first answer is a NaN, and above
unfoldable pub class_at : ℕ → Option Class
class_at k = slice_index_or classes k None

-- the number of a class, and 5 of none
unfoldable pub class_number : Option Class → ℕ
class_number (Some c) = number_of c
class_number None = no_class
