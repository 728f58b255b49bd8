-- What reads bring. Definitions only.
use Rattle.std.specs.Prelude.{ℕ, Bool, List, [], ◌∷◌, ◌++◌, length, take, min, Option, Some, None, is_none}
use Rattle.files.specs.Calls.{Read}

-- how many bytes of a buffer of n a read brought: none where it failed
abbrev pub count_of : Option ℕ → ℕ → ℕ
count_of None n = 0
count_of (Some k) n = min k n

-- a read answers how many bytes it brought, which stand at the start of its buffer: none at the end of the input
unfoldable pub brought_of : Read → List ℕ
brought_of r = take (count_of r.got (length r.buffer)) r.buffer

-- or that it failed
unfoldable pub failed_of : Read → Bool
failed_of r = is_none r.got

-- all that the reads brought, in their order
unfoldable pub input_of : List Read → List ℕ
input_of [] = []
input_of (r ∷ rs) = brought_of r ++ input_of rs
