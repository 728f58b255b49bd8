-- Text as bytes, so that a definition can quote what is read and printed. Assumes nothing.
use Rattle.std.specs.Prelude.{ℕ, List, [], ◌∷◌}
use Prim.Native.Char.{code}
use Prim.Native.String.{String}

-- the codes of a text's characters, which in ASCII are its bytes
abbrev pub ascii : String → List ℕ
ascii Prim.Native.String.[] = []
ascii (Prim.Native.String.◌∷◌ c s) = code c ∷ ascii s
