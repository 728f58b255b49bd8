-- What `parts` says, once it is known whether it found any. Assumes nothing.
use Rattle.std.specs.Prelude.{◌≡◌, Option, Some, None, MatchOption, true, false, Float}
use Rattle.std.proofs.Common.{subst}
use Rattle.bits.specs.Parts.{PartsOf}
use Rattle.bits.specs.declared.fields.Parts.{Parts}

-- what `parts` ensures of its result o
abbrev pub Read : Float → Option Parts → Type 0
Read x o = MatchOption o (PartsOf x false false 0 0) (λ p. PartsOf x true p.negative p.digits p.exponent)

pub found : (x : Float) (o : Option Parts) (p : Parts) → o ≡ Some p → Read x o → PartsOf x true p.negative p.digits p.exponent
found x o p e h = subst (Read x) e h

pub none_found : (x : Float) (o : Option Parts) → o ≡ None → Read x o → PartsOf x false false 0 0
none_found x o e h = subst (Read x) e h
