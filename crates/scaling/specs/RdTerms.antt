-- No term of RD is lost for want of range where its arguments are at most 2^514, nor where ellipeinc asks RD for m < 0 and does not scale. Definitions only.
use Rattle.std.specs.Prelude.{ℕ, ◌*◌, ◌^◌, ◌≤◌, ◌≡◌, Bool, true, false, not, ◌&&◌, T, leb, Float}
use Rattle.std.specs.Float.{nan, inf, fin, binary64}
use Rattle.std.specs.Float.Ieee.{fits, up, down}
use Rattle.std.specs.Float.Ieee.Scale.{finite}
use Rattle.laws.specs.Arithmetic.{◌⊖◌, ◌⊗◌, ◌⊘◌, ◌<·◌, +0}
use Rattle.root.specs.Root.{root_of}
use Rattle.carlson.specs.Series.{least}
use Rattle.carlson.specs.laws.Counts.{after}
use Rattle.rd.specs.declared.State.{State}
use Rattle.rd.specs.Rd.{start_of, round_of}
use Rattle.incomplete.specs.Scaling.{large_of}
use Rattle.scaling.specs.Before.{C, C1, Given}
use Rattle.scaling.specs.RdClear.{weight_of}

-- from +0 to 2^514
abbrev pub bounded : Float → Bool
bounded nan = false
bounded (inf s) = false
bounded (fin s m e) = not s && leb (m * up e) (2 ^ 514 * down e)

-- the divisors, √z (z + L) of a round and A √A of the closing, are finite, and the round's term is not below 2^-960
pub record NoneLost (s : State) : Type 0 where
  pub weight : T (finite (weight_of s))
  pub closing : T (finite (s.mean ⊗ root_of s.mean))
  pub term : T (not (s.scale ⊘ weight_of s <· least))

-- so in every state of a run
abbrev pub KeepsTerms : Float → Float → Float → Type 0
KeepsTerms x y z = (k : ℕ) → k ≤ 64 → NoneLost (after round_of k (start_of x y z))

pub record NoTermLost : Type 0 where
  pub rd : (x y z : Float) → T (fits binary64 x) → T (fits binary64 y) → T (fits binary64 z) → T (bounded x) → T (bounded y) → T (bounded z) → KeepsTerms x y z
  -- ellipeinc for m < 0, C and |m| not above 2^200 (two_terms_of)
  pub two_terms : (φ m : Float) → Given φ m → m <· +0 ≡ true → large_of m (C φ) ≡ false → KeepsTerms (C1 φ) (C φ ⊖ m) (C φ)
