-- Up to 16 digits of a base up to 16 are read as they are spelt. Assumes nothing.
use Rattle.std.specs.Prelude.{◌≡◌, ℕ, ◌≤◌, List, length}
use Rattle.std.proofs.Common.{le-ltb}
use Rattle.line.specs.Line.{spell_of, few_of}

pub few : (base : ℕ) (s : List ℕ) → base ≤ 16 → length s ≤ 16 → few_of base s ≡ spell_of base 0 s
unfolding few_of
few base s b h = rw (le-ltb 16 base b, le-ltb 16 (length s) h)
