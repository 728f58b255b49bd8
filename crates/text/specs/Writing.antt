-- Text in a lent buffer: what the contracts cite. Definitions only.
use Rattle.std.specs.Prelude.{◌≡◌, ℕ, ◌+◌, ◌≤◌, ◌<◌, List, length}
use Rattle.laws.specs.Splice.{splice}

-- the buffer old became new: text stands from place a to place b, and every other byte is as it was
pub record Put (old new : List ℕ) (a b : ℕ) (text : List ℕ) : Type 0 where
  pub next : b ≡ a + length text
  pub bytes : new ≡ splice old a text

-- text is put at place a where the buffer has room for so many bytes from there on; where it has not, nothing is changed and b is a
pub record Puts (old new : List ℕ) (a b room : ℕ) (text : List ℕ) : Type 0 where
  pub put : a + room ≤ length old → Put old new a b text
  pub none : length old < a + room → (b ≡ a) × (new ≡ old)
