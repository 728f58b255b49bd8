-- Text of at most so many bytes in a lent buffer: what contracts inside a crate cite. Definitions only.
use Rattle.std.specs.Prelude.{◌≡◌, ℕ, ◌+◌, ◌≤◌, List, length}
use Rattle.text.specs.Writing.{Put}

-- the buffer old became new: text stands from place a to place b, at most so many bytes, and every other byte is as it was
pub record Placed (old new : List ℕ) (a b most : ℕ) (text : List ℕ) : Type 0 where
  pub put : Put old new a b text
  pub short : b ≤ a + most
  pub same : length new ≡ length old
