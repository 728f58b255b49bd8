-- The rows of 01's corner table that are this crate's, proved together, each by computing it.
use Rattle.std.specs.Prelude.{◌≡◌, refl, Some, Ok, Err}
use Rattle.std.specs.Float.{nan}
use Rattle.std.specs.Float.Ieee.{of_bits, mul, lt, eq, ne, neg, to_unsigned}
use Rattle.laws.specs.Arithmetic.{float, dec, +0, +∞, -∞, 1·0, ε}
use Rattle.root.specs.Root.{root_of}
use Rattle.answer.specs.declared.Answer.TheVariants.{Pair}
use Rattle.answer.specs.declared.Refusal.TheVariants.{NotANumber, AboveOne}
use Rattle.legendre.specs.Domain.{by_domain}
use Rattle.pieces.specs.Piece.{truncated_of, row_of, piece_of}
use Rattle.legendre.specs.Ellipe.{√ε}
use Rattle.legendre.specs.Ellipke.{ellipke_of}

pub record Corners : Type 0 where
  -- the f64 0.85 lies below 17/20, and 20 times it, rounded, is 17: the last of the ten pieces
  pub piece : truncated_of (dec 85 2) ≡ Some 17
  pub row : piece_of (dec 85 2) ≡ Some 9
  pub one : ellipke_of 1·0 ≡ Ok (Pair +∞ 1·0)
  pub lowest : ellipke_of -∞ ≡ Ok (Pair +0 +∞)
  pub above : ellipke_of (float 0x3ff0_0000_0000_0001) ≡ Err AboveOne
  pub not-a-number : ellipke_of nan ≡ Err NotANumber
  -- the files' `epsilon().sqrt()`
  pub root_epsilon : root_of ε ≡ √ε

pub corners : Corners
unfolding truncated_of row_of piece_of ellipke_of by_domain dec of_bits mul lt eq ne neg to_unsigned root_of
corners = record { piece = refl; row = refl; one = refl; lowest = refl; above = refl; not-a-number = refl; root_epsilon = refl }
