-- The order in which each of the three functions decides. Definitions only.
use Rattle.std.specs.Prelude.{◌≡◌, ℕ, Float, Result, Err}
use Rattle.std.specs.Option.{option_map_or}
use Rattle.laws.specs.Arithmetic.{◌⊖◌, ◌<·◌, ◌=·◌, ◌≠·◌, +0, -∞, 1·0}
use Rattle.laws.specs.Ladder.{when◌gives◌else◌}
use Rattle.root.specs.Root.{root_of}
use Rattle.answer.specs.declared.Answer.{Answer}
use Rattle.legendre.specs.declared.domain.Domain.{Domain}
use Rattle.legendre.specs.declared.domain.Domain.TheVariants.{One, Bottom, Negative, Unit}
use Rattle.answer.specs.declared.Refusal.{Refusal}
use Rattle.answer.specs.declared.Refusal.TheVariants.{NotANumber, AboveOne}
use Rattle.pieces.specs.Piece.{piece_of, centre_of}

-- the answers at 1, at -∞, for finite m < 0 and for 0 ≤ m < 1
unfoldable pub by_domain : Float → Result Answer Refusal → Result Answer Refusal → Result Answer Refusal → Result Answer Refusal → Result Answer Refusal
by_domain m one minusInfinity negative belowOne =
    when m ≠· m gives Err NotANumber else
    when 1·0 <· m gives Err AboveOne else
    when m =· 1·0 gives one else
    when m =· -∞ gives minusInfinity else
    when m <· +0 gives negative else
    belowOne

-- which of the four answers one place takes
unfoldable pub chosen_of : Domain → Result Answer Refusal → Result Answer Refusal → Result Answer Refusal → Result Answer Refusal → Result Answer Refusal
chosen_of One one minusInfinity negative belowOne = one
chosen_of Bottom one minusInfinity negative belowOne = minusInfinity
chosen_of Negative one minusInfinity negative belowOne = negative
chosen_of Unit one minusInfinity negative belowOne = belowOne

-- m lies at d, or is refused by r, whatever the four answers are
abbrev pub Decides : Float → Domain → Type 0
Decides m d = (a b c e : Result Answer Refusal) → chosen_of d a b c e ≡ by_domain m a b c e

abbrev pub Refuses : Float → Refusal → Type 0
Refuses m r = (a b c e : Result Answer Refusal) → Err r ≡ by_domain m a b c e

-- 0 ≤ m < 1: by its piece, and from 18 on by the mean of 1 and √(1-m)
unfoldable pub below_one_of : {A : Type 0} → (ℕ → Float → A) → (Float → A) → Float → A
below_one_of byPiece byMean m =
    option_map_or (λ i. byPiece i (m ⊖ centre_of i)) (piece_of m) (byMean (root_of (1·0 ⊖ m)))
