-- A whole number that takes many limbs, in hex. Definitions only.
use Rattle.std.specs.Prelude.{ℕ, Bool, false, ◌&&◌, ◌||◌, List, [], ◌∷◌, ltb}
use Rattle.laws.specs.Ladder.{when◌gives◌else◌}
use Rattle.text.specs.Text.{digits_of}

-- a whole number below 16 ^ 544, a sign in front where it is below zero
unfoldable pub signed_hex : Bool → ℕ → List ℕ
signed_hex negative n =
    when negative && ltb 0 n gives 45 ∷ digits_of false 16 544 n else
    digits_of false 16 544 n

-- the last k digits of a number that is not zero; none of zero
unfoldable pub hex_of : ℕ → ℕ → List ℕ
hex_of k n =
    when ltb 0 n gives digits_of false 16 k n else
    []

-- a limb's share of them: all its 16 digits where a digit stands before it; else none in front of the number, and none of zero
unfoldable pub limb_of : Bool → ℕ → List ℕ
limb_of started x =
    when started || ltb 0 x gives digits_of started 16 16 x else
    []

-- a sign
unfoldable pub sign_of : Bool → List ℕ
sign_of negative =
    when negative gives 45 ∷ [] else
    []
