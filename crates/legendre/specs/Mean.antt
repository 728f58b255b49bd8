-- The arithmetic-geometric mean (DLMF 19.8(i)) as ellipk.rs, ellipe.rs and ellipke.rs run it. Definitions only.
use Rattle.std.specs.Prelude.{Bool, true, false, ℕ, zero, suc, Float}
use Rattle.laws.specs.Arithmetic.{◌⊕◌, ◌⊖◌, ◌⊗◌, ◌⊘◌, ◌≤·◌, 2·0}
use Rattle.root.specs.Root.{root_of}
use Rattle.whole.specs.Whole.{magnitude_of}

-- a round takes x and y to their two means
unfoldable pub arithmetic_of : Float → Float → Float
arithmetic_of x y = (x ⊕ y) ⊘ 2·0

unfoldable pub geometric_of : Float → Float → Float
geometric_of x y = root_of (x ⊗ y)

-- the test before each round: |x - y| >= tolerance * |x|
unfoldable pub goes_on_of : Float → Float → Float → Bool
goes_on_of tolerance x y = tolerance ⊗ magnitude_of x ≤· magnitude_of (x ⊖ y)

-- the rounds from s, at most n; b: whether the next one is made
unfoldable pub iterate : {S : Type 0} → (S → Bool) → (S → S) → ℕ → Bool → S → S
iterate goes round zero b s = s
iterate goes round (suc n) false s = s
iterate goes round (suc n) true s = iterate goes round n (goes (round s)) (round s)

abbrev pub iterated : {S : Type 0} → (S → Bool) → (S → S) → ℕ → S → S
iterated goes round n s = iterate goes round n (goes s) s
