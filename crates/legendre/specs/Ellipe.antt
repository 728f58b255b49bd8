-- ellipe.rs: E(m), operation by operation. Definitions only.
use Rattle.std.specs.Prelude.{Bool, false, ℕ, Float, Result, Ok}
use Rattle.std.specs.Float.Ieee.{neg}
use Rattle.laws.specs.Arithmetic.{◌⊕◌, ◌⊖◌, ◌⊗◌, ◌⊘◌, ◌≤·◌, float, dec, ½, 1·0, 2·0, 4·0, π, ε}
use Rattle.laws.specs.Ladder.{when◌gives◌else◌}
use Rattle.root.specs.Root.{root_of}
use Rattle.fused.specs.Fused.{fused_of}
use Rattle.answer.specs.Answer.{value_of}
use Rattle.answer.specs.declared.Answer.{Answer}
use Rattle.answer.specs.declared.Refusal.{Refusal}
use Rattle.answer.specs.declared.Answer.TheVariants.{One, Infinite}
use Rattle.logarithm.specs.Logarithm.{logarithm_of}
use Rattle.legendre.specs.Domain.{by_domain, below_one_of}
use Rattle.legendre.specs.Mean.{arithmetic_of, geometric_of, goes_on_of, iterated}
use Rattle.pieces.specs.Piece.{e_piece_of}
use Rattle.legendre.specs.declared.e.Sums.{Sums}

-- 2^-26, the root of the Rust's EPSILON
abbrev pub √ε : Float
√ε = float 0x3e50_0000_0000_0000

-- the stop test's constant: 2.7 units of 2^-52
abbrev pub e_tolerance : Float
e_tolerance = dec 27 1 ⊗ ε

-- the power of two of the sum's first term
abbrev pub ¼ : Float
¼ = float 0x3fd0_0000_0000_0000

-- ---- the means with the sum of their squared differences (DLMF 19.8.6), which ellipke.rs runs too

unfoldable pub start_of : Float → Sums
start_of y0 =
    let mean = arithmetic_of 1·0 y0 in
    let e = mean ⊗ mean in
    record { x = 1·0; y = y0; e = e; compensation = fused_of mean mean (neg e); power = ¼ }

unfoldable pub next_of : Sums → Sums
next_of s =
    let x = arithmetic_of s.x s.y in
    let y = geometric_of s.x s.y in
    let power = s.power ⊗ 2·0 in
    let correction = power ⊗ (x ⊖ y) ⊗ (x ⊖ y) ⊖ s.compensation in
    let e = s.e ⊖ correction in
    record { x = x; y = y; e = e; compensation = s.e ⊖ e ⊖ correction; power = power }

unfoldable pub goes_on : Float → Sums → Bool
goes_on tolerance s = goes_on_of tolerance s.x s.y

unfoldable pub last_sums_of : ℕ → Float → Float → Sums
last_sums_of rounds tolerance y0 = iterated (goes_on tolerance) next_of rounds (start_of y0)

-- ---- E

-- the file's `ln`
unfoldable pub ln_of : Float → Float
ln_of x = value_of (logarithm_of x)

-- the first correction (DLMF 19.12.2), for y0² at most 2^-52
unfoldable pub near_one_of : Float → Float
near_one_of y0 = 1·0 ⊕ y0 ⊗ y0 ⊘ 2·0 ⊗ (ln_of 4·0 ⊖ ln_of y0 ⊖ ½)

-- E from the last sums
unfoldable pub e_from_of : Sums → Float
e_from_of s = s.e ⊗ (π ⊘ (s.x ⊕ s.y))

-- from y0 = √(1-m)
unfoldable pub e_mean_of : ℕ → Float → Float
e_mean_of rounds y0 = when y0 ≤· √ε gives near_one_of y0 else e_from_of (last_sums_of rounds e_tolerance y0)

unfoldable pub e_below_one_of : ℕ → Float → Float
e_below_one_of rounds m = below_one_of e_piece_of (e_mean_of rounds) m

-- m < 0, by c = √(1-m) and m1 = m/(m-1)
unfoldable pub e_negative_of : ℕ → Float → Float → Float
e_negative_of rounds c m1 = c ⊗ (when dec 9 1 ≤· m1 gives e_mean_of rounds (1·0 ⊘ c) else e_below_one_of rounds m1)

-- E(1) = 1, E(-∞) = ∞; with a bound on the rounds of the mean. The file's factor c is 1 for m ≥ 0, which changes nothing (`one-times`).
unfoldable pub ellipe_within : ℕ → Float → Result Answer Refusal
ellipe_within rounds m = by_domain m (Ok (One 1·0)) (Ok (Infinite false)) (Ok (One (e_negative_of rounds (root_of (1·0 ⊖ m)) (m ⊘ (m ⊖ 1·0))))) (Ok (One (e_below_one_of rounds m)))

-- the file has no bound, and none shows: `ellipe_ends` (identities, Ends) has the same answer for every bound from 8 on
unfoldable pub ellipe_of : Float → Result Answer Refusal
ellipe_of m = ellipe_within 32 m
