-- Steps: by the signs of the two patterns, the other way round, along the line, to the next pattern. Assumes nothing.
use Rattle.std.specs.Prelude.{◌≡◌, refl, Bool, true, false, cond, ◌⊎◌, ℕ, suc, ◌+◌, ◌-◌, ◌^◌, ◌≤◌, ◌<◌, pos, neg_ℤ, nat_abs, ◌-ℤ◌, ◌≤ℤ◌}
use Rattle.std.proofs.Common.{◌∙◌, inl, inr, add_comm, arith, lt-ltb, le-ltb}
use Rattle.std.specs.Bool.{beq}
use Rattle.difference.specs.Steps.{place_of, steps_of}
use Rattle.difference.specs.laws.Whole.{signed, size-apart, size_swap, size_along}

-- ---- a pattern's place, without a sign and with one
pub place-plus : (p : ℕ) → p < 2 ^ 63 → place_of p ≡ pos p
unfolding place_of
place-plus p h = rw (lt-ltb p (2 ^ 63) h) refl

pub place_minus : (p : ℕ) → 2 ^ 63 ≤ p → place_of p ≡ neg_ℤ (pos (p - 2 ^ 63))
unfolding place_of
place_minus p h = rw (le-ltb p (2 ^ 63) h) refl

-- ---- how far apart
-- ---- how far apart, by a sign and a size of each
pub steps_at : (p q : ℕ) (s t : Bool) (m n : ℕ) → place_of p ≡ signed s m → place_of q ≡ signed t n → steps_of p q ≡ cond (beq s t) ((m - n) + (n - m)) (m + n)
unfolding steps_of
steps_at p q s t m n e f = (λ i. nat_abs (e i -ℤ f i)) ∙ size-apart s t m n

pub both-plus : (p q : ℕ) → p < 2 ^ 63 → q < 2 ^ 63 → steps_of p q ≡ (p - q) + (q - p)
both-plus p q h g = steps_at p q false false p q (place-plus p h) (place-plus q g)

pub plus_minus : (p q : ℕ) → p < 2 ^ 63 → 2 ^ 63 ≤ q → steps_of p q ≡ p + (q - 2 ^ 63)
plus_minus p q h g = steps_at p q false true p (q - 2 ^ 63) (place-plus p h) (place_minus q g)

pub minus_plus : (p q : ℕ) → 2 ^ 63 ≤ p → q < 2 ^ 63 → steps_of p q ≡ q + (p - 2 ^ 63)
minus_plus p q h g = steps_at p q true false (p - 2 ^ 63) q (place_minus p h) (place-plus q g) ∙ add_comm (p - 2 ^ 63) q

pub both_minus : (p q : ℕ) → 2 ^ 63 ≤ p → 2 ^ 63 ≤ q → steps_of p q ≡ (p - q) + (q - p)
both_minus p q h g =
    steps_at p q true true (p - 2 ^ 63) (q - 2 ^ 63) (place_minus p h) (place_minus q g)
    ∙ (let z : (p - 2 ^ 63 - (q - 2 ^ 63)) + (q - 2 ^ 63 - (p - 2 ^ 63)) ≡ (p - q) + (q - p) = omega arith in z)

-- ---- the other way round, and along the line
pub steps_swap : (p q : ℕ) → steps_of p q ≡ steps_of q p
unfolding steps_of
steps_swap p q = size_swap (place_of p) (place_of q)

pub steps_along : (p q r : ℕ) → place_of p ≤ℤ place_of q → place_of q ≤ℤ place_of r → steps_of p r ≡ steps_of p q + steps_of q r
unfolding steps_of
steps_along p q r h g = size_along (place_of p) (place_of q) (place_of r) h.le g.le

-- ---- the next pattern of the same sign
pub steps_next : (p : ℕ) → (suc p < 2 ^ 63) ⊎ (2 ^ 63 ≤ p) → steps_of p (suc p) ≡ 1
steps_next p (inl h) = both-plus p (suc p) (omega arith) h ∙ (let z : (p - suc p) + (suc p - p) ≡ 1 = omega arith in z)
steps_next p (inr h) = both_minus p (suc p) h (omega arith) ∙ (let z : (p - suc p) + (suc p - p) ≡ 1 = omega arith in z)

-- ---- -0 and +0 are one place; the smallest of either sign are two steps apart; the largest finite ones as far as any two
zeros : steps_of 0 (2 ^ 63) ≡ 0
unfolding steps_of place_of
zeros = refl

across_zero : steps_of 1 (2 ^ 63 + 1) ≡ 2
unfolding steps_of place_of
across_zero = refl

farthest : steps_of 0x7fef_ffff_ffff_ffff 0xffef_ffff_ffff_ffff ≡ 18437736874454810622
unfolding steps_of place_of
farthest = refl
