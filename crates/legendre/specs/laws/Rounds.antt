-- The two means stay between the bounds of the numbers that they are means of, and the run of the iteration keeps what every round keeps. Assumes nothing.
use Rattle.std.specs.Prelude.{◌≡◌, refl, Bool, true, false, ℕ, zero, suc, ◌+◌, ◌-◌, ◌*◌, ◌^◌, ◌≤◌, ◌<◌}
use Rattle.std.proofs.Common.{sym, subst, le_trans, mul-le-mul_right, arith, lit≤, lit<, pow_pos}
use lib.Ieee.{Float, binary64, round, of_bits, size}
use Rattle.std.specs.Float.Ieee.Exact.{HasValue}
use Rattle.std.specs.Float.Ieee.Scale.{grid}
use Rattle.laws.specs.Arithmetic.{◌⊕◌, 1·0, 2·0}
use Rattle.laws.specs.laws.Rounding.{round-value}
use Rattle.legendre.specs.Mean.{arithmetic_of, geometric_of, iterate}
use Rattle.laws.specs.laws.Sizes.{grid_mono, grid_least, below_overflow}
use Rattle.laws.specs.laws.Bounds.{Within, add-plain, within-add, within-mul, within-div}
use Rattle.legendre.specs.laws.Beneath.{within_root}

pub one_value : HasValue 1·0 false (2 ^ 1074) (2 ^ 1074)
unfolding of_bits
one_value = (refl, refl)

pub one : Within 1074 1074 1·0
one = record { units = 2 ^ 1074; value = one_value; least = lit≤ tt; most = lit≤ tt }

pub two : Within 1075 1075 2·0
unfolding of_bits
two = record { units = 2 ^ 1075; value = (refl, refl); least = lit≤ tt; most = lit≤ tt }

-- ---- a round
halved : {i j : ℕ} {x : Float} → i < 2098 → j < 2098 → Within (suc i) (suc j) x → Within i j (lib.Ieee.div binary64 x 2·0)
halved {i} {j} I J w = within-div i j I J (omega arith) (omega arith) w two

pub arithmetic_within : {i j : ℕ} {x y : Float} → suc i < 2098 → suc j < 2098 → Within i j x → Within i j y → Within i j (arithmetic_of x y)
unfolding arithmetic_of
arithmetic_within I J v w = halved (omega arith) (omega arith) (within-add I J v w)

pub geometric_within : {i j : ℕ} {x y : Float} → 1074 ≤ i + i → i ≤ j → j + j < 3172 → Within i j x → Within i j y → Within i j (geometric_of x y)
unfolding geometric_of
geometric_within {i} {j} I L J v w = within_root i j (omega arith) (omega arith) (omega arith) (within-mul (i + i - 1074) (j + j - 1074) (omega arith) (omega arith) (omega arith) (omega arith) v w)

-- ---- the first round, from 1 and y
-- 1 + y: y at most 2 ^ j units, and what it then rounds to at most 2 ^ l
pub add-one : {i : ℕ} (j l : ℕ) {y : Float} → l < 2098 → grid binary64 (2 ^ 1074 + 2 ^ j) (2 ^ 1074) ≤ 2 ^ l → Within i j y → Within 1074 l (1·0 ⊕ y)
add-one {i} j l {y} L c w =
    let a = one.units + w.units in
    let o = below_overflow (grid binary64 (2 ^ 1074 + 2 ^ j) (2 ^ 1074)) l c L in
    let m : grid binary64 a (2 ^ 1074) ≤ 2 ^ l = le_trans (grid_mono a (2 ^ 1074) (2 ^ 1074 + 2 ^ j) (2 ^ 1074) (pow_pos 1074) (pow_pos 1074) (mul-le-mul_right (2 ^ 1074) (more one.units (2 ^ 1074) w.units (2 ^ j) one.most w.most)) o) c in
    let p = below_overflow (grid binary64 a (2 ^ 1074)) l m L in
    subst (Within 1074 l) (sym (add-plain one w))
    (record { units = grid binary64 a (2 ^ 1074); value = round-value binary64 false a (2 ^ 1074) p; least = grid_least a (2 ^ 1074) 1074 (pow_pos 1074) (lit< tt) (mul-le-mul_right (2 ^ 1074) (le_trans one.least (plus one.units w.units))) p; most = m })
  where
    more : (a b c d : ℕ) → a ≤ b → c ≤ d → a + c ≤ b + d
    more a b c d p q = omega arith

    plus : (a b : ℕ) → a ≤ a + b
    plus a b = omega arith

-- 2 ^ 512 swallows the 1
pub add-one-most : {i : ℕ} {y : Float} → Within i 1586 y → Within 1074 1586 (1·0 ⊕ y)
unfolding size
add-one-most w = add-one 1586 1586 (lit< tt) (lit≤ tt) w

pub add-one_unit : {i : ℕ} {y : Float} → Within i 1074 y → Within 1074 1075 (1·0 ⊕ y)
unfolding size
add-one_unit w = add-one 1074 1075 (lit< tt) (lit≤ tt) w

pub first_arithmetic : (j : ℕ) (y : Float) → j < 2098 → Within 1074 (suc j) (1·0 ⊕ y) → Within 1073 j (arithmetic_of 1·0 y)
unfolding arithmetic_of
first_arithmetic j y J w = halved (lit< tt) J w

pub first_geometric : (j l : ℕ) {y : Float} → j < 2098 → l < 2098 → j + 1074 ≤ l + l → Within 537 j y → Within 805 l (geometric_of 1·0 y)
unfolding geometric_of
first_geometric j l J L h w = within_root 805 l L (lit≤ tt) h (within-mul 537 j (lit< tt) J (lit≤ tt) (omega arith) one w)

-- ---- the run
pub run_keeps : {S : Type 0} (goes : S → Bool) (round : S → S) (P : S → Type 0) → ((s : S) → P s → P (round s)) → (n : ℕ) (b : Bool) (s : S) → P s → P (iterate goes round n b s)
unfolding iterate
run_keeps goes round P k zero b s p = p
run_keeps goes round P k (suc n) false s p = p
run_keeps goes round P k (suc n) true s p = run_keeps goes round P k n (goes (round s)) (round s) (k s p)

-- with a bound that grows by d in each round, up to a limit
pub run_grows : {S : Type 0} (goes : S → Bool) (round : S → S) (P : ℕ → S → Type 0) (d limit : ℕ) → ((k : ℕ) (s : S) → k + d ≤ limit → P k s → P (k + d) (round s)) → ((k l : ℕ) (s : S) → k ≤ l → P k s → P l s) → (n k : ℕ) (b : Bool) (s : S) → k + n * d ≤ limit → P k s → P (k + n * d) (iterate goes round n b s)
unfolding iterate
run_grows goes round P d limit step wide zero k b s h p = wide k (k + 0 * d) s (omega arith) p
run_grows goes round P d limit step wide (suc n) k false s h p = wide k (k + suc n * d) s (omega arith) p
run_grows goes round P d limit step wide (suc n) k true s h p =
    let e : k + d + n * d ≡ k + suc n * d = omega arith in
    subst (λ (z : ℕ). P z (iterate goes round n (goes (round s)) (round s))) e (run_grows goes round P d limit step wide n (k + d) (goes (round s)) (round s) (omega arith) (step k s (omega arith) p))
