-- The number of the first limbs, and what one limb more makes of it. Assumes nothing.
use Rattle.std.proofs.Common.{◌≡◌, ℕ, zero, suc, ◌+◌, ◌*◌, ◌<◌, ◌≤◌, List, [], ◌∷◌, length, get_or, take, refl, ap, ◌∙◌, le_of_suc-le-suc, not-suc-le-zero, add-one, lt_irrefl, arith, set, length-set, get_or-set_same, get_or-set_other, below_more, ◌≢◌}
use Rattle.total.specs.Total.{val}
use Rattle.total.specs.Carry.{W}

pub val-none : (l : List ℕ) → val (take 0 l) ≡ 0
unfolding val
val-none l = refl

-- ---- limbs that are zero, or not
pub some_at : (l : List ℕ) (i n : ℕ) → i < n → 0 < get_or l i 0 → 0 < val (take n l)
unfolding val
some_at [] i n h p = absurd (lt_irrefl 0 p)
some_at (x ∷ xs) i zero h p = absurd (not-suc-le-zero h)
some_at (x ∷ xs) zero (suc n) h p = omega arith
some_at (x ∷ xs) (suc i) (suc n) h p = let g = some_at xs i n (le_of_suc-le-suc h) p in omega arith

-- ---- digits turned over: one less than the weight above them
pub turned : (l out : List ℕ) → length out ≡ length l → ((i : ℕ) → i < length l → get_or out i 0 + get_or l i 0 + 1 ≡ 0x1_0000_0000_0000_0000) → val out + val l + 1 ≡ W (length l)
unfolding val W
turned [] [] e h = refl
turned [] (z ∷ zs) e h = absurd (omega arith)
turned (x ∷ xs) [] e h = absurd (omega arith)
turned (x ∷ xs) (z ∷ zs) e h =
    let first : z + x + 1 ≡ 0x1_0000_0000_0000_0000 = h 0 (omega arith) in
    let rest = turned xs zs (omega arith) (λ i k. h (suc i) (omega arith)) in
    omega (arith, rest)

-- the first i digits are turned over, the others not yet
pub record Turned (l out : List ℕ) (i : ℕ) : Type 0 where
  pub long : length out ≡ length l
  pub done : (k : ℕ) → k < i → get_or out k 0 + get_or l k 0 + 1 ≡ 0x1_0000_0000_0000_0000
  pub left : (k : ℕ) → i ≤ k → get_or out k 0 ≡ get_or l k 0

pub turned_none : (l : List ℕ) → Turned l l 0
turned_none l = record { long = refl; done = λ k (h : k < 0). absurd (omega arith); left = λ k h. refl }

pub turned_more : (l out : List ℕ) (i z : ℕ) → i < length l → z + get_or l i 0 + 1 ≡ 0x1_0000_0000_0000_0000 → Turned l out i → Turned l (set out i z) (i + 1)
turned_more l out i z b e t = record {
  long = length-set out i z ∙ t.long;
  done = below_more _ _
      (λ k h. let n : k ≢ i = omega arith in rw (get_or-set_other out i k z 0 n) (t.done k h))
      ((let w : i < length out = omega (arith, t.long) in rw (get_or-set_same out i z 0 w) e));
  left = λ k h. let n : k ≢ i = omega arith in rw (get_or-set_other out i k z 0 n) (t.left k (omega arith));
}

-- ---- the highest limb that is not zero
-- zeros alone stand for zero
pub all-zero : (l : List ℕ) → ((k : ℕ) → k < length l → get_or l k 0 ≡ 0) → val l ≡ 0
unfolding val
all-zero [] h = refl
all-zero (x ∷ xs) h =
    let first : x ≡ 0 = h 0 (omega arith) in
    let rest = all-zero xs (λ k b. h (suc k) (omega arith)) in
    omega (arith, rest)

-- and above a limb they change nothing
pub zeros_above : (l : List ℕ) (at : ℕ) → ((k : ℕ) → at < k → k < length l → get_or l k 0 ≡ 0) → val (take (at + 1) l) ≡ val l
unfolding val
zeros_above [] zero h = refl
zeros_above [] (suc at) h = rw add-one refl
zeros_above (x ∷ xs) zero h =
    let rest = all-zero xs (λ k b. h (suc k) (omega arith) (omega arith)) in
    omega (arith, rest)
zeros_above (x ∷ xs) (suc at) h =
    let rest = zeros_above xs at (λ k b c. h (suc k) (omega arith) (omega arith)) in
    rw add-one (ap (λ (v : ℕ). x + 0x1_0000_0000_0000_0000 * v) (rw add-one at rest))
