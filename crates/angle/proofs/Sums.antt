-- The cut alternating sum: how large it gets, and that it lies below the exact one by few units. Assumes nothing.
use mathlib.Core.Path.{◌≡◌, refl}
use mathlib.Core.Bool.{Bool, true, false, not, cond, ◌&&◌}
use Prim.Native.Nat.{ℕ, zero, suc, ◌+◌, ◌*◌, ◌/◌, ◌^◌, ◌≤◌, ◌<◌, zero-le}
use native.Mathlib.Nat.{le_refl, le_trans, mul-le-mul, mul-le-mul_left, mul-le-mul_right, le_of_mul-le-mul_left, le_of_mul-le-mul_right, div-mul-le_self, lt-div-mul-add, mul-pos, mul_assoc, mul_comm, mul_left_comm, mul-add, add-mul, zero-lt-suc}
use native.Mathlib.Omega.{arith}
use lib.Dec.{T, leb, ltb, leb→le, nltb→le, lit≤}
use lib.Pow.{pow_pos}
use lib.Ieee.Fits.{and_l, and_r}
use Rattle.angle.specs.Alternating.{alternating_of}
use Rattle.angle.specs.declared.series.Balance.{Balance}
use Rattle.angle.proofs.Taylor.{two, whole, Exact, exact}

ruleset sorted = (mul-add, add-mul, mul_assoc, mul_comm, mul_left_comm)

two_pos : (n : ℕ) → 0 < two n
two_pos n = mul-pos (up n 0) (up n 1)
  where
    up : (n i : ℕ) → 0 < n + (i + 1)
    up n i = omega arith

pub two-least : (n i : ℕ) → i ≤ n → two i ≤ two n
two-least n i h = mul-le-mul (more n i 1 h) (more n i 2 h)
  where
    more : (n i j : ℕ) → i ≤ n → i + j ≤ n + j
    more n i j h = omega arith

-- ---- sizes, in sixteenths: 2^56 of the 2^60 that stand for 1
abbrev Sizes : ℕ → ℕ → Balance → Type 0
Sizes A B b = (b.added ≤ A * 2 ^ 56) × (b.taken ≤ B * 2 ^ 56)

-- one quotient: for t ≤ x the product t / d * h is at most x c / d sixteenths
quotient_le : (x t d D h c c' : ℕ) → 0 < D → D ≤ d → t ≤ x * 2 ^ 59 → h ≤ c * 2 ^ 56 → x * c ≤ c' * D → t / d * h / 2 ^ 59 ≤ c' * 2 ^ 56
quotient_le x t d D h c c' P l ht hh hc =
    let g = t / d in
    let v = g * h / 2 ^ 59 in
    let a : g * d ≤ t = div-mul-le_self t d in
    let b : g * D ≤ g * d = mul-le-mul_left g l in
    let e : g * D * h ≤ x * 2 ^ 59 * (c * 2 ^ 56) = mul-le-mul (le_trans b (le_trans a ht)) hh in
    let f : v * 2 ^ 59 ≤ g * h = div-mul-le_self (g * h) (2 ^ 59) in
    let f' : v * 2 ^ 59 * D ≤ g * h * D = mul-le-mul_right D f in
    let k : x * c * 2 ^ 56 ≤ c' * D * 2 ^ 56 = mul-le-mul_right (2 ^ 56) hc in
    le_of_mul-le-mul_right (le_of_mul-le-mul_right (go (2 ^ 59) (2 ^ 56) g v e f' (mul-le-mul_right (2 ^ 59) k)) (pow_pos 59)) P
  where
    go : (C U g v : ℕ) → g * D * h ≤ x * C * (c * U) → v * C * D ≤ g * h * D → x * c * U * C ≤ c' * D * U * C → v * D * C ≤ c' * U * D * C
    go C U g v e f k = simp sorted (omega (arith, simp sorted at e, simp sorted at f, simp sorted at k))

module _ (t : ℕ) (ht : t ≤ 2 ^ 63) where
  -- from a sum's tail to the sum: n is at least i
  sizes_step : (i A B A' B' n k : ℕ) → i ≤ n → 16 * B ≤ A' * two i → 16 * A ≤ B' * two i → Sizes A B (alternating_of t (n + 2) k) → Sizes (16 + A') B' (alternating_of t n (suc k))
  unfolding alternating_of
  sizes_step i A B A' B' n k l p q h =
      let rest = alternating_of t (n + 2) k in
      let x : t / two n * rest.taken / 2 ^ 59 ≤ A' * 2 ^ 56 = quotient_le 16 t (two n) (two i) rest.taken B A' (two_pos i) (two-least n i l) ht h.1 p in
      (omega arith, quotient_le 16 t (two n) (two i) rest.added A B' (two_pos i) (two-least n i l) ht h.0 q)

  sizes_end : (A B n : ℕ) → 16 ≤ A → Sizes A B (alternating_of t n 0)
  unfolding alternating_of
  sizes_end A B n h = (omega arith, zero-le)

  from_six : (n k : ℕ) → 6 ≤ n → Sizes 18 6 (alternating_of t n k)
  from_six n zero l = sizes_end 18 6 n (omega arith)
  from_six n (suc k) l = sizes_step 6 18 6 2 6 n k l (omega arith) (omega arith) (from_six (n + 2) k (omega arith))

  from_four : (n k : ℕ) → 4 ≤ n → Sizes 20 10 (alternating_of t n k)
  from_four n zero l = sizes_end 20 10 n (omega arith)
  from_four n (suc k) l = sizes_step 4 18 6 4 10 n k l (omega arith) (omega arith) (from_six (n + 2) k (omega arith))

  pub from_two : (n k : ℕ) → 2 ≤ n → Sizes 30 27 (alternating_of t n k)
  from_two n zero l = sizes_end 30 27 n (omega arith)
  from_two n (suc k) l = sizes_step 2 20 10 14 27 n k l (omega arith) (omega arith) (from_four (n + 2) k (omega arith))

  pub sizes : (n k : ℕ) → Sizes 232 240 (alternating_of t n k)
  sizes n zero = sizes_end 232 240 n (omega arith)
  sizes n (suc k) = sizes_step 0 30 27 216 240 n k zero-le (omega arith) (omega arith) (from_two (n + 2) k (omega arith))

-- for t ≤ 1 the whole is hardly more than 1
pub sizes_small : (t k : ℕ) → t ≤ 1 * 2 ^ 59 → Sizes 21 5 (alternating_of t 1 (suc k))
unfolding alternating_of
sizes_small t k ht =
    let rest = alternating_of t 3 k in
    let h = from_two t (le_trans ht (lit≤ tt)) 3 k (lit≤ tt) in
    let x : t / two 1 * rest.taken / 2 ^ 59 ≤ 5 * 2 ^ 56 = quotient_le 1 t (two 1) 6 rest.taken 27 5 (lit≤ tt) (lit≤ tt) ht h.1 (lit≤ tt) in
    (omega arith, quotient_le 1 t (two 1) 6 rest.added 30 5 (lit≤ tt) (lit≤ tt) ht h.0 (lit≤ tt))

-- ---- one step against the exact sum: v = g * h / 8U stands for a / (b d) * N / D in units of 1 / P, where 8U is 1 in t and g = t / d
step-low : (U P t a b d g h v N D : ℕ) → 0 < U → t * b ≤ a * (8 * U) → g * d ≤ t → v * (8 * U) ≤ g * h → h * D ≤ P * N → v * (d * b * D) ≤ P * (a * N)
step-low U P t a b d g h v N D hU ht hg hv ih =
    let x₁ : g * d * b ≤ t * b = mul-le-mul_right b hg in
    let x₂ : g * d * b * (h * D) ≤ a * (8 * U) * (P * N) = mul-le-mul (le_trans x₁ ht) ih in
    let x₃ : v * (8 * U) * (d * b * D) ≤ g * h * (d * b * D) = mul-le-mul_right (d * b * D) hv in
    le_of_mul-le-mul_left (go x₂ x₃) hU
  where
    go : g * d * b * (h * D) ≤ a * (8 * U) * (P * N) → v * (8 * U) * (d * b * D) ≤ g * h * (d * b * D) → U * (v * (d * b * D)) ≤ U * (P * (a * N))
    go p q = simp sorted (omega (arith, simp sorted at p, simp sorted at q))

-- t misses a / b by at most 9, h misses by at most e, and h + e is at most M sixteenths
step-high : (U P t a b d g h v N D e M r : ℕ) → 0 < U → a * (8 * U) ≤ (t + 9) * b → t < g * d + d → g * d ≤ 128 * U → g * h < v * (8 * U) + 8 * U → P * N ≤ (h + e) * D → h + e ≤ M * U
    → 128 * e + (d + 8) * M < r * (8 * d) + 8 * d → P * (a * N) ≤ (v + (2 + r)) * (d * b * D)
step-high U P t a b d g h v N D e M r hU ht hg hB hv ih hM hr =
    let x₁ : (t + 9) * (h + e) ≤ (g * d + (d + 8)) * (h + e) = mul-le-mul_right (h + e) (omega arith) in
    let x₂ : g * h * d ≤ (v * (8 * U) + 8 * U) * d = mul-le-mul_right d (omega arith) in
    let x₃ : g * d * e ≤ 128 * U * e = mul-le-mul_right e hB in
    let x₄ : (d + 8) * (h + e) ≤ (d + 8) * (M * U) = mul-le-mul_left (d + 8) hM in
    let x₅ : (128 * e + (d + 8) * M) * U ≤ (r * (8 * d) + 8 * d) * U = mul-le-mul_right U (omega arith) in
    let x₆ : (t + 9) * (h + e) ≤ 8 * U * (d * (v + (2 + r))) = middle x₁ x₂ x₃ x₄ x₅ in
    let x₇ : a * (8 * U) * (P * N) ≤ (t + 9) * b * ((h + e) * D) = mul-le-mul ht ih in
    let x₈ : (t + 9) * (h + e) * (b * D) ≤ 8 * U * (d * (v + (2 + r))) * (b * D) = mul-le-mul_right (b * D) x₆ in
    le_of_mul-le-mul_left (last (t + 9) (h + e) (v + (2 + r)) x₇ x₈) hU
  where
    middle : (t + 9) * (h + e) ≤ (g * d + (d + 8)) * (h + e) → g * h * d ≤ (v * (8 * U) + 8 * U) * d → g * d * e ≤ 128 * U * e → (d + 8) * (h + e) ≤ (d + 8) * (M * U)
        → (128 * e + (d + 8) * M) * U ≤ (r * (8 * d) + 8 * d) * U → (t + 9) * (h + e) ≤ 8 * U * (d * (v + (2 + r)))
    middle x₁ x₂ x₃ x₄ x₅ = omega arith

    last : (x y z : ℕ) → a * (8 * U) * (P * N) ≤ x * b * (y * D) → x * y * (b * D) ≤ 8 * U * (d * z) * (b * D) → U * (P * (a * N)) ≤ U * (z * (d * b * D))
    last x y z p q = simp sorted (omega (arith, simp sorted at p, simp sorted at q))

-- ---- how far the cut sum falls short: computed along the divisors
abbrev cap_added : ℕ → ℕ
cap_added n = cond (ltb n 4) 30 (cond (ltb n 6) 20 18)

abbrev cap_taken : ℕ → ℕ
cap_taken n = cond (ltb n 4) 27 (cond (ltb n 6) 10 6)

unfoldable pub short : ℕ → ℕ → Exact
short n zero = record { added = 0; taken = 0 }
short n (suc k) =
    let rest = short (n + 2) k in
    record {
      added = 2 + (128 * rest.taken + (two n + 8) * (cap_taken (n + 2) + 1)) / (8 * two n);
      taken = 2 + (128 * rest.added + (two n + 8) * (cap_added (n + 2) + 1)) / (8 * two n);
    }

-- each tail falls short by less than a sixteenth
unfoldable pub slight : ℕ → ℕ → Bool
slight n zero = true
slight n (suc k) = leb (short (n + 2) k).added (2 ^ 56) && (leb (short (n + 2) k).taken (2 ^ 56) && slight (n + 2) k)

module _ (t a b : ℕ) (ht : t ≤ 2 ^ 63) where
  caps : (n k : ℕ) → Sizes (cap_added (n + 2)) (cap_taken (n + 2)) (alternating_of t (n + 2) k)
  caps n k = go (ltb (n + 2) 4) (ltb (n + 2) 6) (nltb→le (n + 2) 4) (nltb→le (n + 2) 6)
    where
      go : (x y : Bool) → (T (not x) → 4 ≤ n + 2) → (T (not y) → 6 ≤ n + 2) → Sizes (cond x 30 (cond y 20 18)) (cond x 27 (cond y 10 6)) (alternating_of t (n + 2) k)
      go true y f g = from_two t ht (n + 2) k (omega arith)
      go false true f g = from_four t ht (n + 2) k (f tt)
      go false false f g = from_six t ht (n + 2) k (g tt)

  pub sum_low : t * b ≤ a * 2 ^ 59 → (n k : ℕ)
      → ((alternating_of t n k).added * whole b n k ≤ 2 ^ 60 * (exact a b n k).added) × ((alternating_of t n k).taken * whole b n k ≤ 2 ^ 60 * (exact a b n k).taken)
  unfolding alternating_of whole exact
  sum_low h n zero = (le_refl (2 ^ 60 * 1), zero-le)
  sum_low h n (suc k) =
      let rest = alternating_of t (n + 2) k in
      let N = exact a b (n + 2) k in
      let D = whole b (n + 2) k in
      let d = two n in
      let g = t / d in
      let ih = sum_low h (n + 2) k in
      let x = step-low (2 ^ 56) (2 ^ 60) t a b d g rest.taken (g * rest.taken / 2 ^ 59) N.taken D (pow_pos 56) h (div-mul-le_self t d) (div-mul-le_self (g * rest.taken) (2 ^ 59)) ih.1 in
      let y = step-low (2 ^ 56) (2 ^ 60) t a b d g rest.added (g * rest.added / 2 ^ 59) N.added D (pow_pos 56) h (div-mul-le_self t d) (div-mul-le_self (g * rest.added) (2 ^ 59)) ih.0 in
      (plus (2 ^ 60) (g * rest.taken / 2 ^ 59) (d * b * D) (a * N.taken) x, y)
    where
      plus : (P v D x : ℕ) → v * D ≤ P * x → (P + v) * D ≤ P * (D + x)
      plus P v D x h = omega arith

  pub sum-high : a * 2 ^ 59 ≤ (t + 9) * b → (n k : ℕ) → T (slight n k)
      → (2 ^ 60 * (exact a b n k).added ≤ ((alternating_of t n k).added + (short n k).added) * whole b n k) × (2 ^ 60 * (exact a b n k).taken ≤ ((alternating_of t n k).taken + (short n k).taken) * whole b n k)
  unfolding alternating_of whole exact short slight
  sum-high h n zero s = (omega arith, omega arith)
  sum-high h n (suc k) s =
      let rest = alternating_of t (n + 2) k in
      let e = short (n + 2) k in
      let N = exact a b (n + 2) k in
      let D = whole b (n + 2) k in
      let d = two n in
      let g = t / d in
      let s₁ = leb→le e.added (2 ^ 56) (and_l (leb e.added (2 ^ 56)) (leb e.taken (2 ^ 56) && slight (n + 2) k) s) in
      let s' = and_r (leb e.added (2 ^ 56)) (leb e.taken (2 ^ 56) && slight (n + 2) k) s in
      let s₂ = leb→le e.taken (2 ^ 56) (and_l (leb e.taken (2 ^ 56)) (slight (n + 2) k) s') in
      let ih = sum-high h (n + 2) k (and_r (leb e.taken (2 ^ 56)) (slight (n + 2) k) s') in
      let c = caps n k in
      let B : g * d ≤ 2 ^ 63 = le_trans (div-mul-le_self t d) ht in
      let x = one d g rest.taken N.taken D e.taken (cap_taken (n + 2)) (two_pos n) refl h B ih.1 c.1 s₂ in
      let y = one d g rest.added N.added D e.added (cap_added (n + 2)) (two_pos n) refl h B ih.0 c.0 s₁ in
      (plus (2 ^ 60) (g * rest.taken / 2 ^ 59) (d * b * D) (a * N.taken) (2 + (128 * e.taken + (d + 8) * (cap_taken (n + 2) + 1)) / (8 * d)) x, y)
    where
      plus : (P v D x e : ℕ) → P * x ≤ (v + e) * D → P * (D + x) ≤ (P + v + e) * D
      plus P v D x e h = omega arith

      fit : (h e c : ℕ) → h ≤ c * 2 ^ 56 → e ≤ 2 ^ 56 → h + e ≤ (c + 1) * 2 ^ 56
      fit h e c p q = omega arith

      one : (d g h N D e c : ℕ) → 0 < d → g ≡ t / d → a * 2 ^ 59 ≤ (t + 9) * b → g * d ≤ 2 ^ 63 → 2 ^ 60 * N ≤ (h + e) * D → h ≤ c * 2 ^ 56 → e ≤ 2 ^ 56
          → 2 ^ 60 * (a * N) ≤ (g * h / 2 ^ 59 + (2 + (128 * e + (d + 8) * (c + 1)) / (8 * d))) * (d * b * D)
      one d g h N D e c P q ht B ih hc he =
          let w = 128 * e + (d + 8) * (c + 1) in
          let T' : t < t / d * d + d = lt-div-mul-add P in
          let G : t < g * d + d = rw q T' in
          step-high (2 ^ 56) (2 ^ 60) t a b d g h (g * h / 2 ^ 59) N D e (c + 1) (w / (8 * d)) (pow_pos 56) ht G B (lt-div-mul-add (pow_pos 59)) ih (fit h e c hc he) (lt-div-mul-add (mul-pos (zero-lt-suc 7) P))

-- ---- the two sums in use
pub sine_slight : T (slight 1 20)
unfolding slight short
sine_slight = tt

pub cosine_slight : T (slight 0 21)
unfolding slight short
cosine_slight = tt

pub sine_short : ((short 1 20).added ≡ 31) × ((short 1 20).taken ≡ 29)
unfolding short
sine_short = (refl, refl)

pub cosine_short : ((short 0 21).added ≡ 123) × ((short 0 21).taken ≡ 125)
unfolding short
cosine_short = (refl, refl)
