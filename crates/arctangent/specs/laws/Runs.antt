-- A sum of Sums, cut, against the exact one: at most 9/8, and short by at most 4 units. Assumes nothing.
use Rattle.std.specs.Prelude.{◌≡◌}
use Rattle.std.proofs.Common.{sym, ap, ◌∙◌, mul-add, add-mul, mul_assoc, mul_comm, mul_left_comm, mul-pos, mul-le-mul, mul-le-mul_right, mul-le-mul_left, le_of_lt, zero-lt-suc, div-mul-le_self, arith, pow-add, pow_pos}
use Prim.Native.Nat.{ℕ, zero, suc, ◌+◌, ◌*◌, ◌/◌, ◌^◌, ◌≤◌, ◌<◌, zero-le}
use Rattle.std.proofs.Math.Nat.{le_of_mul-le-mul_left, lt-div-mul-add}
pub use Rattle.bits.specs.laws.Runs.{run-le}
use Rattle.arctangent.specs.Sums.{powers, run_of}
use Rattle.bounds.specs.laws.Held.{Is}

ruleset sorted = (mul-add, add-mul, mul_assoc, mul_comm, mul_left_comm)

-- ---- the exact sum is t^n times 1 / n + u / (n + d) + .. with u = t^d = a / b, as top / bottom
unfoldable pub bottom : ℕ → ℕ → ℕ → ℕ → ℕ
bottom b n d zero = 1
bottom b n d (suc k) = n * b * bottom b (n + d) d k

unfoldable pub top : ℕ → ℕ → ℕ → ℕ → ℕ → ℕ
top a b n d zero = 0
top a b n d (suc k) = b * bottom b (n + d) d k + n * a * top a b (n + d) d k

more : (n d : ℕ) → 0 < n → 0 < n + d
more n d h = omega arith

pub bottom_pos : (b n d k : ℕ) → 0 < b → 0 < n → 0 < bottom b n d k
unfolding bottom
bottom_pos b n d zero B N = zero-lt-suc 0
bottom_pos b n d (suc k) B N = mul-pos (mul-pos N B) (bottom_pos b (n + d) d k B (more n d N))

step : (pn qn n a b N D sn sd qn' pn' : ℕ) → qn' ≡ qn * b → pn' ≡ pn * a → sn * (qn' * D) ≡ pn' * N * sd → (pn * sd + sn * (n * qn)) * (qn * (n * b * D)) ≡ pn * (b * D + n * a * N) * (n * qn * sd)
step pn qn n a b N D sn sd qn' pn' e f ih =
    let h : sn * (qn * b * D) ≡ pn * a * N * sd = ap (λ (z : ℕ). sn * (z * D)) (sym e) ∙ ih ∙ ap (λ (z : ℕ). z * N * sd) f in
    go (ap (λ (z : ℕ). n * (n * qn) * z) h)
  where
    go : n * (n * qn) * (sn * (qn * b * D)) ≡ n * (n * qn) * (pn * a * N * sd) → (pn * sd + sn * (n * qn)) * (qn * (n * b * D)) ≡ pn * (b * D + n * a * N) * (n * qn * sd)
    go h = simp sorted (omega (arith, simp sorted at h))

pub nested : (p q n d k : ℕ) → Is (powers p q n d k) (p ^ n * top (p ^ d) (q ^ d) n d k) (q ^ n * bottom (q ^ d) n d k)
unfolding powers top bottom
nested p q n d zero = none (p ^ n) (q ^ n)
  where
    none : (x y : ℕ) → 0 * (y * 1) ≡ x * 0 * 1
    none x y = omega arith
nested p q n d (suc k) =
    let r = powers p q (n + d) d k in
    step (p ^ n) (q ^ n) n (p ^ d) (q ^ d) (top (p ^ d) (q ^ d) (n + d) d k) (bottom (q ^ d) (n + d) d k) r.num r.den (q ^ (n + d)) (p ^ (n + d)) (pow-add q n d) (pow-add p n d) (nested p q (n + d) d k)

-- ---- the cut sum. Here 16 U is 1 in u.
module _ (U P u a b n h v c N D : ℕ) (hU : 0 < U) where
  step-low : c * n ≤ P → u * b ≤ a * (16 * U) → v * (16 * U) ≤ u * h → h * D ≤ P * N → (c + v) * (n * b * D) ≤ P * (b * D + n * a * N)
  step-low hc hu hv ih =
      let x₁ : v * (16 * U) * (b * D) ≤ u * h * (b * D) = mul-le-mul_right (b * D) hv in
      let x₂ : u * b * (h * D) ≤ a * (16 * U) * (P * N) = mul-le-mul hu ih in
      let x₃ : v * (b * D) ≤ P * (a * N) = le_of_mul-le-mul_left (go x₁ x₂) hU in
      let x₄ : c * n * (b * D) ≤ P * (b * D) = mul-le-mul_right (b * D) hc in
      let x₅ : n * (v * (b * D)) ≤ n * (P * (a * N)) = mul-le-mul_left n x₃ in
      last x₄ x₅
    where
      go : v * (16 * U) * (b * D) ≤ u * h * (b * D) → u * b * (h * D) ≤ a * (16 * U) * (P * N) → U * (v * (b * D)) ≤ U * (P * (a * N))
      go p q = simp sorted (omega (arith, simp sorted at p, simp sorted at q))

      last : c * n * (b * D) ≤ P * (b * D) → n * (v * (b * D)) ≤ n * (P * (a * N)) → (c + v) * (n * b * D) ≤ P * (b * D + n * a * N)
      last p q = simp sorted (omega (arith, simp sorted at p, simp sorted at q))

  step-high : P < c * n + n → a * (16 * U) ≤ (u + 2) * b → u ≤ U → u * h < v * (16 * U) + 16 * U → P * N ≤ (h + 4) * D → h + 4 ≤ 10 * U → P * (b * D + n * a * N) ≤ (c + v + 4) * (n * b * D)
  step-high hc hu hB hv ih hh =
      let x₁ : u * 4 ≤ U * 4 = mul-le-mul_right 4 hB in
      let x₂ : (u + 2) * (h + 4) ≤ 16 * U * (v + 3) = omega arith in
      let x₃ : a * (16 * U) * (P * N) ≤ (u + 2) * b * ((h + 4) * D) = mul-le-mul hu ih in
      let x₄ : (u + 2) * (h + 4) * (b * D) ≤ 16 * U * (v + 3) * (b * D) = mul-le-mul_right (b * D) x₂ in
      let x₅ : P * (a * N) ≤ (v + 3) * (b * D) = le_of_mul-le-mul_left (go (u + 2) (h + 4) (v + 3) x₃ x₄) hU in
      let x₆ : n * (P * (a * N)) ≤ n * ((v + 3) * (b * D)) = mul-le-mul_left n x₅ in
      let x₇ : P * (b * D) ≤ (c * n + n) * (b * D) = mul-le-mul_right (b * D) (le_of_lt hc) in
      last x₆ x₇
    where
      go : (x y z : ℕ) → a * (16 * U) * (P * N) ≤ x * b * (y * D) → x * y * (b * D) ≤ 16 * U * z * (b * D) → U * (P * (a * N)) ≤ U * (z * (b * D))
      go x y z p q = simp sorted (omega (arith, simp sorted at p, simp sorted at q))

      last : n * (P * (a * N)) ≤ n * ((v + 3) * (b * D)) → P * (b * D) ≤ (c * n + n) * (b * D) → P * (b * D + n * a * N) ≤ (c + v + 4) * (n * b * D)
      last p q = simp sorted (omega (arith, simp sorted at p, simp sorted at q))

module _ (u a b d : ℕ) (hu : u ≤ 2 ^ 60) where
  pub run-low : u * b ≤ a * 2 ^ 64 → (n k : ℕ) → run_of u n d k * bottom b n d k ≤ 2 ^ 63 * top a b n d k
  unfolding run_of bottom top
  run-low h n zero = zero-le
  run-low h n (suc k) =
      let s = run_of u (n + d) d k in
      step-low (2 ^ 60) (2 ^ 63) u a b n s (u * s / 2 ^ 64) (2 ^ 63 / n) (top a b (n + d) d k) (bottom b (n + d) d k) (pow_pos 60)
      (div-mul-le_self (2 ^ 63) n) h (div-mul-le_self (u * s) (2 ^ 64)) (run-low h (n + d) k)

  pub run-high : a * 2 ^ 64 ≤ (u + 2) * b → (n k : ℕ) → 0 < n → 2 ^ 63 * top a b n d k ≤ (run_of u n d k + 4) * bottom b n d k
  unfolding run_of bottom top
  run-high h n zero N = zero-le
  run-high h n (suc k) N =
      let s = run_of u (n + d) d k in
      let l : s ≤ 9 * 2 ^ 60 = run-le u (n + d) d k hu in
      step-high (2 ^ 60) (2 ^ 63) u a b n s (u * s / 2 ^ 64) (2 ^ 63 / n) (top a b (n + d) d k) (bottom b (n + d) d k) (pow_pos 60)
      (lt-div-mul-add N) h hu (lt-div-mul-add (pow_pos 64)) (run-high h (n + d) k (more n d N)) (omega arith)
