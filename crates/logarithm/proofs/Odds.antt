-- The sum of the logarithm, S(p / q) = 2 (t + t³ / 3 + ..): `part_of` holds it to 3 units. Assumes nothing.
use mathlib.Core.Path.{◌≡◌, sym, ap, ◌∙◌, subst₂}
use Prim.Native.Nat.{ℕ, zero, suc, ◌+◌, ◌*◌, ◌/◌, ◌^◌, ◌≤◌, ◌<◌, zero-le}
use native.Mathlib.Nat.{mul-add, add-mul, mul_assoc, mul_comm, mul_left_comm, one-mul, mul-pos, mul-le-mul, mul-le-mul_right, mul-le-mul_left, le_trans, le_of_lt, le_of_mul-le-mul_right, le_of_mul-le-mul_left, zero-lt-suc, div-mul-le_self, lt-div-mul-add, div-le_of_le-mul, div-le_self}
use native.Mathlib.Omega.{arith}
use lib.Dec.{lit≤}
use lib.Pow.{pow_pos}
use Rattle.logarithm.specs.Series.{odds, S}
use Rattle.logarithm.specs.Logarithm.{odds_of, part_of, third}
use Rattle.bounds.specs.laws.Held.{Held, Is, carry, twice_held}
use Rattle.bounds.specs.laws.Squares.{cut_low, cut_high, square-low, square-high}
use Rattle.bounds.specs.laws.Powers.{pow-one, pow-two_more}

ruleset sorted = (mul-add, add-mul, mul_assoc, mul_comm, mul_left_comm)

-- ---- the sum is t^n times 1 / n + w / (n + 2) + .. with w = t² = a / b, as top / bottom
unfoldable bottom : ℕ → ℕ → ℕ → ℕ
bottom b n zero = 1
bottom b n (suc k) = n * b * bottom b (n + 2) k

unfoldable top : ℕ → ℕ → ℕ → ℕ → ℕ
top a b n zero = 0
top a b n (suc k) = b * bottom b (n + 2) k + n * a * top a b (n + 2) k

bottom_pos : (b n k : ℕ) → 0 < b → 0 < n → 0 < bottom b n k
unfolding bottom
bottom_pos b n zero B N = zero-lt-suc 0
bottom_pos b n (suc k) B N = mul-pos (mul-pos N B) (bottom_pos b (n + 2) k B (more n))
  where
    more : (n : ℕ) → 0 < n + 2
    more n = omega arith

step : (pn qn n a b N D sn sd qn' pn' : ℕ) → qn' ≡ qn * b → pn' ≡ pn * a → sn * (qn' * D) ≡ pn' * N * sd → (pn * sd + sn * (n * qn)) * (qn * (n * b * D)) ≡ pn * (b * D + n * a * N) * (n * qn * sd)
step pn qn n a b N D sn sd qn' pn' e f ih =
    let h : sn * (qn * b * D) ≡ pn * a * N * sd = ap (λ (z : ℕ). sn * (z * D)) (sym e) ∙ ih ∙ ap (λ (z : ℕ). z * N * sd) f in
    go (ap (λ (z : ℕ). n * (n * qn) * z) h)
  where
    go : n * (n * qn) * (sn * (qn * b * D)) ≡ n * (n * qn) * (pn * a * N * sd) → (pn * sd + sn * (n * qn)) * (qn * (n * b * D)) ≡ pn * (b * D + n * a * N) * (n * qn * sd)
    go h = simp sorted (omega (arith, simp sorted at h))

nested : (p q n k : ℕ) → Is (odds p q n k) (p ^ n * top (p * p) (q * q) n k) (q ^ n * bottom (q * q) n k)
unfolding odds top bottom
nested p q n zero = none (p ^ n) (q ^ n)
  where
    none : (x y : ℕ) → 0 * (y * 1) ≡ x * 0 * 1
    none x y = omega arith
nested p q n (suc k) =
    let r = odds p q (n + 2) k in
    step (p ^ n) (q ^ n) n (p * p) (q * q) (top (p * p) (q * q) (n + 2) k) (bottom (q * q) (n + 2) k) r.num r.den (q ^ (n + 2)) (p ^ (n + 2)) (pow-two_more q n) (pow-two_more p n) (nested p q (n + 2) k)

-- ---- the cut sum: at most 9/8, and short by at most 4 units of 2^-63. Here 16 U is 1 in w.
pub odds-le : (w n k : ℕ) → w ≤ 2 ^ 60 → odds_of w n k ≤ 9 * 2 ^ 60
unfolding odds_of
odds-le w n zero h = zero-le
odds-le w n (suc k) h =
    let x : 2 ^ 63 / n ≤ 2 ^ 63 = div-le_self (2 ^ 63) n in
    let y : w * odds_of w (n + 2) k / 2 ^ 64 ≤ 9 * 2 ^ 56 = div-le_of_le-mul (2 ^ 64) (le_trans (mul-le-mul h (odds-le w (n + 2) k h)) (lit≤ tt)) in
    omega arith

module _ (U P w a b n h v c N D : ℕ) (hU : 0 < U) where
  step-low : c * n ≤ P → w * b ≤ a * (16 * U) → v * (16 * U) ≤ w * h → h * D ≤ P * N → (c + v) * (n * b * D) ≤ P * (b * D + n * a * N)
  step-low hc hw hv ih =
      let x₁ : v * (16 * U) * (b * D) ≤ w * h * (b * D) = mul-le-mul_right (b * D) hv in
      let x₂ : w * b * (h * D) ≤ a * (16 * U) * (P * N) = mul-le-mul hw ih in
      let x₃ : v * (b * D) ≤ P * (a * N) = le_of_mul-le-mul_left (go x₁ x₂) hU in
      let x₄ : c * n * (b * D) ≤ P * (b * D) = mul-le-mul_right (b * D) hc in
      let x₅ : n * (v * (b * D)) ≤ n * (P * (a * N)) = mul-le-mul_left n x₃ in
      last x₄ x₅
    where
      go : v * (16 * U) * (b * D) ≤ w * h * (b * D) → w * b * (h * D) ≤ a * (16 * U) * (P * N) → U * (v * (b * D)) ≤ U * (P * (a * N))
      go p q = simp sorted (omega (arith, simp sorted at p, simp sorted at q))

      last : c * n * (b * D) ≤ P * (b * D) → n * (v * (b * D)) ≤ n * (P * (a * N)) → (c + v) * (n * b * D) ≤ P * (b * D + n * a * N)
      last p q = simp sorted (omega (arith, simp sorted at p, simp sorted at q))

  step-high : P < c * n + n → a * (16 * U) ≤ (w + 2) * b → w ≤ U → w * h < v * (16 * U) + 16 * U → P * N ≤ (h + 4) * D → h + 4 ≤ 10 * U → P * (b * D + n * a * N) ≤ (c + v + 4) * (n * b * D)
  step-high hc hw hB hv ih hh =
      let x₁ : w * 4 ≤ U * 4 = mul-le-mul_right 4 hB in
      let x₂ : (w + 2) * (h + 4) ≤ 16 * U * (v + 3) = omega arith in
      let x₃ : a * (16 * U) * (P * N) ≤ (w + 2) * b * ((h + 4) * D) = mul-le-mul hw ih in
      let x₄ : (w + 2) * (h + 4) * (b * D) ≤ 16 * U * (v + 3) * (b * D) = mul-le-mul_right (b * D) x₂ in
      let x₅ : P * (a * N) ≤ (v + 3) * (b * D) = le_of_mul-le-mul_left (go (w + 2) (h + 4) (v + 3) x₃ x₄) hU in
      let x₆ : n * (P * (a * N)) ≤ n * ((v + 3) * (b * D)) = mul-le-mul_left n x₅ in
      let x₇ : P * (b * D) ≤ (c * n + n) * (b * D) = mul-le-mul_right (b * D) (le_of_lt hc) in
      last x₆ x₇
    where
      go : (x y z : ℕ) → a * (16 * U) * (P * N) ≤ x * b * (y * D) → x * y * (b * D) ≤ 16 * U * z * (b * D) → U * (P * (a * N)) ≤ U * (z * (b * D))
      go x y z p q = simp sorted (omega (arith, simp sorted at p, simp sorted at q))

      last : n * (P * (a * N)) ≤ n * ((v + 3) * (b * D)) → P * (b * D) ≤ (c * n + n) * (b * D) → P * (b * D + n * a * N) ≤ (c + v + 4) * (n * b * D)
      last p q = simp sorted (omega (arith, simp sorted at p, simp sorted at q))

module _ (w a b : ℕ) (hw : w ≤ 2 ^ 60) where
  odds-low : w * b ≤ a * 2 ^ 64 → (n k : ℕ) → odds_of w n k * bottom b n k ≤ 2 ^ 63 * top a b n k
  unfolding odds_of bottom top
  odds-low h n zero = zero-le
  odds-low h n (suc k) =
      let s = odds_of w (n + 2) k in
      step-low (2 ^ 60) (2 ^ 63) w a b n s (w * s / 2 ^ 64) (2 ^ 63 / n) (top a b (n + 2) k) (bottom b (n + 2) k) (pow_pos 60)
      (div-mul-le_self (2 ^ 63) n) h (div-mul-le_self (w * s) (2 ^ 64)) (odds-low h (n + 2) k)

  odds-high : a * 2 ^ 64 ≤ (w + 2) * b → (n k : ℕ) → 0 < n → 2 ^ 63 * top a b n k ≤ (odds_of w n k + 4) * bottom b n k
  unfolding odds_of bottom top
  odds-high h n zero N = zero-le
  odds-high h n (suc k) N =
      let s = odds_of w (n + 2) k in
      let l : s ≤ 9 * 2 ^ 60 = odds-le w (n + 2) k hw in
      step-high (2 ^ 60) (2 ^ 63) w a b n s (w * s / 2 ^ 64) (2 ^ 63 / n) (top a b (n + 2) k) (bottom b (n + 2) k) (pow_pos 60)
      (lt-div-mul-add N) h hw (lt-div-mul-add (pow_pos 64)) (odds-high h (n + 2) k (omega arith)) (omega arith)

-- ---- a part: t = p / q ≤ 1/5
module _ (p q : ℕ) (hq : 0 < q) (fifth : 5 * p ≤ q) where
  t : ℕ
  t = p * 2 ^ 64 / q

  pub t-le : 5 * (p * 2 ^ 64 / q) ≤ 2 ^ 64
  t-le = le_of_mul-le-mul_right (go (2 ^ 64) (p * 2 ^ 64 / q) (cut_low p q (2 ^ 64) hq (pow_pos 64))) hq
    where
      go : (C t : ℕ) → t * q ≤ p * C → 5 * t * q ≤ C * q
      go C t h = let k : 5 * p * C ≤ q * C = mul-le-mul_right C fifth in omega arith

  pub w_le : p * 2 ^ 64 / q * (p * 2 ^ 64 / q) / 2 ^ 64 ≤ 2 ^ 60
  w_le = div-le_of_le-mul (2 ^ 64) (le_trans (mul-le-mul (quarter (p * 2 ^ 64 / q) t-le) (quarter (p * 2 ^ 64 / q) t-le)) (lit≤ tt))
    where
      quarter : (t : ℕ) → 5 * t ≤ 2 ^ 64 → t ≤ 2 ^ 62
      quarter t h = omega arith

  w : ℕ
  w = t * t / 2 ^ 64

  w_high : p * p * 2 ^ 64 ≤ (w + 2) * (q * q)
  unfolding w t
  w_high = square-high p q (2 ^ 64) hq (pow_pos 64) 2 (next (2 ^ 64) (p * 2 ^ 64 / q) (p * 2 ^ 64 / q * (p * 2 ^ 64 / q) / 2 ^ 64) (lt-div-mul-add (pow_pos 64)) t-le)
    where
      next : (C t w : ℕ) → t * t < w * C + C → 5 * t ≤ C → (t + 1) * (t + 1) ≤ (w + 2) * C
      next C t w b l = omega arith

  h : ℕ
  h = odds_of w 1 21

  D : ℕ
  D = bottom (q * q) 1 21

  N : ℕ
  N = top (p * p) (q * q) 1 21

  -- t h against p / q * N / D
  part_low : t * h / 2 ^ 64 * (q * D) ≤ 2 ^ 63 * (p * N)
  unfolding h D N w t
  part_low =
      let x₁ : t * h / 2 ^ 64 * 2 ^ 64 ≤ t * h = div-mul-le_self (t * h) (2 ^ 64) in
      let x₂ : t * q * (h * D) ≤ p * 2 ^ 64 * (2 ^ 63 * N) = mul-le-mul (cut_low p q (2 ^ 64) hq (pow_pos 64)) (odds-low w (p * p) (q * q) w_le (square-low p q (2 ^ 64) hq (pow_pos 64)) 1 21) in
      le_of_mul-le-mul_left (go (2 ^ 64) (2 ^ 63) t h D N (t * h / 2 ^ 64) (mul-le-mul_right (q * D) x₁) x₂) (pow_pos 64)
    where
      go : (C P t h D N v : ℕ) → v * C * (q * D) ≤ t * h * (q * D) → t * q * (h * D) ≤ p * C * (P * N) → C * (v * (q * D)) ≤ C * (P * (p * N))
      go C P t h D N v a b = simp sorted (omega (arith, simp sorted at a, simp sorted at b))

  part_high : 2 ^ 63 * (p * N) ≤ (t * h / 2 ^ 64 + 3) * (q * D)
  unfolding h D N w t
  part_high =
      let v = t * h / 2 ^ 64 in
      let x₁ : t * h < v * 2 ^ 64 + 2 ^ 64 = lt-div-mul-add (pow_pos 64) in
      let x₂ : (t + 1) * (h + 4) ≤ (v + 3) * (16 * 2 ^ 60) = room (2 ^ 60) t h v x₁ t-le (odds-le w 1 21 w_le) (lit≤ tt) in
      let x₃ : p * 2 ^ 64 * (2 ^ 63 * N) ≤ (t + 1) * q * ((h + 4) * D) = mul-le-mul (cut_high p q (2 ^ 64) hq (pow_pos 64)) (odds-high w (p * p) (q * q) w_le w_high 1 21 (lit≤ tt)) in
      le_of_mul-le-mul_left (go (2 ^ 64) (2 ^ 63) (t + 1) (h + 4) D N (v + 3) (mul-le-mul_right (q * D) x₂) x₃) (pow_pos 64)
    where
      room : (U t h v : ℕ) → t * h < v * (16 * U) + 16 * U → 5 * t ≤ 16 * U → h ≤ 9 * U → 4 ≤ U → (t + 1) * (h + 4) ≤ (v + 3) * (16 * U)
      room U t h v a b c d = omega arith

      go : (C P y z D N v : ℕ) → y * z * (q * D) ≤ v * C * (q * D) → p * C * (P * N) ≤ y * q * (z * D) → C * (P * (p * N)) ≤ C * (v * (q * D))
      go C P y z D N v a b = simp sorted (omega (arith, simp sorted at a, simp sorted at b))

  pub part_held : Held 1 (2 ^ 62) (part_of p q) (part_of p q + 3) (S p q)
  unfolding part_of h D N w t
  part_held =
      let f = odds p q 1 21 in
      let e : Is f (1 * (p * N)) (1 * (q * D)) =
      subst₂ (λ (x y : ℕ). f.num * y ≡ x * f.den) (sym (one-mul (p * N))) (sym (one-mul (q * D)))
      (subst₂ (λ (x y : ℕ). f.num * (y * D) ≡ x * N * f.den) (pow-one p) (pow-one q) (nested p q 1 21)) in
      twice_held 1 (2 ^ 62) (part_of p q) (part_of p q + 3) f (carry (2 ^ 63) f 1 1 (part_of p q) (part_of p q + 3) (p * N) (q * D) (mul-pos hq (bottom_pos (q * q) 1 21 (mul-pos hq hq) (lit≤ tt))) e part_low part_high)

  pub part_le : part_of p q ≤ 2 ^ 61
  unfolding part_of h w t
  part_le = div-le_of_le-mul (2 ^ 64) (five t h (2 ^ 64) (2 ^ 60) (mul-le-mul t-le (odds-le w 1 21 w_le)))
    where
      five : (t h C U : ℕ) → 5 * t * h ≤ C * (9 * U) → t * h ≤ C * (2 * U)
      five t h C U k = omega arith

-- ---- the constant
pub third-held : Held 1 (2 ^ 62) third (third + 1) (S 1 3)
unfolding odds
third-held = record { low = lit≤ tt; high = lit≤ tt }
