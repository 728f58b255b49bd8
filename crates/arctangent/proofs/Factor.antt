-- A(p / q) = t - t³ / 3 + .. for t = p / q ≤ 1/4: what `factor_of` and `sum_of` hold of it, to 4 and to 3 units, and their sizes. Assumes nothing.
use mathlib.Core.Path.{◌≡◌, ap, ◌∙◌, subst₂}
use Prim.Native.Nat.{ℕ, suc, ◌+◌, ◌*◌, ◌/◌, ◌^◌, ◌≤◌, ◌<◌}
use native.Mathlib.Nat.{mul-add, add-mul, mul_assoc, mul_comm, mul_left_comm, mul-pos, mul-le-mul, mul-le-mul_right, mul-le-mul_left, le_trans, le_of_mul-le-mul_left, div-mul-le_self, lt-div-mul-add, div-le_of_le-mul}
use native.Mathlib.Omega.{arith}
use lib.Dec.{lit≤}
use lib.Pow.{pow_pos}
use Rattle.bounds.specs.Fractions.{Fraction}
use Rattle.arctangent.specs.Sums.{powers, run_of}
use Rattle.bounds.specs.laws.Held.{Held, Is, carry}
use Rattle.bounds.specs.laws.Squares.{cut_low, cut_high, square-low, square-high}
use Rattle.bounds.specs.laws.Powers.{pow-one, pow-two_more}
use Rattle.arctangent.specs.laws.Powers.{pow-two}
use Rattle.arctangent.specs.laws.Runs.{bottom, top, bottom_pos, nested, run-le, run-low, run-high}
use Rattle.arctangent.specs.Arctangent.{factor_of, sum_of}

ruleset sorted = (mul-add, add-mul, mul_assoc, mul_comm, mul_left_comm)

-- ---- the sizes, for any t ≤ 1/4
module _ (t : ℕ) (h : t ≤ 2 ^ 62) where
  pub square_le : t * t / 2 ^ 64 ≤ 2 ^ 60
  square_le = div-le_of_le-mul (2 ^ 64) (mul-le-mul h h)

  pub fourth_le : t * t / 2 ^ 64 * (t * t / 2 ^ 64) / 2 ^ 64 ≤ 2 ^ 60
  fourth_le = div-le_of_le-mul (2 ^ 64) (le_trans (mul-le-mul square_le square_le) (lit≤ tt))

  pub added_le : (factor_of t).added ≤ 9 * 2 ^ 60
  unfolding factor_of
  added_le = run-le (t * t / 2 ^ 64 * (t * t / 2 ^ 64) / 2 ^ 64) 1 4 11 fourth_le

  pub taken-le : (factor_of t).taken ≤ 9 * 2 ^ 56
  unfolding factor_of
  taken-le = div-le_of_le-mul (2 ^ 64) (le_trans (mul-le-mul square_le (run-le (t * t / 2 ^ 64 * (t * t / 2 ^ 64) / 2 ^ 64) 3 4 10 fourth_le)) (lit≤ tt))

  -- the first term is 1
  first : (u k : ℕ) → 2 ^ 63 ≤ run_of u 1 4 (suc k)
  unfolding run_of
  first u k = more (2 ^ 63) (u * run_of u 5 4 k / 2 ^ 64)
    where
      more : (x y : ℕ) → x ≤ x + y
      more x y = omega arith

  added_ge : 2 ^ 63 ≤ (factor_of t).added
  unfolding factor_of
  added_ge = first (t * t / 2 ^ 64 * (t * t / 2 ^ 64) / 2 ^ 64) 10

  pub taken_added : (factor_of t).taken ≤ (factor_of t).added
  taken_added = le_trans taken-le (le_trans (lit≤ tt) added_ge)

  pub sum_added_le : t * (factor_of t).added / 2 ^ 64 ≤ 9 * 2 ^ 58
  sum_added_le = div-le_of_le-mul (2 ^ 64) (le_trans (mul-le-mul h added_le) (lit≤ tt))

  pub sum-taken-le : t * (factor_of t).taken / 2 ^ 64 ≤ 9 * 2 ^ 54
  sum-taken-le = div-le_of_le-mul (2 ^ 64) (le_trans (mul-le-mul h taken-le) (lit≤ tt))

-- ---- a square cut again, and a product cut
module _ (P Q C w u : ℕ) (hC : 0 < C) where
  again_low : w * Q ≤ P * C → u * C ≤ w * w → u * (Q * Q) ≤ P * P * C
  again_low h k = le_of_mul-le-mul_left (go (mul-le-mul h h) (mul-le-mul_right (Q * Q) k)) hC
    where
      go : w * Q * (w * Q) ≤ P * C * (P * C) → u * C * (Q * Q) ≤ w * w * (Q * Q) → C * (u * (Q * Q)) ≤ C * (P * P * C)
      go a b = simp sorted (omega (arith, simp sorted at a, simp sorted at b))

  again_high : P * C ≤ (w + 2) * Q → (w + 2) * (w + 2) ≤ (u + 2) * C → P * P * C ≤ (u + 2) * (Q * Q)
  again_high h k = le_of_mul-le-mul_left (go (w + 2) (u + 2) (mul-le-mul h h) (mul-le-mul_right (Q * Q) k)) hC
    where
      go : (y z : ℕ) → P * C * (P * C) ≤ y * Q * (y * Q) → y * y * (Q * Q) ≤ z * C * (Q * Q) → C * (P * P * C) ≤ C * (z * (Q * Q))
      go y z a b = simp sorted (omega (arith, simp sorted at a, simp sorted at b))

module _ (A Q C K w h v N D : ℕ) (hC : 0 < C) where
  times-low : v * C ≤ w * h → w * Q ≤ A * C → h * D ≤ K * N → v * (Q * D) ≤ K * (A * N)
  times-low a b c = le_of_mul-le-mul_left (go (mul-le-mul_right (Q * D) a) (mul-le-mul b c)) hC
    where
      go : v * C * (Q * D) ≤ w * h * (Q * D) → w * Q * (h * D) ≤ A * C * (K * N) → C * (v * (Q * D)) ≤ C * (K * (A * N))
      go a b = simp sorted (omega (arith, simp sorted at a, simp sorted at b))

  times-high : (x y z : ℕ) → x * y ≤ z * C → A * C ≤ x * Q → K * N ≤ y * D → K * (A * N) ≤ z * (Q * D)
  times-high x y z a b c = le_of_mul-le-mul_left (go (mul-le-mul_right (Q * D) a) (mul-le-mul b c)) hC
    where
      go : x * y * (Q * D) ≤ z * C * (Q * D) → A * C * (K * N) ≤ x * Q * (y * D) → C * (K * (A * N)) ≤ C * (z * (Q * D))
      go a b = simp sorted (omega (arith, simp sorted at a, simp sorted at b))

-- what is held in units of p / q / K, times t
lifted : (p q C K t h i v z : ℕ) (x : Fraction) → 0 < C → 0 < q → t * q ≤ p * C → p * C ≤ (t + 1) * q → v * C ≤ t * h → (t + 1) * (h + i) ≤ z * C → Held p (q * K) h (h + i) x → Held 1 K v z x
lifted p q C K t h i v z x hC hq tl th vl vh a = record {
  low = le_of_mul-le-mul_left (go_low x.num x.den (mul-le-mul_right (q * x.den) vl) (mul-le-mul_right (h * x.den) tl) (mul-le-mul_left C a.low)) (mul-pos hC hq);
  high = le_of_mul-le-mul_left (go_high (t + 1) (h + i) x.num x.den (mul-le-mul_right (q * x.den) vh) (mul-le-mul_right ((h + i) * x.den) th) (mul-le-mul_left C a.high)) (mul-pos hC hq);
}
  where
    go_low : (n d : ℕ) → v * C * (q * d) ≤ t * h * (q * d) → t * q * (h * d) ≤ p * C * (h * d) → C * (h * p * d) ≤ C * (n * (q * K)) → C * q * (v * 1 * d) ≤ C * q * (n * K)
    go_low n d a b c = simp sorted (omega (arith, simp sorted at a, simp sorted at b, simp sorted at c))

    go_high : (y g n d : ℕ) → y * g * (q * d) ≤ z * C * (q * d) → p * C * (g * d) ≤ y * q * (g * d) → C * (n * (q * K)) ≤ C * (g * p * d) → C * q * (n * K) ≤ C * q * (z * 1 * d)
    go_high y g n d a b c = simp sorted (omega (arith, simp sorted at a, simp sorted at b, simp sorted at c))

-- ---- t = p / q
fourth : (x : ℕ) → x ^ 4 ≡ x * x * (x * x)
fourth x = pow-two_more x 2 ∙ ap (λ (z : ℕ). z * (x * x)) (pow-two x)

third : (x : ℕ) → x ^ 3 ≡ x * (x * x)
third x = pow-two_more x 1 ∙ ap (λ (z : ℕ). z * (x * x)) (pow-one x)

module _ (p q : ℕ) (hq : 0 < q) (quarter : 4 * p ≤ q) where
  t : ℕ
  t = p * 2 ^ 64 / q

  pub t-le : p * 2 ^ 64 / q ≤ 2 ^ 62
  t-le = div-le_of_le-mul q (go p q quarter)
    where
      go : (p q : ℕ) → 4 * p ≤ q → p * 2 ^ 64 ≤ q * 2 ^ 62
      go p q h = omega arith

  w : ℕ
  w = t * t / 2 ^ 64

  u : ℕ
  u = w * w / 2 ^ 64

  w_low : w * (q * q) ≤ p * p * 2 ^ 64
  unfolding w t
  w_low = square-low p q (2 ^ 64) hq (pow_pos 64)

  w_high : p * p * 2 ^ 64 ≤ (w + 2) * (q * q)
  unfolding w t
  w_high = square-high p q (2 ^ 64) hq (pow_pos 64) 2 (next (2 ^ 62) (p * 2 ^ 64 / q) (p * 2 ^ 64 / q * (p * 2 ^ 64 / q) / 2 ^ 64) (lt-div-mul-add (pow_pos 64)) t-le)
    where
      next : (U t w : ℕ) → t * t < w * (4 * U) + 4 * U → t ≤ U → (t + 1) * (t + 1) ≤ (w + 2) * (4 * U)
      next U t w b l = omega arith

  u_le : u ≤ 2 ^ 60
  unfolding u w t
  u_le = fourth_le t t-le

  u_low : u * (q * q * (q * q)) ≤ p * p * (p * p) * 2 ^ 64
  unfolding u
  u_low = again_low (p * p) (q * q) (2 ^ 64) w (w * w / 2 ^ 64) (pow_pos 64) w_low (div-mul-le_self (w * w) (2 ^ 64))

  w_le : w ≤ 2 ^ 60
  unfolding w t
  w_le = square_le t t-le

  u_high : p * p * (p * p) * 2 ^ 64 ≤ (u + 2) * (q * q * (q * q))
  unfolding u
  u_high = again_high (p * p) (q * q) (2 ^ 64) w (w * w / 2 ^ 64) (pow_pos 64) w_high (next (2 ^ 60) w (w * w / 2 ^ 64) (lt-div-mul-add (pow_pos 64)) w_le (lit≤ tt))
    where
      next : (U w u : ℕ) → w * w < u * (16 * U) + 16 * U → w ≤ U → 4 ≤ U → (w + 2) * (w + 2) ≤ (u + 2) * (16 * U)
      next U w u b l k = omega arith

  a : ℕ
  a = p * p * (p * p)

  b : ℕ
  b = q * q * (q * q)

  b_pos : 0 < b
  unfolding b
  b_pos = mul-pos (mul-pos hq hq) (mul-pos hq hq)

  -- the sum from degree n on, in the names of its fourth power
  exact : (n k : ℕ) → Is (powers p q n 4 k) (p ^ n * top a b n 4 k) (q ^ n * bottom b n 4 k)
  unfolding a b
  exact n k = let f = powers p q n 4 k in subst₂ (λ (x y : ℕ). f.num * (q ^ n * bottom y n 4 k) ≡ p ^ n * top x y n 4 k * f.den) (fourth p) (fourth q) (nested p q n 4 k)

  -- ---- A(t) / t
  pub factor_added : Held p (q * 2 ^ 63) (factor_of (p * 2 ^ 64 / q)).added ((factor_of (p * 2 ^ 64 / q)).added + 4) (powers p q 1 4 11)
  unfolding factor_of a b u w t
  factor_added =
      let f = powers p q 1 4 11 in
      let N = top a b 1 4 11 in
      let D = bottom b 1 4 11 in
      carry (2 ^ 63) f p q (run_of u 1 4 11) (run_of u 1 4 11 + 4) N D (bottom_pos b 1 4 11 b_pos (lit≤ tt)) (subst₂ (λ (x y : ℕ). f.num * (y * D) ≡ x * N * f.den) (pow-one p) (pow-one q) (exact 1 11))
      (run-low u a b 4 u_le u_low 1 11) (run-high u a b 4 u_le u_high 1 11 (lit≤ tt))

  pub factor_taken : Held p (q * 2 ^ 63) (factor_of (p * 2 ^ 64 / q)).taken ((factor_of (p * 2 ^ 64 / q)).taken + 4) (powers p q 3 4 10)
  unfolding factor_of a b u w t
  factor_taken =
      let f = powers p q 3 4 10 in
      let N = top a b 3 4 10 in
      let D = bottom b 3 4 10 in
      let h = run_of u 3 4 10 in
      let v = w * h / 2 ^ 64 in
      carry (2 ^ 63) f p q v (v + 4) (p * p * N) (q * q * D) (mul-pos (mul-pos hq hq) (bottom_pos b 3 4 10 b_pos (lit≤ tt)))
      (subst₂ (λ (x y : ℕ). f.num * y ≡ x * f.den) (ap (λ (x : ℕ). x * N) (third p) ∙ mul_assoc p (p * p) N) (ap (λ (x : ℕ). x * D) (third q) ∙ mul_assoc q (q * q) D) (exact 3 10))
      (times-low (p * p) (q * q) (2 ^ 64) (2 ^ 63) w h v N D (pow_pos 64) (div-mul-le_self (w * h) (2 ^ 64)) w_low (run-low u a b 4 u_le u_low 3 10))
      (times-high (p * p) (q * q) (2 ^ 64) (2 ^ 63) w h v N D (pow_pos 64) (w + 2) (h + 4) (v + 4) (room (2 ^ 60) w h v (lt-div-mul-add (pow_pos 64)) w_le (run-le u 3 4 10 u_le) (lit≤ tt)) w_high (run-high u a b 4 u_le u_high 3 10 (lit≤ tt)))
    where
      room : (U w h v : ℕ) → w * h < v * (16 * U) + 16 * U → w ≤ U → h ≤ 9 * U → 4 ≤ U → (w + 2) * (h + 4) ≤ (v + 4) * (16 * U)
      room U w h v a b c d = omega arith

  -- ---- A(t)
  raised : (h : ℕ) (x : Fraction) → h ≤ 9 * 2 ^ 60 → Held p (q * 2 ^ 63) h (h + 4) x → Held 1 (2 ^ 63) (p * 2 ^ 64 / q * h / 2 ^ 64) (p * 2 ^ 64 / q * h / 2 ^ 64 + 3) x
  raised h x l k =
      let s = p * 2 ^ 64 / q in
      lifted p q (2 ^ 64) (2 ^ 63) s h 4 (s * h / 2 ^ 64) (s * h / 2 ^ 64 + 3) x (pow_pos 64) hq (cut_low p q (2 ^ 64) hq (pow_pos 64)) (cut_high p q (2 ^ 64) hq (pow_pos 64)) (div-mul-le_self (s * h) (2 ^ 64))
      (room (2 ^ 60) s h (s * h / 2 ^ 64) (lt-div-mul-add (pow_pos 64)) t-le l (lit≤ tt)) k
    where
      room : (U t h v : ℕ) → t * h < v * (16 * U) + 16 * U → t ≤ 4 * U → h ≤ 9 * U → 4 ≤ U → (t + 1) * (h + 4) ≤ (v + 3) * (16 * U)
      room U t h v a b c d = omega arith

  pub sum_added : Held 1 (2 ^ 63) (sum_of p q).added ((sum_of p q).added + 3) (powers p q 1 4 11)
  unfolding sum_of
  sum_added = raised (factor_of (p * 2 ^ 64 / q)).added (powers p q 1 4 11) (added_le (p * 2 ^ 64 / q) t-le) factor_added

  pub sum-taken : Held 1 (2 ^ 63) (sum_of p q).taken ((sum_of p q).taken + 3) (powers p q 3 4 10)
  unfolding sum_of
  sum-taken = raised (factor_of (p * 2 ^ 64 / q)).taken (powers p q 3 4 10) (le_trans (taken-le (p * 2 ^ 64 / q) t-le) (lit≤ tt)) factor_taken
