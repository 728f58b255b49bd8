-- A fraction p / q cut to units of 1 / C, and its square cut again: from below and from above. Assumes nothing.
use Rattle.std.specs.Prelude.{ℕ, ◌+◌, ◌*◌, ◌/◌, ◌≤◌, ◌<◌}
use Rattle.std.proofs.Common.{mul-add, add-mul, mul_assoc, mul_comm, mul_left_comm, mul-le-mul_right, arith}
use Rattle.std.proofs.Math.Nat.{mul-le-mul, le_of_mul-le-mul_left, div-mul-le_self, lt-div-mul-add}

ruleset sorted = (mul-add, add-mul, mul_assoc, mul_comm, mul_left_comm)

module _ (p q C : ℕ) (hq : 0 < q) (hC : 0 < C) where
  pub cut : ℕ
  cut = p * C / q

  pub cut_low : p * C / q * q ≤ p * C
  cut_low = div-mul-le_self (p * C) q

  pub cut_high : p * C ≤ (p * C / q + 1) * q
  cut_high = let h : p * C < p * C / q * q + q = lt-div-mul-add hq in omega arith

  pub square-low : p * C / q * (p * C / q) / C * (q * q) ≤ p * p * C
  unfolding cut
  square-low =
      let a : cut * q * (cut * q) ≤ p * C * (p * C) = mul-le-mul cut_low cut_low in
      let b : cut * cut / C * C ≤ cut * cut = div-mul-le_self (cut * cut) C in
      le_of_mul-le-mul_left (go cut (cut * cut / C) a (mul-le-mul_right (q * q) b)) hC
    where
      go : (x t : ℕ) → x * q * (x * q) ≤ p * C * (p * C) → t * C * (q * q) ≤ x * x * (q * q) → C * (t * (q * q)) ≤ C * (p * p * C)
      go x t a b = simp sorted (omega (arith, simp sorted at a, simp sorted at b))

  -- m units more than the cut square hold the next whole number's square
  pub square-high : (m : ℕ) → (p * C / q + 1) * (p * C / q + 1) ≤ (p * C / q * (p * C / q) / C + m) * C → p * p * C ≤ (p * C / q * (p * C / q) / C + m) * (q * q)
  unfolding cut
  square-high m h =
      let a : p * C * (p * C) ≤ (cut + 1) * q * ((cut + 1) * q) = mul-le-mul cut_high cut_high in
      le_of_mul-le-mul_left (go (cut + 1) (cut * cut / C + m) a (mul-le-mul_right (q * q) h)) hC
    where
      go : (y t : ℕ) → p * C * (p * C) ≤ y * q * (y * q) → y * y * (q * q) ≤ t * C * (q * q) → C * (p * p * C) ≤ C * (t * (q * q))
      go y t a b = simp sorted (omega (arith, simp sorted at a, simp sorted at b))
