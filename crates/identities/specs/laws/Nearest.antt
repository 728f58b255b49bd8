-- `Between` says that twice the root of n lies between the odd multiples of t beside 2v: so the root is off by one part in 2 ^ 52 at most. Assumes nothing.
use Rattle.std.specs.Prelude.{◌≡◌, ℕ, ◌+◌, ◌-◌, ◌*◌, ◌≤◌, ◌<◌}
use Rattle.std.proofs.Common.{sym, ap, ◌∙◌, le_trans, le_of_eq, mul-le-mul, mul-le-mul_left, mul-le-mul_right, le_of_mul-le-mul_right, zero-lt-suc, arith}
use Rattle.std.proofs.Math.Nat.{mul-mul-mul_comm}
use Rattle.legendre.specs.laws.Beneath.{twice}

scale : (A x : ℕ) → A * x * (A * x) ≡ A * A * (x * x)
scale A x = mul-mul-mul_comm A x A x

quadruple : (A B x n : ℕ) → A * (4 * x) ≤ B * (n * 4) → A * x ≤ B * n
quadruple A B x n h = le_of_mul-le-mul_right (let k : A * x * 4 ≤ B * n * 4 = omega arith in k) (zero-lt-suc 3)

pub nearest_hi : (H n v t : ℕ) → 0 < H → H ≤ v → (2 * v - 1) * t * ((2 * v - 1) * t) ≤ n * 4 → H * H * (v * t * (v * t)) ≤ (H + 1) * (H + 1) * n
nearest_hi H n v t P h b =
    let w = 2 * v - 1 in
    let d : H * t ≤ w * t = mul-le-mul_right t (omega arith) in
    let l : H * (2 * (v * t)) ≤ (H + 1) * (w * t) = step H v t w (let z : 2 * v ≡ w + 1 = omega arith in z) d in
    quadruple (H * H) ((H + 1) * (H + 1)) (v * t * (v * t)) n
    (le_trans (le_of_eq (ap (λ (z : ℕ). H * H * z) (sym (twice (v * t))) ∙ sym (scale H (2 * (v * t)))))
    (le_trans (mul-le-mul l l)
    (le_trans (le_of_eq (scale (H + 1) (w * t))) (mul-le-mul_left ((H + 1) * (H + 1)) b))))
  where
    step : (H v t w : ℕ) → 2 * v ≡ w + 1 → H * t ≤ w * t → H * (2 * (v * t)) ≤ (H + 1) * (w * t)
    step H v t w e d = let f : 2 * v * (H * t) ≡ (w + 1) * (H * t) = ap (λ (z : ℕ). z * (H * t)) e in omega arith

pub nearest_lo : (H n v t : ℕ) → H ≤ v → n * 4 ≤ (2 * v + 1) * t * ((2 * v + 1) * t) → H * H * n ≤ (H + 1) * (H + 1) * (v * t * (v * t))
nearest_lo H n v t h b =
    let d : H * t ≤ v * t = mul-le-mul_right t h in
    let l : H * ((2 * v + 1) * t) ≤ (H + 1) * (2 * (v * t)) = step H v t d in
    quadruple' (H * H) ((H + 1) * (H + 1)) n (v * t * (v * t))
    (le_trans (mul-le-mul_left (H * H) b)
    (le_trans (le_of_eq (sym (scale H ((2 * v + 1) * t))))
    (le_trans (mul-le-mul l l)
    (le_of_eq (scale (H + 1) (2 * (v * t)) ∙ ap (λ (z : ℕ). (H + 1) * (H + 1) * z) (twice (v * t)))))))
  where
    step : (H v t : ℕ) → H * t ≤ v * t → H * ((2 * v + 1) * t) ≤ (H + 1) * (2 * (v * t))
    step H v t d = omega arith

    quadruple' : (A B n x : ℕ) → A * (n * 4) ≤ B * (4 * x) → A * n ≤ B * x
    quadruple' A B n x h = le_of_mul-le-mul_right (let k : A * n * 4 ≤ B * x * 4 = omega arith in k) (zero-lt-suc 3)
