-- How many binary digits a number has (`size` of lib.Ieee), of a quotient by a power of two, and with the zeros above them. Assumes nothing.
use Rattle.std.specs.Prelude.{◌≡◌, refl, ℕ, zero, suc, ◌+◌, ◌-◌, ◌*◌, ◌/◌, ◌%◌, ◌^◌, ◌≤◌, ◌<◌}
use Rattle.std.proofs.Common.{sym, ap, ◌∙◌, le_trans, le_of_eq, le_of_lt, le_antisymm, lt_of_lt_of_le, lt_of_le_of_lt, lt_of_not-le, not-le_of_lt, lt_irrefl, mul-le-mul_left, mul-le-mul_right, mul-lt-mul_of_pos_right, one-mul, suc-mul, le-div_iff_mul-le, div-lt_iff_lt-mul, arith, lit<, pow-add, pow_pos, pow_mono, shl_exact}
use Rattle.std.specs.Int.Count.{count_leading_zeros}
use Rattle.std.proofs.lemmas.Nat.{leading_top}
use Rattle.std.specs.Float.Ieee.{size}
use Rattle.std.specs.Float.Ieee.Digits.{size-lt, size-le, size_reaches}

-- ---- powers of two
pub pow_lt_back : (i j : ℕ) → 2 ^ i < 2 ^ j → i < j
pow_lt_back i j h = let g : j ≤ i → ⊥ = λ l. lt_irrefl (2 ^ i) (lt_of_lt_of_le h (pow_mono l)) in omega arith

pub mul-lt-pow : {x y : ℕ} (i j : ℕ) → x < 2 ^ i → y < 2 ^ j → x * y < 2 ^ (i + j)
mul-lt-pow {x} {y} i j a b = lt_of_le_of_lt (mul-le-mul_left x (le_of_lt b)) (lt_of_lt_of_le (mul-lt-mul_of_pos_right a (pow_pos j)) (le_of_eq (sym (pow-add 2 i j))))

-- `1 << s`
pub one_shl : (s : ℕ) → s < 64 → 1 * 2 ^ s % 2 ^ 64 ≡ 2 ^ s
one_shl s h = shl_exact 1 s 64 (lit< tt) (let z : 1 + s ≤ 64 = omega arith in z) ∙ one-mul (2 ^ s)

-- ---- `size`
pub size-gt : (n j : ℕ) → 2 ^ j ≤ n → j < size n
size-gt n j h = lt_of_not-le (λ (g : size n ≤ j). not-le_of_lt (lt_of_lt_of_le (size-lt n) (pow_mono g)) h)

pub size_exact : (n j : ℕ) → 2 ^ j ≤ n → n < 2 ^ suc j → size n ≡ suc j
size_exact n j lo hi = le_antisymm (size-le n (suc j) hi) (size-gt n j lo)

-- a quotient by 2 ^ b has b digits less, or none
pub size-div : (n b : ℕ) → size (n / 2 ^ b) ≡ size n - b
size-div n b = go (size n - b) refl
  where
    above : (j : ℕ) → size n ≤ j + b → n / 2 ^ b < 2 ^ j
    above j h = (div-lt_iff_lt-mul (pow_pos b)).1 (lt_of_lt_of_le (size-lt n) (le_trans (pow_mono h) (le_of_eq (pow-add 2 j b))))

    go : (d : ℕ) → size n - b ≡ d → size (n / 2 ^ b) ≡ d
    go zero e = le_antisymm (size-le (n / 2 ^ b) 0 (above 0 (let z : size n ≤ 0 + b = omega arith in z))) (let z : 0 ≤ size (n / 2 ^ b) = omega arith in z)
    go (suc d) e =
        size_exact (n / 2 ^ b) d
        ((le-div_iff_mul-le (pow_pos b)).1 (le_trans (le_of_eq (sym (pow-add 2 d b))) (size_reaches n (d + b) (let z : d + b < size n = omega arith in z))))
        (above (suc d) (let z : size n ≤ suc d + b = omega arith in z))

-- so a number has as many digits as its part above, and those cut off
pub size-cut : (n w e : ℕ) → n / 2 ^ e ≡ w → 0 < w → size n ≡ size w + e
size-cut n w e q h =
    let a : size w ≡ size n - e = ap size (sym q) ∙ size-div n e in
    let b : 0 < size w = size-gt w 0 h in
    omega arith

-- ---- the zeros above a number of 64 places: with them moved out its leading digit is the highest place
pub record Leading (n j : ℕ) : Type 0 where
  pub zeros : count_leading_zeros 64 n + suc j ≡ 64
  pub least : 2 ^ j ≤ n
  pub most : n < 2 ^ suc j

pub leading : (n : ℕ) → 0 < n → n < 2 ^ 64 → (j : ℕ) × Leading n j
leading n p h = let t = leading_top 64 n p h in (t.0, record { zeros = t.1; least = t.2; most = t.3 })

pub zeros-lt : (n : ℕ) → 0 < n → n < 2 ^ 64 → count_leading_zeros 64 n < 64
zeros-lt n p h = let w = leading n p h in let z = w.1.zeros in omega arith

-- a number below 2 ^ k has 64 - k zeros at least
pub zeros-ge : (n k : ℕ) → 0 < n → n < 2 ^ 64 → n < 2 ^ k → 64 ≤ count_leading_zeros 64 n + k
zeros-ge n k p h b = let w = leading n p h in let z = w.1.zeros in let j : w.0 < k = pow_lt_back w.0 k (lt_of_le_of_lt w.1.least b) in omega arith

-- moved up to t places: the leading digit is the highest of them, and one more would be 2 ^ t at most
pub moved : (n j z t : ℕ) → Leading n j → z + suc j ≡ t → (2 ^ t ≤ n * 2 ^ z * 2) × (n * 2 ^ z + 2 ^ z ≤ 2 ^ t)
moved n j z t w e =
    let lo : 2 ^ (j + z) ≤ n * 2 ^ z = le_trans (le_of_eq (pow-add 2 j z)) (mul-le-mul_right (2 ^ z) w.least) in
    let d : 2 ^ t ≡ 2 ^ (j + z) * 2 = ap (λ (x : ℕ). 2 ^ x) (let y : t ≡ j + z + 1 = omega arith in y) ∙ pow-add 2 (j + z) 1 in
    (omega arith, le_trans (le_of_eq (sym (suc-mul n (2 ^ z)))) (le_trans (mul-le-mul_right (2 ^ z) w.most) (le_of_eq (sym (pow-add 2 (suc j) z) ∙ ap (λ (x : ℕ). 2 ^ x) (let y : suc j + z ≡ t = omega arith in y)))))
