-- One round of the mean on floats from 2 ^ -26 to 1, as a round over whole numbers (Ratios.antt). Assumes nothing.
use Rattle.std.specs.Prelude.{◌≡◌, refl, ℕ, ◌+◌, ◌-◌, ◌*◌, ◌^◌, ◌≤◌, ◌<◌, T, Float}
use Rattle.std.proofs.Common.{sym, mul-pos, le_of_eq, lt_of_lt_of_le, mul-le-mul, lit≤, lit<, pow_pos}
use Rattle.std.proofs.Math.Path.{subst}
use Rattle.std.proofs.Math.Bool.{false}
use Rattle.std.proofs.Math.Nat.{le_trans, mul-le-mul_right, le_of_mul-le-mul_right}
use native.Mathlib.Omega.{arith}
use Rattle.std.specs.Float.Ieee.{binary64, round, of_bits}
use Rattle.std.specs.Float.Ieee.Exact.{HasValue}
use Rattle.std.specs.Float.Ieee.Scale.{grid, normal_of_fraction}
use Rattle.laws.specs.Arithmetic.{◌⊕◌, ◌⊗◌, 2·0}
use Rattle.laws.specs.laws.Rounding.{grid_near, round-value}
use Rattle.legendre.specs.Mean.{arithmetic_of, geometric_of}
use Rattle.laws.specs.laws.Operations.{mul_is, div_is}
use Rattle.legendre.specs.laws.Beneath.{Rooted, rooted}
use Rattle.identities.specs.laws.Nearest.{nearest_hi, nearest_lo}
use Rattle.laws.specs.laws.Sizes.{units-same, grid_most, below_overflow}
use Rattle.laws.specs.laws.Bounds.{Within, positive, add-plain, within-add, within-mul}
use Rattle.legendre.specs.laws.Rounds.{arithmetic_within, geometric_within}
use Rattle.identities.specs.laws.Ratios.{Round, rung, next, near_hi, near_lo, cancel}

-- ---- a rounded fraction in the normal range: g units, off by one part in 2 ^ 53
pub record Rounded (x : Float) (a c : ℕ) : Type 0 where
  pub g : ℕ
  pub value : HasValue x false g (2 ^ 1074)
  pub hi : 2 ^ 53 * (g * c) ≤ (2 ^ 53 + 1) * (a * 2 ^ 1074)
  pub lo : (2 ^ 53 - 1) * (a * 2 ^ 1074) ≤ 2 ^ 53 * (g * c)

pub rounded : (a c j : ℕ) → 0 < c → j < 2098 → 2 ^ 52 * c ≤ a * 2 ^ 1074 → a * 2 ^ 1074 ≤ 2 ^ j * c → Rounded (round binary64 false a c) a c
rounded a c j C J N B =
    let n = grid_near binary64 a c C (normal_of_fraction binary64 a c C N) in
    record {
      g = grid binary64 a c;
      value = round-value binary64 false a c (below_overflow (grid binary64 a c) j (grid_most a c j C J B) J);
      hi = near_hi (2 ^ 53) (a * 2 ^ 1074) (grid binary64 a c * c) n.0;
      lo = near_lo (2 ^ 53 - 1) (a * 2 ^ 1074) (grid binary64 a c * c) n.1;
    }

-- ---- a round: x and y from 2 ^ -26 to 1, neither more than N / D times the other
pub record State (x y : Float) (N D : ℕ) : Type 0 where
  pub vx : Within 1048 1074 x
  pub vy : Within 1048 1074 y
  pub up : vx.units * D ≤ vy.units * N
  pub dn : vy.units * D ≤ vx.units * N

two-value : HasValue 2·0 false 2 1
unfolding of_bits
two-value = (refl, refl)

module _ (x y : Float) (v : Within 1048 1074 x) (w : Within 1048 1074 y) where
  abbrev a : ℕ
  a = v.units

  abbrev b : ℕ
  b = w.units

  -- the sum
  added : Rounded (x ⊕ y) (a + b) (2 ^ 1074)
  added =
      let least : 2 ^ 52 ≤ a + b = le_trans (lit≤ {m = 2 ^ 52} {n = 2 ^ 1048} tt) (le_trans v.least (plus a b)) in
      let most : a + b ≤ 2 ^ 1075 = le_trans (both a (2 ^ 1074) b (2 ^ 1074) v.most w.most) (lit≤ {m = 2 ^ 1074 + 2 ^ 1074} {n = 2 ^ 1075} tt) in
      subst (λ (z : Float). Rounded z (a + b) (2 ^ 1074)) (sym (add-plain v w))
      (rounded (a + b) (2 ^ 1074) 1075 (pow_pos 1074) (lit< tt) (mul-le-mul_right (2 ^ 1074) least) (mul-le-mul_right (2 ^ 1074) most))
    where
      plus : (a b : ℕ) → a ≤ a + b
      plus a b = omega arith

      both : (a b c d : ℕ) → a ≤ b → c ≤ d → a + c ≤ b + d
      both a b c d p q = omega arith

  s : ℕ
  s = added.g

  sum_lo : (2 ^ 53 - 1) * (a + b) ≤ 2 ^ 53 * s
  unfolding s
  sum_lo = cancel (2 ^ 53 - 1) (2 ^ 53) (a + b) added.g (2 ^ 1074) (pow_pos 1074) added.lo

  sum_hi : 2 ^ 53 * s ≤ (2 ^ 53 + 1) * (a + b)
  unfolding s
  sum_hi = cancel (2 ^ 53) (2 ^ 53 + 1) added.g (a + b) (2 ^ 1074) (pow_pos 1074) added.hi

  -- its half
  halved : Rounded (arithmetic_of x y) (s * 1) (2 ^ 1074 * 2)
  unfolding arithmetic_of s
  halved =
      let r : Within 1049 1075 (x ⊕ y) = within-add (lit< tt) (lit< tt) v w in
      let e : r.units ≡ added.g = units-same (x ⊕ y) false false r.units added.g (2 ^ 1074) r.value added.value in
      let least : 2 ^ 1049 ≤ added.g = le_trans r.least (le_of_eq e) in
      let most : added.g ≤ 2 ^ 1075 = le_trans (le_of_eq (sym e)) r.most in
      subst (λ (z : Float). Rounded z (added.g * 1) (2 ^ 1074 * 2)) (sym (div_is binary64 (x ⊕ y) 2·0 false false added.g 2 (2 ^ 1074) 1 (pow_pos 1074) (lit< tt) (lit< tt) added.value two-value))
      (rounded (added.g * 1) (2 ^ 1074 * 2) 1074 (mul-pos (pow_pos 1074) (pow_pos 1)) (lit< tt) (low (2 ^ 52) (2 ^ 1049) added.g (2 ^ 1074) (lit≤ tt) least) (high (2 ^ 1074) (2 ^ 1075) added.g (2 ^ 1074) (lit≤ tt) most))
    where
      low : (l p s u : ℕ) → 2 * l ≤ p → p ≤ s → l * (u * 2) ≤ s * 1 * u
      low l p s u h k = let m : 2 * l * u ≤ s * u = mul-le-mul_right u (le_trans h k) in omega arith

      high : (q p s u : ℕ) → p ≤ 2 * q → s ≤ p → s * 1 * u ≤ q * (u * 2)
      high q p s u h k = let m : s * u ≤ 2 * q * u = mul-le-mul_right u (le_trans k h) in omega arith

  half_lo : (2 ^ 53 - 1) * s ≤ 2 * 2 ^ 53 * halved.g
  half_lo = off (2 ^ 53) (2 ^ 53 - 1) halved.g s (2 ^ 1074) (pow_pos 1074) halved.lo
    where
      off : (A B x y U : ℕ) → 0 < U → B * (y * 1 * U) ≤ A * (x * (U * 2)) → B * y ≤ 2 * A * x
      off A B x y U h p = let q : B * y * U ≤ 2 * A * x * U = omega arith in le_of_mul-le-mul_right q h

  half_hi : 2 * 2 ^ 53 * halved.g ≤ (2 ^ 53 + 1) * s
  half_hi = off (2 ^ 53) (2 ^ 53 + 1) halved.g s (2 ^ 1074) (pow_pos 1074) halved.hi
    where
      off : (A B x y U : ℕ) → 0 < U → A * (x * (U * 2)) ≤ B * (y * 1 * U) → 2 * A * x ≤ B * y
      off A B x y U h p = let q : 2 * A * x * U ≤ B * y * U = omega arith in le_of_mul-le-mul_right q h

  -- the product
  multiplied : Rounded (x ⊗ y) (a * b) (2 ^ 1074 * 2 ^ 1074)
  multiplied =
      subst (λ (z : Float). Rounded z (a * b) (2 ^ 1074 * 2 ^ 1074)) (sym (mul_is binary64 x y false false a b (2 ^ 1074) (2 ^ 1074) (pow_pos 1074) (pow_pos 1074) v.value w.value))
      (rounded (a * b) (2 ^ 1074 * 2 ^ 1074) 1074 (mul-pos (pow_pos 1074) (pow_pos 1074)) (lit< tt)
      (le_trans (lit≤ {m = 2 ^ 52 * (2 ^ 1074 * 2 ^ 1074)} {n = 2 ^ 1048 * 2 ^ 1048 * 2 ^ 1074} tt) (mul-le-mul_right (2 ^ 1074) (mul-le-mul v.least w.least)))
      (le_trans (mul-le-mul_right (2 ^ 1074) (mul-le-mul v.most w.most)) (lit≤ {m = 2 ^ 1074 * 2 ^ 1074 * 2 ^ 1074} {n = 2 ^ 1074 * (2 ^ 1074 * 2 ^ 1074)} tt)))

  n : ℕ
  n = multiplied.g * 2 ^ 1074

  prod_hi : 2 ^ 53 * n ≤ (2 ^ 53 + 1) * (a * b)
  unfolding n
  prod_hi = off (2 ^ 53) (2 ^ 53 + 1) multiplied.g (a * b) (2 ^ 1074) (pow_pos 1074) multiplied.hi
    where
      off : (A B g y U : ℕ) → 0 < U → A * (g * (U * U)) ≤ B * (y * U) → A * (g * U) ≤ B * y
      off A B g y U h p = let q : A * (g * U) * U ≤ B * y * U = omega arith in le_of_mul-le-mul_right q h

  prod_lo : (2 ^ 53 - 1) * (a * b) ≤ 2 ^ 53 * n
  unfolding n
  prod_lo = off (2 ^ 53) (2 ^ 53 - 1) multiplied.g (a * b) (2 ^ 1074) (pow_pos 1074) multiplied.lo
    where
      off : (A B g y U : ℕ) → 0 < U → B * (y * U) ≤ A * (g * (U * U)) → B * y ≤ A * (g * U)
      off A B g y U h p = let q : B * y * U ≤ A * (g * U) * U = omega arith in le_of_mul-le-mul_right q h

  -- its root
  root : Rooted (x ⊗ y) n
  unfolding n
  root =
      let r : Within 1022 1074 (x ⊗ y) = within-mul 1022 1074 (lit< tt) (lit< tt) (lit≤ tt) (lit≤ tt) v w in
      let e : r.units ≡ multiplied.g = units-same (x ⊗ y) false false r.units multiplied.g (2 ^ 1074) r.value multiplied.value in
      rooted (x ⊗ y) multiplied.g 1074 (lt_of_lt_of_le (positive r) (le_of_eq e)) multiplied.value (mul-le-mul_right (2 ^ 1074) (le_trans (le_of_eq (sym e)) r.most)) (lit< tt)

  t : ℕ
  t = root.v * 2 ^ root.k

  went : Round (2 ^ 53 - 1) (2 ^ 53) (2 ^ 52) a b s halved.g n t
  unfolding t
  went =
      record {
        sum_hi = sum_hi;
        sum_lo = sum_lo;
        half_hi = half_hi;
        half_lo = half_lo;
        prod_hi = prod_hi;
        prod_lo = prod_lo;
        root_hi = nearest_hi (2 ^ 52) n root.v (2 ^ root.k) (lit< tt) root.digits root.near.below;
        root_lo = nearest_lo (2 ^ 52) n root.v (2 ^ root.k) root.digits root.near.above;
      }

  -- the ratio after the round
  pub step : (N D N' D' : ℕ) → T (rung (2 ^ 53 - 1) (2 ^ 53) (2 ^ 52) N D N' D') → a * D ≤ b * N → b * D ≤ a * N → State (arithmetic_of x y) (geometric_of x y) N' D'
  unfolding t geometric_of
  step N D N' D' g p q =
      let r = next (2 ^ 53 - 1) (2 ^ 53) (2 ^ 52) a b s halved.g n t went N D N' D' g p q in
      let vx = arithmetic_within (lit< tt) (lit< tt) v w in
      let vy = geometric_within (lit≤ tt) (lit≤ tt) (lit< tt) v w in
      let ex : halved.g ≡ vx.units = units-same (arithmetic_of x y) false false halved.g vx.units (2 ^ 1074) halved.value vx.value in
      let ey : t ≡ vy.units = units-same (geometric_of x y) false false t vy.units (2 ^ 1074) root.value vy.value in
      record {
        vx = vx;
        vy = vy;
        up = subst (λ (z : ℕ). z * D' ≤ vy.units * N') ex (subst (λ (z : ℕ). halved.g * D' ≤ z * N') ey r.0);
        dn = subst (λ (z : ℕ). z * D' ≤ vx.units * N') ey (subst (λ (z : ℕ). t * D' ≤ z * N') ex r.1);
      }
