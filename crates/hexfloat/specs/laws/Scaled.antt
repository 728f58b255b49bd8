-- What is held, rounded, is the number rounded. Assumes nothing.
use Rattle.std.specs.Prelude.{◌≡◌, ℕ, zero, suc, ◌+◌, ◌*◌, ◌-◌, ◌/◌, ◌^◌, ◌≤◌, ◌<◌, Bool}
use Rattle.std.proofs.Math.Path.{refl, sym}
use Rattle.std.proofs.Common.{ap, ◌∙◌, mul_assoc, mul_comm, mul_left_comm, mul-le-mul_right, le_trans, le_of_lt, le_of_eq, add_comm, lit≤, pow-add, pow_pos, pow_mono, ltb-true, ltb-false}
use Rattle.std.proofs.Math.Nat.{div-eq_of_lt}
use native.Mathlib.Omega.{arith}
use Rattle.std.proofs.Math.Bool.{true, false, cond}
use Rattle.std.proofs.Math.Dec.{ltb}
use Rattle.std.specs.Float.Ieee.{binary64, round, size, units}
use Rattle.std.specs.Float.Ieee.Fits.{core, round_is}
use Rattle.std.specs.Float.Ieee.Nearest.{closest, closest_mono}
use Rattle.std.specs.Float.Ieee.Scale.{round_same}
use Rattle.bits.specs.Rounded.{Kept, rounded_of}
use Rattle.bits.specs.laws.Keeping.{kept_scaled}
use Rattle.bits.specs.laws.Once.{rounded_kept, rounded_exact}
use Rattle.hexfloat.specs.declared.digits.Held.{Held}
use Rattle.hexfloat.specs.Steps.{scaled_of, Holds}
use Rattle.hexfloat.specs.laws.Holding.{all_held}

-- ---- below half of the smallest f64 nothing is left
tiny-at : (s : Bool) (x c : ℕ) → 0 < c → x * 4 ≤ c → core binary64 s x c (size (x / c) - 53) ≡ units binary64 s 0 0
unfolding units size
tiny-at s x c C h =
    let z : x / c ≡ 0 = div-eq_of_lt (less x c C h) in
    ap (λ (y : ℕ). core binary64 s x c (size y - 53)) z ∙ ap (λ (y : ℕ). units binary64 s y 0) (least (closest x (c * 1)) (closest_mono x (c * 1) 1 4 (one c C) (lit≤ tt) (quarter x c h)))
  where
    less : (x c : ℕ) → 0 < c → x * 4 ≤ c → x < c
    less x c C h = omega arith

    one : (c : ℕ) → 0 < c → 0 < c * 1
    one c C = omega arith

    quarter : (x c : ℕ) → x * 4 ≤ c → x * 4 ≤ 1 * (c * 1)
    quarter x c h = omega arith

    least : (k : ℕ) → k ≤ 0 → k ≡ 0
    least k h = omega arith

tiny : (s : Bool) (a c : ℕ) → 0 < c → a * 2 ^ 1074 * 4 ≤ c → round binary64 s a c ≡ units binary64 s 0 0
tiny s a c C h = round_is binary64 s a c ∙ tiny-at s (a * 2 ^ 1074) c C h

-- ---- powers of two
scaled_lt : (n up : ℕ) → n < 2 ^ 160 → n * 2 ^ up * 2 ^ 1074 * 4 ≤ 2 ^ (1236 + up)
scaled_lt n up l =
    le_trans (times n (2 ^ 160) (2 ^ up) (2 ^ 1074) (le_of_lt l)) (le_of_eq (turn (2 ^ 160) (2 ^ up) (2 ^ 1074) 4 ∙ sym (pow-add 2 1236 up)))
  where
    times : (n m u p : ℕ) → n ≤ m → n * u * p * 4 ≤ m * u * p * 4
    times n m u p h = mul-le-mul_right 4 (mul-le-mul_right p (mul-le-mul_right u h))

    turn : (a u p q : ℕ) → a * u * p * q ≡ a * p * q * u
    turn a u p q = simp (mul_assoc, mul_comm, mul_left_comm)

moved : (n e down up : ℕ) → e + down ≡ 2340 + up → n * 2 ^ e * 2 ^ down ≡ n * 2 ^ up * 2 ^ 2340
moved n e down up q =
    mul_assoc n (2 ^ e) (2 ^ down) ∙ ap (λ (x : ℕ). n * x) (sym (pow-add 2 e down) ∙ ap (λ (x : ℕ). 2 ^ x) (q ∙ add_comm 2340 up) ∙ pow-add 2 up 2340) ∙ sym (mul_assoc n (2 ^ up) (2 ^ 2340))

kept_up : (n w e j : ℕ) (m : Bool) → Kept n w e m → Kept (n * 2 ^ j) w (j + e) m
kept_up n w e j m K = rw (add_comm j e) (kept_scaled n w e j m K)

many : (a : ℕ) → 2 ^ 124 ≤ a → 2 ^ 53 ≤ a
many a h = le_trans (lit≤ tt) h

-- ---- the law
module _ (s : Bool) (n : ℕ) (h : Held) (H : Holds n h) (small : n < 2 ^ 160) (up down : ℕ) where
  rounded_held : (j : ℕ) → rounded_of s h.digits h.more (j + 4 * h.dropped) ≡ round binary64 s (n * 2 ^ j) (2 ^ 2340)
  rounded_held j = go h.dropped H.full h.more H.kept
    where
      go : (k : ℕ) → (0 < k → 2 ^ 124 ≤ h.digits) → (m : Bool) → Kept n h.digits (4 * k) m → rounded_of s h.digits m (j + 4 * k) ≡ round binary64 s (n * 2 ^ j) (2 ^ 2340)
      go zero f m K =
          let w = h.digits in
          let e = (all_held n w m K).1 in
          ap (λ (t : Bool). rounded_of s w t (j + 0)) e ∙ rounded_exact s (n * 2 ^ j) w (j + 0) (rw (← e) (kept_up n w 0 j m K))
      go (suc k) f m K = rounded_kept s (n * 2 ^ j) h.digits (j + 4 * suc k) m (kept_up n _ (4 * suc k) j m K) (many h.digits (f (omega arith)))

  far_down : 2340 + up < down → rounded_of s 0 false 0 ≡ round binary64 s (n * 2 ^ up) (2 ^ down)
  unfolding rounded_of
  far_down l =
      tiny s ((2 * 0 + cond false 1 0) * 2 ^ 0) (2 ^ 2341) (pow_pos 2341) (lit≤ tt)
      ∙ sym (tiny s (n * 2 ^ up) (2 ^ down) (pow_pos down) (le_trans (scaled_lt n up small) (pow_mono {i = 1236 + up} (let k : 1236 + up ≤ down = omega arith in k))))

  in_reach : down ≤ 2340 + up → rounded_of s h.digits h.more (2340 + up - down + 4 * h.dropped) ≡ round binary64 s (n * 2 ^ up) (2 ^ down)
  in_reach l = rounded_held (2340 + up - down) ∙ round_same binary64 s (n * 2 ^ (2340 + up - down)) (2 ^ 2340) (n * 2 ^ up) (2 ^ down) (pow_pos 2340) (pow_pos down) (moved n (2340 + up - down) down up (omega arith))

  pub scaled_is : scaled_of s h up down ≡ round binary64 s (n * 2 ^ up) (2 ^ down)
  unfolding scaled_of
  scaled_is = go (ltb (2340 + up) down) refl
    where
      go : (t : Bool) → ltb (2340 + up) down ≡ t
          → cond t (rounded_of s 0 false 0) (rounded_of s h.digits h.more (2340 + up - down + 4 * h.dropped)) ≡ round binary64 s (n * 2 ^ up) (2 ^ down)
      go true e = far_down (ltb-true (2340 + up) down e)
      go false e = in_reach (ltb-false (2340 + up) down e)
