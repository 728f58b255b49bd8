-- What is left of a number whose digits come one by one, and the rounding that writes it. Assumes nothing.
use Rattle.std.proofs.Common.{◌≡◌, ℕ, ◌+◌, ◌-◌, ◌*◌, ◌/◌, ◌%◌, ◌^◌, ◌<◌, ◌≤◌, Bool, false, ◌⊎◌, sym, refl, ap, ◌∙◌, inl, inr, mod-lt, mod-eq_of_lt, mul_assoc, mul-one, arith, pow_pos, pow-add}
use native.Mathlib.Nat.{add-mod, add-mod_right}
use lib.Ieee.{binary64, round}
use Rattle.laws.specs.laws.Flags.{lt-or-le}
use Rattle.bits.specs.Rounded.{rounded_of}
use Rattle.bits.specs.laws.Keeping.{kept_self}
use Rattle.bits.specs.laws.Once.{rounded_exact, round-shift}
use Rattle.remainder.specs.laws.Remainder.{mod_scaled, moved}

-- ---- y taken away once: r is what is left of n, and all of it where n is below 2y
abbrev pub Once : ℕ → ℕ → ℕ → Type 0
Once n y r = (r % y ≡ n % y) × (n < 2 * y → r ≡ n % y)

-- a borrow stands in the highest place
module _ (n y left : ℕ) (a : n < 2 ^ 54) (b : y < 2 ^ 53) (l : left < 2 ^ 64) (e : (left + y) % 2 ^ 64 ≡ n) where
  pub once-kept : left / 2 ^ 63 ≡ 1 → Once n y n
  once-kept h = (refl, λ _. sym (mod-eq_of_lt (let z : n < y = omega arith in z)))

  no_borrow : (left / 2 ^ 63 ≡ 1 → ⊥) → left + y ≡ n
  no_borrow h = go (lt-or-le left (2 ^ 63))
    where
      go : (left < 2 ^ 63) ⊎ (2 ^ 63 ≤ left) → left + y ≡ n
      go (inl s) = omega arith
      go (inr s) = absurd (h (omega arith))

  pub once-taken : (left / 2 ^ 63 ≡ 1 → ⊥) → Once n y left
  once-taken h =
      let w = no_borrow h in
      let same : left % y ≡ n % y = sym (add-mod_right left y) ∙ ap (λ (k : ℕ). k % y) w in
      (same, λ g. sym (mod-eq_of_lt (let z : left < y = omega arith in z)) ∙ same)

-- ---- the loop: one zero more
pub no_zeros : (x y rest : ℕ) → rest ≡ x % y → rest ≡ x * 2 ^ 0 % y
no_zeros x y rest e = e ∙ ap (λ (n : ℕ). n % y) (sym (mul-one x))

twice : (a y : ℕ) → 2 * (a % y) % y ≡ a * 2 % y
twice a y =
    ap (λ (n : ℕ). n % y) (let z : 2 * (a % y) ≡ a % y + a % y = omega arith in z)
    ∙ sym (add-mod a a y)
    ∙ ap (λ (n : ℕ). n % y) (let z : a + a ≡ a * 2 = omega arith in z)

pub rest_below : (x y i rest : ℕ) → 0 < y → rest ≡ x * 2 ^ i % y → rest < y
rest_below x y i rest p e = let b = mod-lt (x * 2 ^ i) p in omega arith

pub next_zero : (x y i rest r : ℕ) → 0 < y → rest ≡ x * 2 ^ i % y → Once (2 * rest) y r → r ≡ x * 2 ^ (i + 1) % y
next_zero x y i rest r p e o =
    o.1 (let b = rest_below x y i rest p e in omega arith)
    ∙ ap (λ (n : ℕ). 2 * n % y) e
    ∙ twice (x * 2 ^ i) y
    ∙ ap (λ (n : ℕ). n % y) (mul_assoc x (2 ^ i) 2 ∙ ap (λ (n : ℕ). x * n) (sym (pow-add 2 i 1)))

-- ---- rest * 2 ^ f units, written; and what rest is
pub rounded_rest : (s : Bool) (rest f : ℕ) → rounded_of s rest false (f + 1266) ≡ round binary64 s (rest * 2 ^ f) (2 ^ 1074)
rounded_rest s rest f =
    rounded_exact s (rest * 2 ^ (f + 1266)) rest (f + 1266) (kept_self rest (f + 1266))
    ∙ ap (λ (n : ℕ). round binary64 s n (2 ^ 2340)) (ap (λ (n : ℕ). rest * n) (pow-add 2 f 1266) ∙ sym (mul_assoc rest (2 ^ f) (2 ^ 1266)))
    ∙ round-shift binary64 s (rest * 2 ^ f) 1074 1266

pub rest_units : (d e n f rest : ℕ) → 0 < n → f ≤ e → rest ≡ d * 2 ^ (e - f) % n → rest * 2 ^ f ≡ d * 2 ^ e % (n * 2 ^ f)
rest_units d e n f rest p h q = ap (λ (n : ℕ). n * 2 ^ f) q ∙ sym (mod_scaled (d * 2 ^ (e - f)) n (2 ^ f) p (pow_pos f)) ∙ ap (λ (x : ℕ). x % (n * 2 ^ f)) (sym (moved d e f h))
