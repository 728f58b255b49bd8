-- What is kept of a number (`Kept`): how to show it, and how it changes when the number is cut, scaled, or has another added or taken away. Assumes nothing.
use Rattle.std.specs.Prelude.{◌≡◌, ℕ, ◌+◌, ◌-◌, ◌*◌, ◌/◌, ◌%◌, ◌^◌, ◌<◌, ◌≤◌, Bool, true, false, cond, ◌||◌, ltb, nat_lt, refl}
use Rattle.std.proofs.Common.{sym, ap, ◌∙◌, subst, add_comm, add-zero, add-mul, mul_assoc, div-add-mod', mul-div_cancel, mod-lt, mul-lt-mul_of_pos_right, lt_of_mul-lt-mul_right, lt_of_lt_of_le, le_of_eq, arith, pow-add, pow_pos, shr-shr}
use Rattle.std.proofs.Math.Nat.{mul-mod_left, mul-add-div_right, mul-add-mod_self_right, pos_of_div-pos}
use Rattle.std.proofs.Math.Arith.{digits_div, digits_mod}
use Rattle.std.proofs.lemmas.Nat.{mod-pow-add}
use Rattle.laws.specs.laws.Flags.{is_some, some_of, none_of, some_sum}
use Rattle.bits.specs.Rounded.{Kept}

-- ---- to show it
pub kept-digits : (n w e r : ℕ) (m : Bool) → n ≡ w * 2 ^ e + r → r < 2 ^ e → nat_lt 0 r ≡ m → Kept n w e m
kept-digits n w e r m q l z = record { whole = ap (λ (x : ℕ). x / 2 ^ e) q ∙ digits_div w l; rest = ap (λ (x : ℕ). ltb 0 (x % 2 ^ e)) q ∙ ap (ltb 0) (digits_mod w l) ∙ z }

pub kept_self : (w e : ℕ) → Kept (w * 2 ^ e) w e false
kept_self w e = record { whole = mul-div_cancel w (pow_pos e); rest = ap (ltb 0) (mul-mod_left w (2 ^ e)) }

-- ---- what it tells
pub kept_split : (n w e : ℕ) (m : Bool) → Kept n w e m → n ≡ w * 2 ^ e + n % 2 ^ e
kept_split n w e m k = sym (div-add-mod' n (2 ^ e)) ∙ ap (λ (x : ℕ). x * 2 ^ e + n % 2 ^ e) k.whole

pub kept-all : (n w e : ℕ) → Kept n w e false → n ≡ w * 2 ^ e
kept-all n w e k = kept_split n w e false k ∙ ap (λ (x : ℕ). w * 2 ^ e + x) (none_of (n % 2 ^ e) k.rest) ∙ add-zero (w * 2 ^ e)

pub kept_pos : (n w e : ℕ) (m : Bool) → Kept n w e m → 0 < w → 0 < n
kept_pos n w e m k h = pos_of_div-pos (2 ^ e) (lt_of_lt_of_le h (le_of_eq (sym k.whole)))

-- ---- cut by s digits more
pub kept_high : (n w e s : ℕ) (m : Bool) → Kept n w e m → n / 2 ^ (s + e) ≡ w / 2 ^ s
kept_high n w e s m k = ap (λ (x : ℕ). n / 2 ^ x) (add_comm s e) ∙ sym (shr-shr n e s) ∙ ap (λ (x : ℕ). x / 2 ^ s) k.whole

pub kept_rest : (n w e s : ℕ) (m : Bool) → Kept n w e m → nat_lt 0 (n % 2 ^ (s + e)) ≡ (m || nat_lt 0 (w % 2 ^ s))
kept_rest n w e s m k =
    ap (λ (x : ℕ). ltb 0 x) (mod-pow-add n s e)
    ∙ some_sum (n / 2 ^ e % 2 ^ s) (2 ^ e) (n % 2 ^ e) (pow_pos e)
    ∙ (λ i. k.rest i || nat_lt 0 (k.whole i % 2 ^ s))

pub kept-cut : (n w e s : ℕ) (m : Bool) → Kept n w e m → Kept n (w / 2 ^ s) (s + e) (m || nat_lt 0 (w % 2 ^ s))
kept-cut n w e s m k = record { whole = kept_high n w e s m k; rest = kept_rest n w e s m k }

-- ---- times a power of two
pub kept_scaled : (n w e j : ℕ) (m : Bool) → Kept n w e m → Kept (n * 2 ^ j) w (e + j) m
kept_scaled n w e j m k =
    let r = n % 2 ^ e in
    kept-digits (n * 2 ^ j) w (e + j) (r * 2 ^ j) m
    (ap (λ (x : ℕ). x * 2 ^ j) (kept_split n w e m k) ∙ add-mul (w * 2 ^ e) r (2 ^ j) ∙ ap (λ (x : ℕ). x + r * 2 ^ j) (mul_assoc w (2 ^ e) (2 ^ j) ∙ ap (λ (x : ℕ). w * x) (sym (pow-add 2 e j))))
    (lt_of_lt_of_le (mul-lt-mul_of_pos_right (mod-lt n (pow_pos e)) (pow_pos j)) (le_of_eq (sym (pow-add 2 e j))))
    (ap (ltb 0) (sym (add-zero (r * 2 ^ j))) ∙ some_sum r (2 ^ j) 0 (pow_pos j) ∙ k.rest)

-- ---- more added: X whole places
pub kept-sum : (X n w e : ℕ) (m : Bool) → Kept n w e m → Kept (X * 2 ^ e + n) (X + w) e m
kept-sum X n w e m k = record {
  whole = mul-add-div_right (pow_pos e) X n ∙ ap (λ (x : ℕ). X + x) k.whole;
  rest = ap (ltb 0) (mul-add-mod_self_right X (2 ^ e) n) ∙ k.rest;
}

-- ---- taken away from X whole places, in units of Q
take_exact : (X w Q : ℕ) → w * Q ≤ X * Q → 0 < Q → X * Q - w * Q ≡ (X - (w + 0)) * Q + 0
take_exact X w Q h P =
    let l : X < w → ⊥ = λ g. (let b : X * Q < w * Q = mul-lt-mul_of_pos_right g P in let z : ⊥ = omega arith in z) in
    let v : X ≡ (X - (w + 0)) + w = omega arith in
    let u : X * Q ≡ (X - (w + 0)) * Q + w * Q = ap (λ (x : ℕ). x * Q) v ∙ add-mul (X - (w + 0)) w Q in
    omega arith

take_inexact : (X w Q n r : ℕ) → n ≡ w * Q + r → r < Q → 0 < r → n ≤ X * Q → X * Q - n ≡ (X - (w + 1)) * Q + (Q - r)
take_inexact X w Q n r e l p h =
    let a : w * Q < X * Q = omega arith in
    let b : w < X = lt_of_mul-lt-mul_right Q a in
    let v : X ≡ (X - (w + 1)) + 1 + w = omega arith in
    let u : X * Q ≡ (X - (w + 1)) * Q + Q + w * Q = ap (λ (x : ℕ). x * Q) v ∙ (let y : ((X - (w + 1)) + 1 + w) * Q ≡ (X - (w + 1)) * Q + Q + w * Q = omega arith in y) in
    omega arith

pub kept_diff : (X n w e : ℕ) (m : Bool) → Kept n w e m → n ≤ X * 2 ^ e → Kept (X * 2 ^ e - n) (X - (w + cond m 1 0)) e m
kept_diff X n w e true k h =
    let r = n % 2 ^ e in
    let p : 0 < r = some_of r k.rest in
    let l : r < 2 ^ e = mod-lt n (pow_pos e) in
    kept-digits (X * 2 ^ e - n) (X - (w + 1)) e (2 ^ e - r) true (take_inexact X w (2 ^ e) n r (kept_split n w e true k) l p h) (let y : 2 ^ e - r < 2 ^ e = omega arith in y)
    (is_some (2 ^ e - r) (let y : 0 < 2 ^ e - r = omega arith in y))
kept_diff X n w e false k h =
    let q = kept-all n w e k in
    kept-digits (X * 2 ^ e - n) (X - (w + 0)) e 0 false
    (ap (λ (x : ℕ). X * 2 ^ e - x) q ∙ take_exact X w (2 ^ e) (subst (λ (x : ℕ). x ≤ X * 2 ^ e) q h) (pow_pos e)) (pow_pos e) refl
