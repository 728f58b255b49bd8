-- A value in units of 2^-1074: far below N however often it is counted, and undone by its opposite. Assumes nothing.
use Rattle.std.specs.Prelude.{◌≡◌, ℕ, zero, suc, ◌+◌, ◌-◌, ◌*◌, ◌/◌, ◌%◌, ◌^◌, ◌<◌, ◌≤◌, Bool, true, false, not, ◌&&◌, T, ℤ, nat_eq, nat_le, nat_lt, refl, Float}
use Rattle.std.proofs.Common.{ap, ◌∙◌, sym, mul-div_cancel, div-lt_iff_lt-mul, lt_of_lt_of_le, lt_of_le_of_lt, le_of_lt, le_trans, le_of_eq, mul-zero, mul_right_comm, mul-pos, zero-mul, mul-le-mul_right, mul-lt-mul_of_pos_right, add-zero, mod-lt, arith, ltb→lt, leb→le, eqb→eq, lit≤, pow_pos, pow-add, pow_mono}
use Rattle.std.proofs.Math.Nat.{sub-zero, mod_self, zero-mod, add-mod, mul-lt-mul_of_pos_left, div-add-mod}
use Rattle.std.specs.Float.{nan, inf, fin, binary64}
use Rattle.std.specs.Float.Ieee.{up, down, neg, fits}
use Rattle.std.specs.Float.Ieee.Fits.{and_l, and_r, down_pos}
use Rattle.std.specs.Float.Ieee.Exact.{HasValue}
use Rattle.std.specs.Float.Ieee.Scale.{finite}
use Rattle.total.specs.laws.Limbs.{N-pos, same-mod}
use Rattle.total.specs.Total.{N, complement, negative, size_of, units_of, take_of}

-- ---- a value that is a whole number of units
pub size-value : (x : Float) (s : Bool) (a : ℕ) → HasValue x s a (2 ^ 1074) → size_of x ≡ a
unfolding size_of
size-value nan s a h = absurd h
size-value (inf t) s a h = absurd h
size-value (fin t m e) s a h = ap (λ (n : ℕ). n / down e) h.1 ∙ mul-div_cancel a (down_pos e)

sign_value : (x : Float) (s : Bool) (a : ℕ) → HasValue x s a (2 ^ 1074) → negative x ≡ s
unfolding negative
sign_value nan s a h = absurd h
sign_value (inf t) s a h = absurd h
sign_value (fin t m e) s a h = h.0

pub units-value : (k : ℕ) (x : Float) (s : Bool) (a : ℕ) → HasValue x s a (2 ^ 1074) → units_of k x ≡ complement s (k * a) % N
unfolding units_of
units-value k x s a h = (λ i. complement (sign_value x s a h i) (k * size-value x s a h i) % N)

pub neg_value : (x : Float) (s : Bool) (a c : ℕ) → HasValue x s a c → HasValue (neg x) (not s) a c
unfolding neg
neg_value nan s a c h = absurd h
neg_value (inf t) s a c h = absurd h
neg_value (fin t m e) s a c h = (ap not h.0, h.1)

-- ---- NaN and the infinities add nothing
pub complement-zero : (s : Bool) → complement s 0 % N ≡ 0
unfolding complement
complement-zero true = ap (λ (n : ℕ). n % N) (sub-zero N) ∙ mod_self N
complement-zero false = zero-mod N

times_nothing : (k : ℕ) (s : Bool) → complement s (k * 0) % N ≡ 0
times_nothing k s = ap (λ (n : ℕ). complement s n % N) (mul-zero k) ∙ complement-zero s

pub units-none : (k : ℕ) (x : Float) → finite x ≡ false → (units_of k x ≡ 0) × (units_of k (neg x) ≡ 0)
unfolding units_of neg negative size_of
units-none k nan h = (times_nothing k false, times_nothing k false)
units-none k (inf s) h = (times_nothing k false, times_nothing k false)
units-none k (fin s m e) h = let z : ◌≡◌ {A = ℕ} 0 1 = cc in absurd (omega arith)

-- ---- every f64 has fewer than 2^2098 units

pub fit_parts : (s : Bool) (m : ℕ) (e : ℤ) → T (fits binary64 (fin s m e)) → (down e ≤ 2 ^ 1074) × (m * up e < 2 ^ 1024 * down e)
unfolding fits
fit_parts s zero e h = (
  le_trans (one (up e) (down e) (eqb→eq (up e * down e) 1 h)) (pow_pos 1074),
  lt_of_le_of_lt (le_of_eq (zero-mul (up e))) (mul-pos (pow_pos 1024) (down_pos e)),
)
  where
    one : (u d : ℕ) → u * d ≡ 1 → d ≤ 1
    one zero d h = omega arith
    one (suc u) d h = omega arith
fit_parts s (suc m) e h =
    let A = nat_eq (suc m % 2) 1 in
    let B = nat_lt (suc m) (2 ^ 53) in
    let C = nat_le (down e) (2 ^ 1074) in
    let D = nat_lt (suc m * up e) (2 ^ 1024 * down e) in
    (leb→le (down e) (2 ^ 1074) (and_r (A && B) C (and_l (A && B && C) D h)), ltb→lt (suc m * up e) (2 ^ 1024 * down e) (and_r (A && B && C) D h))

pub size-lt : (x : Float) → T (fits binary64 x) → size_of x < 2 ^ 2098
unfolding size_of
size-lt nan h = pow_pos 2098
size-lt (inf s) h = pow_pos 2098
size-lt (fin s m e) h =
    (div-lt_iff_lt-mul {k = down e} (down_pos e)).1
    (lt_of_lt_of_le (mul-lt-mul_of_pos_right (fit_parts s m e h).1 (pow_pos 1074)) (le_of_eq (turn (down e))))
  where
    turn : (d : ℕ) → 2 ^ 1024 * d * 2 ^ 1074 ≡ 2 ^ 2098 * d
    turn d = mul_right_comm (2 ^ 1024) d (2 ^ 1074) ∙ ap (λ (n : ℕ). n * d) (sym (pow-add 2 1024 1074))

-- ---- and 2^16 of them are below 2^2114
pub times-lt : (k s j : ℕ) → k < 2 ^ 16 → s < 2 ^ j → k * s < 2 ^ (16 + j)
times-lt k s j h g =
    lt_of_le_of_lt (mul-le-mul_right s (le_of_lt h))
    (lt_of_lt_of_le (mul-lt-mul_of_pos_left g (pow_pos 16)) (le_of_eq (sym (pow-add 2 16 j))))

pub times-size-lt : (k : ℕ) (x : Float) → k < 2 ^ 16 → T (fits binary64 x) → k * size_of x < 2 ^ 2114
times-size-lt k x h f = times-lt k (size_of x) 2098 h (size-lt x f)

pub far-below : 2 ^ 2114 ≤ N
unfolding N
far-below = pow_mono {i = 2114} {j = 2176} (lit≤ tt)

-- ---- a value and its opposite come to nothing
neg_sign : (k : ℕ) (x : Float) → (size_of (neg x) ≡ size_of x) × (complement (negative (neg x)) (k * size_of x) % N ≡ complement (not (negative x)) (k * size_of x) % N)
unfolding neg size_of negative
neg_sign k nan = (refl, times_nothing k false ∙ sym (times_nothing k true))
neg_sign k (inf s) = (refl, times_nothing k false ∙ sym (times_nothing k true))
neg_sign k (fin s m e) = (refl, refl)

both_signs : (s : Bool) (n : ℕ) → n ≤ N → complement s n + complement (not s) n ≡ N
unfolding complement
both_signs true n h = omega arith
both_signs false n h = omega arith

pub opposite : (k : ℕ) (x : Float) → k < 2 ^ 16 → T (fits binary64 x) → (units_of k x + units_of k (neg x)) % N ≡ 0
unfolding units_of
opposite k x l h =
    let a = k * size_of x in
    let s = negative x in
    let e : units_of k (neg x) ≡ complement (not s) a % N = ap (λ (n : ℕ). complement (negative (neg x)) (k * n) % N) (neg_sign k x).0 ∙ (neg_sign k x).1 in
    ap (λ (n : ℕ). (complement s a % N + n) % N) e
    ∙ sym (add-mod (complement s a) (complement (not s) a) N)
    ∙ ap (λ (n : ℕ). n % N) (both_signs s a (le_of_lt (lt_of_lt_of_le (times-size-lt k x l h) far-below)))
    ∙ mod_self N

-- so taking a value away is adding what it lacks to N
pub taken-units : (t k : ℕ) (x : Float) → k < 2 ^ 16 → T (fits binary64 x) → take_of t k x ≡ (t + (N - units_of k x)) % N
unfolding take_of units_of
taken-units t k x b h =
    let u = units_of k x in
    let v = units_of k (neg x) in
    let q = (u + v) / N in
    let z : u + v ≡ N * q = sym (div-add-mod (u + v) N) ∙ ap (λ (n : ℕ). N * q + n) (opposite k x b h) ∙ add-zero (N * q) in
    let l : u < N = mod-lt (complement (negative x) (k * size_of x)) N-pos in
    same-mod (t + v) (t + (N - u)) 1 q (omega arith)
