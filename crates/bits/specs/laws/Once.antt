-- The one rounding rounds any exact number once: `rounded_of` of what is kept of n is `round` of n, wherever at least 54 digits are kept or nothing is left. Assumes nothing.
use Rattle.std.specs.Prelude.{◌≡◌, ℕ, zero, suc, ◌+◌, ◌-◌, ◌*◌, ◌/◌, ◌%◌, ◌^◌, ◌<◌, ◌≤◌, Bool, true, false, cond, ◌||◌, ltb, nat_lt, refl}
use Rattle.std.proofs.Common.{sym, ap, ◌∙◌, subst, le_trans, le_of_eq, lt_of_lt_of_le, mul_assoc, mul_comm, mul-pos, zero-mul, mod-lt, pow-suc, arith, lit≤, pow-add, pow_pos, pow_mono}
use Prim.Native.Nat.{compare, Ordering}
use Rattle.std.proofs.Math.Nat.{mul-div-mul_right, div-div-eq-div-mul}
use Rattle.std.proofs.Math.Arith.{mod-mul}
use Rattle.std.specs.Float.{Format, binary64}
use Rattle.std.specs.Float.Ieee.{prec, low, size, nearest, units, round}
use Rattle.std.specs.Float.Ieee.Fits.{core, round_is}
use Rattle.std.specs.Float.Ieee.Nearest.{closest, closest_same}
use Rattle.std.specs.Float.Ieee.Scale.{round_same}
use Rattle.laws.specs.laws.Flags.{some_of, none_of, is_some}
use Rattle.laws.specs.laws.Compare.{compare_is}
use Rattle.laws.specs.laws.Digits.{size-gt, size-div, size-cut}
use Rattle.laws.specs.laws.Rounding.{round_over}
use Rattle.bits.specs.Rounded.{Kept, rounded_of}
use Rattle.bits.specs.Steps.{ord_of}
use Rattle.bits.specs.laws.Keeping.{kept-digits, kept-all, kept_high, kept_rest, kept_scaled}

-- ---- to the nearest, from one digit below the last that stays, and from whether any is set below that
half_order : (h c r : ℕ) (m : Bool) → 0 < h → r < h → c < 2 → nat_lt 0 r ≡ m → compare ((c * h + r) * 2) (2 * h) ≡ ord_of c m
unfolding ord_of
half_order h zero r m H R C z = compare_is Ordering.lt ((0 * h + r) * 2) (2 * h) (let y : (0 * h + r) * 2 < 2 * h = omega arith in y)
half_order h (suc c) r m H R C z = go m z
  where
    one : c ≡ 0
    one = omega arith

    go : (m : Bool) → nat_lt 0 r ≡ m → compare ((suc c * h + r) * 2) (2 * h) ≡ ord_of (suc c) m
    go true z = let p = some_of r z in compare_is Ordering.gt ((suc c * h + r) * 2) (2 * h) (subst (λ (x : ℕ). 2 * h < (suc x * h + r) * 2) (sym one) (omega arith))
    go false z = let p = none_of r z in compare_is Ordering.eq ((suc c * h + r) * 2) (2 * h) (subst (λ (x : ℕ). (suc x * h + r) * 2 ≡ 2 * h) (sym one) (omega arith))

closest_next : (n h : ℕ) → 0 < h → closest n (2 * h) ≡ nearest (n / h / 2) (ord_of (n / h % 2) (nat_lt 0 (n % h)))
closest_next n h H =
    ap (λ (x : ℕ). nearest x (compare (n % (2 * h) * 2) (2 * h))) (ap (λ (x : ℕ). n / x) (mul_comm 2 h) ∙ sym (div-div-eq-div-mul n h 2))
    ∙ ap (λ (x : ℕ). nearest (n / h / 2) (compare (x * 2) (2 * h))) (mod-mul n (lit≤ tt) H)
    ∙ ap (λ (o : Ordering). nearest (n / h / 2) o) (half_order h (n / h % 2) (n % h) (nat_lt 0 (n % h)) H (mod-lt n H) (mod-lt (n / h) (lit≤ tt)) refl)

-- ---- `round` at a denominator that is a power of two
round-at : (f : Format) (s : Bool) (n b k : ℕ) → size (n / 2 ^ b) - prec f ≡ k → round f s n (2 ^ (b + low f)) ≡ units f s (closest n (2 ^ (b + k))) k
round-at f s n b k e =
    let L = low f in
    let w : n * 2 ^ L / 2 ^ (b + L) ≡ n / 2 ^ b = ap (λ (x : ℕ). n * 2 ^ L / x) (pow-add 2 b L) ∙ mul-div-mul_right n (2 ^ b) (pow_pos L) in
    round_is f s n (2 ^ (b + L))
    ∙ ap (λ (x : ℕ). core f s (n * 2 ^ L) (2 ^ (b + L)) x) (ap (λ (x : ℕ). size x - prec f) w ∙ e)
    ∙ ap (λ (x : ℕ). units f s x k) (closest_same (n * 2 ^ L) (2 ^ (b + L) * 2 ^ k) n (2 ^ (b + k)) (mul-pos (pow_pos (b + L)) (pow_pos k)) (pow_pos (b + k)) (same n L b k))
  where
    same : (n L b k : ℕ) → n * 2 ^ L * 2 ^ (b + k) ≡ n * (2 ^ (b + L) * 2 ^ k)
    same n L b k = simp (pow-add, mul_assoc, mul_comm)

pub round-shift : (f : Format) (s : Bool) (n d j : ℕ) → round f s (n * 2 ^ j) (2 ^ (d + j)) ≡ round f s n (2 ^ d)
round-shift f s n d j = round_same f s (n * 2 ^ j) (2 ^ (d + j)) n (2 ^ d) (pow_pos (d + j)) (pow_pos d) (mul_assoc n (2 ^ j) (2 ^ d) ∙ ap (λ (x : ℕ). n * x) (mul_comm (2 ^ j) (2 ^ d) ∙ sym (pow-add 2 d j)))

-- ---- what n rounds to, from what is kept of it
-- t of the digits of w are dropped, but for the one that decides, so that k of n's are, counted from the smallest value
pub kept-round : (f : Format) (s : Bool) (n w e b t k : ℕ) (m : Bool) → Kept n w e m → 0 < w → size w + e - b - prec f ≡ k → b + k ≡ suc (t + e)
    → round f s n (2 ^ (b + low f)) ≡ units f s (nearest (w / 2 ^ t / 2) (ord_of (w / 2 ^ t % 2) (m || nat_lt 0 (w % 2 ^ t)))) k
kept-round f s n w e b t k m K h z q =
    round-at f s n b k (ap (λ (x : ℕ). x - prec f) (size-div n b ∙ ap (λ (x : ℕ). x - b) (size-cut n w e K.whole h)) ∙ z)
    ∙ ap (λ (x : ℕ). units f s (closest n x) k) (ap (λ (x : ℕ). 2 ^ x) q ∙ pow-suc 2 (t + e) ∙ mul_comm (2 ^ (t + e)) 2)
    ∙ ap (λ (x : ℕ). units f s x k) (closest_next n (2 ^ (t + e)) (pow_pos (t + e)))
    ∙ (λ i. units f s (nearest (kept_high n w e t m K i / 2) (ord_of (kept_high n w e t m K i % 2) (kept_rest n w e t m K i))) k)

-- so two numbers of which the same is kept round alike, if it is one digit more than the format has
alike : (f : Format) (s : Bool) (n n' w e b : ℕ) (m : Bool) → Kept n w e m → Kept n' w e m → 2 ^ prec f ≤ w → round f s n (2 ^ (b + low f)) ≡ round f s n' (2 ^ (b + low f))
alike f s n n' w e b m K K' h =
    let k = size w + e - b - prec f in
    let t = b + k - 1 - e in
    let g : prec f < size w = size-gt w (prec f) h in
    let q : b + k ≡ suc (t + e) = omega arith in
    let p : 0 < w = lt_of_lt_of_le (pow_pos (prec f)) h in
    kept-round f s n w e b t k m K p refl q ∙ sym (kept-round f s n' w e b t k m K' p refl q)

-- ---- what `rounded_of` rounds has the digits w and, below them, one that says whether there is more
pub with_half : (w e : ℕ) (m : Bool) → Kept ((2 * w + cond m 1 0) * 2 ^ e) w (e + 1) m
with_half w e m = kept-digits ((2 * w + cond m 1 0) * 2 ^ e) w (e + 1) (cond m 1 0 * 2 ^ e) m (parts (cond m 1 0)) (small m) (some m)
  where
    parts : (c : ℕ) → (2 * w + c) * 2 ^ e ≡ w * 2 ^ (e + 1) + c * 2 ^ e
    parts c = let p : 2 ^ (e + 1) ≡ 2 ^ e * 2 = pow-add 2 e 1 in ap (λ (x : ℕ). x) (go w c (2 ^ e) (2 ^ (e + 1)) p)
      where
        go : (w c P Q : ℕ) → Q ≡ P * 2 → (2 * w + c) * P ≡ w * Q + c * P
        go w c P Q e = let x : w * Q ≡ w * (P * 2) = ap (λ (y : ℕ). w * y) e in omega arith

    small : (m : Bool) → cond m 1 0 * 2 ^ e < 2 ^ (e + 1)
    small true = let p : 2 ^ (e + 1) ≡ 2 ^ e * 2 = pow-add 2 e 1 in let q = pow_pos e in omega arith
    small false = let q = pow_pos (e + 1) in omega arith

    some : (m : Bool) → nat_lt 0 (cond m 1 0 * 2 ^ e) ≡ m
    some true = is_some (1 * 2 ^ e) (let q = pow_pos e in let z : 0 < 1 * 2 ^ e = omega arith in z)
    some false = ap (ltb 0) (zero-mul (2 ^ e))

-- ---- the law: any n in units of 2 ^ -2340 of which 54 digits or more are kept
pub rounded_kept : (s : Bool) (n w e : ℕ) (more : Bool) → Kept n w e more → 2 ^ 53 ≤ w → rounded_of s w more e ≡ round binary64 s n (2 ^ 2340)
unfolding rounded_of
rounded_kept s n w e more K h = alike binary64 s ((2 * w + cond more 1 0) * 2 ^ e) (n * 2 ^ 1) w (e + 1) 1267 more (with_half w e more) (kept_scaled n w e 1 more K) h ∙ round-shift binary64 s n 2340 1

-- however few digits there are, where nothing is left below them
pub rounded_exact : (s : Bool) (n w e : ℕ) → Kept n w e false → rounded_of s w false e ≡ round binary64 s n (2 ^ 2340)
unfolding rounded_of
rounded_exact s n w e K = ap (λ (x : ℕ). round binary64 s x (2 ^ 2341)) (twice w (2 ^ e) ∙ ap (λ (x : ℕ). x * 2 ^ 1) (sym (kept-all n w e K))) ∙ round-shift binary64 s n 2340 1
  where
    twice : (w P : ℕ) → (2 * w + 0) * P ≡ w * P * 2
    twice w P = omega arith

-- ---- from 2 ^ 4096 on the exponent does not matter
far_over : (c e : ℕ) → 4096 ≤ e → 2 ^ 1024 * 2 ^ 2341 ≤ suc c * 2 ^ e
far_over c e h = le_trans (le_of_eq (sym (pow-add 2 1024 2341))) (le_trans (pow_mono {i = 1024 + 2341} (le_trans (lit≤ tt) h)) (let p : 2 ^ e ≤ suc c * 2 ^ e = self c (2 ^ e) in p))
  where
    self : (c P : ℕ) → P ≤ suc c * P
    self c P = omega arith

pub rounded_far : (s : Bool) (w e : ℕ) (more : Bool) → 4096 ≤ e → rounded_of s w more 4096 ≡ rounded_of s w more e
unfolding rounded_of
rounded_far s w e more h = go (2 * w + cond more 1 0)
  where
    go : (c : ℕ) → round binary64 s (c * 2 ^ 4096) (2 ^ 2341) ≡ round binary64 s (c * 2 ^ e) (2 ^ 2341)
    go zero = ap (λ (x : ℕ). round binary64 s x (2 ^ 2341)) (zero-mul (2 ^ 4096) ∙ sym (zero-mul (2 ^ e)))
    go (suc c) = round_over binary64 s (suc c * 2 ^ 4096) (2 ^ 2341) (pow_pos 2341) (far_over c 4096 (lit≤ tt)) ∙ sym (round_over binary64 s (suc c * 2 ^ e) (2 ^ 2341) (pow_pos 2341) (far_over c e h))
