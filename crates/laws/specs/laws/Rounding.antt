-- How far `round` moves a fraction: at most half of the unit that it keeps, and in the normal range at most one part in 2 ^ prec. Assumes nothing.
use Rattle.std.specs.Prelude.{◌≡◌, Bool, ltb, Float}
use Rattle.std.proofs.Common.{sym, ap, ◌∙◌, subst, le_trans, le_of_eq, mul-le-mul_right, mul-le-mul_left, mul-pos, mod-lt, div-add-mod', mul_assoc, mul_comm, mul_left_comm, le-div_iff_mul-le, arith, pow-add, pow_pos, pow_mono}
use Prim.Native.Nat.{ℕ, suc, ◌+◌, ◌-◌, ◌*◌, ◌/◌, ◌%◌, ◌^◌, ◌≤◌, ◌<◌, compare, Ordering}
use Rattle.std.proofs.Math.Nat.{div-div-eq-div-mul}
use Rattle.std.proofs.Math.Arith.{le→nltb}
use Rattle.std.specs.Float.{inf, Format}
use Rattle.std.specs.Float.Ieee.{prec, emax, low, nearest, size, units, odd, round}
use Rattle.std.specs.Float.Ieee.Digits.{size_reaches}
use Rattle.std.specs.Float.Ieee.Fits.{round_is, two, two-le_pos, reach}
use Rattle.std.specs.Float.Ieee.Exact.{HasValue, units_val}
use Rattle.std.specs.Float.Ieee.Bits.{cond_no}
use Rattle.std.specs.Float.Ieee.Nearest.{closest, nearest-ge}
use Rattle.std.specs.Float.Ieee.Order.{drop, kept}
use Rattle.std.specs.Float.Ieee.Scale.{grid, overflow}
use Rattle.laws.specs.laws.Compare.{Compared, compared}
use Rattle.laws.specs.laws.Digits.{size-gt}

-- x and y differ by at most e
abbrev pub Near : ℕ → ℕ → ℕ → Type 0
Near x y e = (x ≤ y + e) × (y ≤ x + e)

parity : (q : ℕ) → q % 2 ≤ 1
parity q = omega arith

half : (q r u : ℕ) (o : Ordering) → r < u → Compared o (r * 2) u → Near (nearest q o * u * 2) ((q * u + r) * 2) u
half q r u Ordering.lt h c = (omega arith, omega arith)
half q r u Ordering.eq h c =
    let p : q % 2 * u ≤ 1 * u = mul-le-mul_right u (parity q) in
    (omega arith, omega arith)
half q r u Ordering.gt h c = (omega arith, omega arith)

-- n / u to the nearest whole number is off by at most a half
pub closest_half : (n u : ℕ) → 0 < u → Near (closest n u * u * 2) (n * 2) u
closest_half n u h =
    subst (λ (x : ℕ). Near (closest n u * u * 2) (x * 2) u) (div-add-mod' n u)
    (half (n / u) (n % u) u (compare (n % u * 2) u) (mod-lt n h) (compared (n % u * 2) u))

-- ---- a / c in units of the format's smallest value is a * 2 ^ low / c, and `grid` is what it rounds to: off by at most half of the last kept place
pub grid_half : (f : Format) (a c : ℕ) → 0 < c → Near (grid f a c * c * 2) (a * 2 ^ low f * 2) (c * 2 ^ drop (prec f) (a * 2 ^ low f) c)
grid_half f a c h =
    let k = drop (prec f) (a * 2 ^ low f) c in
    let p = closest_half (a * 2 ^ low f) (c * 2 ^ k) (mul-pos h (pow_pos k)) in
    swap (kept (prec f) (a * 2 ^ low f) c) c (2 ^ k) (a * 2 ^ low f * 2) p
  where
    swap : (q c t n : ℕ) → Near (q * (c * t) * 2) n (c * t) → Near (q * t * c * 2) n (c * t)
    swap q c t n p = (omega (arith, p.0), omega (arith, p.1))

-- in the normal range the place is one part in 2 ^ (prec - 1) of the whole, at most
lead : (p z : ℕ) → 0 < p → p ≤ z → p - 1 + (z - p) < z
lead p z P h = omega arith

place : (f : Format) (a c : ℕ) → 0 < c → prec f ≤ size (a * 2 ^ low f / c) → 2 ^ (prec f - 1) * (c * 2 ^ drop (prec f) (a * 2 ^ low f) c) ≤ a * 2 ^ low f
place f a c C N =
    let n = a * 2 ^ low f in
    let p = prec f in
    let k = drop p n c in
    let x : 2 ^ (p - 1 + k) ≤ n / c = size_reaches (n / c) (p - 1 + k) (lead p (size (n / c)) (two-le_pos p (two f)) N) in
    let y : 2 ^ (p - 1 + k) * c ≤ n = (le-div_iff_mul-le C).0 x in
    let e : 2 ^ (p - 1 + k) ≡ 2 ^ (p - 1) * 2 ^ k = pow-add 2 (p - 1) k in
    le_trans (le_of_eq (again (2 ^ (p - 1)) c (2 ^ k) (2 ^ (p - 1 + k)) e)) y
  where
    again : (w c t v : ℕ) → v ≡ w * t → w * (c * t) ≡ v * c
    again w c t v e = omega (arith, ap (λ (z : ℕ). z * c) e)

-- the relative bound: off by at most one part in 2 ^ prec
pub grid_near : (f : Format) (a c : ℕ) → 0 < c → prec f ≤ size (a * 2 ^ low f / c) → Near (2 ^ (prec f - 1) * 2 * (grid f a c * c)) (2 ^ (prec f - 1) * 2 * (a * 2 ^ low f)) (a * 2 ^ low f)
grid_near f a c C N = scale (2 ^ (prec f - 1)) (grid f a c * c) (a * 2 ^ low f) (c * 2 ^ drop (prec f) (a * 2 ^ low f) c) (grid_half f a c C) (place f a c C N)
  where
    scale : (w g n u : ℕ) → Near (g * 2) (n * 2) u → w * u ≤ n → Near (w * 2 * g) (w * 2 * n) n
    scale w g n u p h =
        let x : w * (g * 2) ≤ w * (n * 2 + u) = mul-le-mul_left w p.0 in
        let y : w * (n * 2) ≤ w * (g * 2 + u) = mul-le-mul_left w p.1 in
        (omega arith, omega arith)

-- the value of a rounded fraction, of either sign
pub round-value : (f : Format) (s : Bool) (a c : ℕ) → grid f a c < overflow f → HasValue (round f s a c) s (grid f a c) (2 ^ low f)
round-value f s a c h =
    subst (λ (z : Float). HasValue z s (grid f a c) (2 ^ low f)) (sym (round_is f s a c))
    (units_val f s (kept (prec f) (a * 2 ^ low f) c) (drop (prec f) (a * 2 ^ low f) c) h)

-- ---- overflow: from 2 ^ (emax + 1) on a fraction rounds to an infinity
pub units_over : (f : Format) (s : Bool) (q k : ℕ) → overflow f ≤ q * 2 ^ k → units f s q k ≡ inf s
unfolding units
units_over f s q k h = cond_no (ltb (q * 2 ^ k) (overflow f)) (odd (suc (prec f)) s q k (low f)) (inf s) (le→nltb (q * 2 ^ k) (overflow f) h)

pub round_over : (f : Format) (s : Bool) (a c : ℕ) → 0 < c → 2 ^ suc (emax f) * c ≤ a → round f s a c ≡ inf s
round_over f s a c C h = round_is f s a c ∙ units_over f s q k (le_trans (pow_mono far) (le_trans (le_of_eq (pow-add 2 (prec f - 1) k)) (mul-le-mul_right (2 ^ k) (le_trans lead_kept (nearest-ge (n / (c * 2 ^ k)) (compare (n % (c * 2 ^ k) * 2) (c * 2 ^ k)))))))
  where
    n : ℕ
    n = a * 2 ^ low f

    k : ℕ
    k = drop (prec f) n c

    q : ℕ
    q = kept (prec f) n c

    whole : 2 ^ (low f + suc (emax f)) ≤ n / c
    whole = (le-div_iff_mul-le C).1 (le_trans (le_of_eq (turn (low f) (suc (emax f)) c)) (mul-le-mul_right (2 ^ low f) h))
      where
        turn : (l m c : ℕ) → 2 ^ (l + m) * c ≡ 2 ^ m * c * 2 ^ l
        turn l m c = ap (λ (z : ℕ). z * c) (pow-add 2 l m) ∙ (let w : 2 ^ l * 2 ^ m * c ≡ 2 ^ m * c * 2 ^ l = simp (mul_assoc, mul_comm, mul_left_comm) in w)

    digits : low f + suc (emax f) < size (n / c)
    digits = size-gt (n / c) (low f + suc (emax f)) whole

    far : low f + suc (emax f) ≤ prec f - 1 + k
    far = let x = digits in let p = two f in let r = reach f in omega arith

    lead_kept : 2 ^ (prec f - 1) ≤ n / (c * 2 ^ k)
    lead_kept = subst (λ (x : ℕ). 2 ^ (prec f - 1) ≤ x) (div-div-eq-div-mul n c (2 ^ k)) ((le-div_iff_mul-le (pow_pos k)).1 (le_trans (le_of_eq (sym (pow-add 2 (prec f - 1) k))) (size_reaches (n / c) (prec f - 1 + k) (let x = digits in let p = two f in let r = reach f in let z : prec f - 1 + k < size (n / c) = omega arith in z))))
