-- Roundings with an absolute error, in units of 2 ^ -1074: below 2 ^ (53 + d) units a rounding is off by at most half of 2 ^ d, subnormal or not. Assumes nothing.
use Rattle.std.specs.Prelude.{◌≡◌, refl, ℕ, ◌+◌, ◌-◌, ◌*◌, ◌/◌, ◌^◌, ◌≤◌, ◌<◌, Bool, true, false, cond, ◌&&◌, ℤ, ltb, Float}
use Rattle.std.proofs.Common.{sym, ap, subst, le_trans, le_of_eq, le_of_lt, lt_of_le_of_lt, mul-pos, mul-le-mul_left, mul-le-mul_right, le_of_mul-le-mul_right, div-lt_iff_lt-mul, arith, true≢false, lit≤, lit<, pow_pos, pow_mono}
use Rattle.std.specs.Float.{nan, inf, fin, binary64}
use Rattle.std.specs.Float.Ieee.{up, down, size, round, neg, add, sub, sum}
use Rattle.std.specs.Float.Ieee.Fits.{down_pos}
use Rattle.std.specs.Float.Ieee.Digits.{size-le}
use Rattle.std.specs.Float.Ieee.Exact.{HasValue}
use Rattle.std.specs.Float.Ieee.Order.{drop}
use Rattle.std.specs.Float.Ieee.Scale.{grid}
use Rattle.laws.specs.laws.Rounding.{Near, grid_half, round-value}

-- 1 in units of the smallest value
abbrev pub U : ℕ
U = 2 ^ 1074

-- x is g units, and those are a / c to within half of E units
pub record Cut (x : Float) (s : Bool) (a c E : ℕ) : Type 0 where
  pub g : ℕ
  pub value : HasValue x s g U
  pub near : Near (g * c * 2) (a * U * 2) (c * E)

widen : (x y e e' : ℕ) → Near x y e → e ≤ e' → Near x y e'
widen x y e e' n h = (omega (arith, n.0), omega (arith, n.1))

small : (g c n E B : ℕ) → 0 < c → g * c * 2 ≤ n * 2 + c * E → n ≤ B * c → E ≤ B → g ≤ 2 * B
small g c n E B C h k e =
    let x : c * E ≤ c * B = mul-le-mul_left c e in
    let y : g * c ≤ 2 * B * c = omega arith in
    le_of_mul-le-mul_right y C

pub cut : (s : Bool) (a c d B : ℕ) → 0 < c → B ≡ 2 ^ (53 + d) → a * U < B * c → 2 * B < 2 ^ 2098 → Cut (round binary64 s a c) s a c (2 ^ d)
cut s a c d B C e h o =
    let n = a * U in
    let k = drop 53 n c in
    let z : size (n / c) ≤ 53 + d = size-le (n / c) (53 + d) ((div-lt_iff_lt-mul C).1 (subst (λ (b : ℕ). n < b * c) e h)) in
    let w : Near (grid binary64 a c * c * 2) (n * 2) (c * 2 ^ d) = widen (grid binary64 a c * c * 2) (n * 2) (c * 2 ^ k) (c * 2 ^ d) (grid_half binary64 a c C) (mul-le-mul_left c (pow_mono (few (size (n / c)) d z))) in
    record {
      g = grid binary64 a c;
      value = round-value binary64 s a c (lt_of_le_of_lt (small (grid binary64 a c) c n (2 ^ d) B C w.0 (le_of_lt h) (le_trans (pow_mono (more d)) (le_of_eq (sym e)))) o);
      near = w;
    }
  where
    few : (z d : ℕ) → z ≤ 53 + d → z - 53 ≤ d
    few z d h = omega arith

    more : (d : ℕ) → d ≤ 53 + d
    more d = omega arith

-- ---- a fraction of at most 7 / 2 rounds to at most 4
pub record InReach (x : Float) (s : Bool) : Type 0 where
  pub g : ℕ
  pub value : HasValue x s g U
  pub most : g ≤ 4 * U

pub small_round : (s : Bool) (a c : ℕ) → 0 < c → 2 * a ≤ 7 * c → InReach (round binary64 s a c) s
small_round s a c C h =
    let t = cut s a c 1023 (4 * U) C refl (below a c U C (pow_pos 1074) h) (lit< tt) in
    record { g = t.g; value = t.value; most = stays t.g a c U (2 ^ 1023) C (lit≤ tt) h t.near.0 }
  where
    below : (a c u : ℕ) → 0 < c → 0 < u → 2 * a ≤ 7 * c → a * u < 4 * u * c
    below a c u C H h =
        let x : 2 * a * u ≤ 7 * c * u = mul-le-mul_right u h in
        let y : 0 < c * u = mul-pos C H in
        omega arith

    stays : (g a c u e : ℕ) → 0 < c → e ≤ u → 2 * a ≤ 7 * c → g * c * 2 ≤ a * u * 2 + c * e → g ≤ 4 * u
    stays g a c u e C k h n =
        let x : 2 * a * u ≤ 7 * c * u = mul-le-mul_right u h in
        let y : c * e ≤ c * u = mul-le-mul_left c k in
        let z : g * c ≤ 4 * u * c = omega arith in
        le_of_mul-le-mul_right z C

-- ---- the fraction that a difference rounds
-- x is what a / c rounds to, and a / c is at most 5 / 2
pub record Left (x : Float) : Type 0 where
  pub s : Bool
  pub a : ℕ
  pub c : ℕ
  pub is : x ≡ round binary64 s a c
  pub some : 0 < c
  pub most : 2 * a ≤ 5 * c

-- h / u = b / d, against a / c
apart : (a c b d h u : ℕ) → 0 < u → b * u ≡ h * d → Near (2 * h * c) (2 * a * u) (5 * u * c) → Near (2 * (b * c)) (2 * (a * d)) (5 * (c * d))
apart a c b d h u H e n =
    let x : 2 * h * c * d ≤ (2 * a * u + 5 * u * c) * d = mul-le-mul_right d n.0 in
    let y : 2 * a * u * d ≤ (2 * h * c + 5 * u * c) * d = mul-le-mul_right d n.1 in
    let ec : b * u * c ≡ h * d * c = ap (λ (z : ℕ). z * c) e in
    let p : 2 * (b * c) * u ≤ (2 * (a * d) + 5 * (c * d)) * u = omega (arith, x, ec) in
    let q : 2 * (a * d) * u ≤ (2 * (b * c) + 5 * (c * d)) * u = omega (arith, y, ec) in
    (le_of_mul-le-mul_right p H, le_of_mul-le-mul_right q H)

pub left_of : (m : ℕ) (e : ℤ) (y : Float) (h : ℕ) → HasValue y false h U → Near (2 * h * down e) (2 * (m * up e) * U) (5 * U * down e) → Left (sub binary64 (fin false m e) y)
unfolding sub add neg sum
left_of m e nan h v n = absurd v
left_of m e (inf t) h v n = absurd v
left_of m e (fin true k d) h v n = absurd (true≢false v.0)
left_of m e (fin false k d) h v n = go (ltb A B)
  where
    A : ℕ
    A = m * up e * down d

    B : ℕ
    B = k * up d * down e

    C : ℕ
    C = down e * down d

    N : Near (2 * B) (2 * A) (5 * C)
    N = apart (m * up e) (down e) (k * up d) (down d) h U (pow_pos 1074) v.1 n

    over : (a b c : ℕ) → 2 * b ≤ 2 * a + 5 * c → 2 * (b - a) ≤ 5 * c
    over a b c n = omega arith

    go : (t : Bool) → Left (cond t (round binary64 true (B - A) C) (round binary64 (false && ltb B A) (A - B) C))
    go true = record { s = true; a = B - A; c = C; is = refl; some = mul-pos (down_pos e) (down_pos d); most = over A B C N.0 }
    go false = record { s = false; a = A - B; c = C; is = refl; some = mul-pos (down_pos e) (down_pos d); most = over B A C N.1 }

pub left_small : (x : Float) (l : Left x) → InReach x l.s
left_small x l = subst (λ (x : Float). InReach x l.s) (sym l.is) (small_round l.s l.a l.c l.some (wider l.a l.c l.most))
  where
    wider : (a c : ℕ) → 2 * a ≤ 5 * c → 2 * a ≤ 7 * c
    wider a c h = omega arith
