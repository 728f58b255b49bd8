-- What is used of magnitude and root: no other file looks inside them, and this one takes the root by its laws. Assumes nothing.
use Rattle.std.specs.Prelude.{◌≡◌, Bool, true, false, not, T, leb, Float}
use Rattle.std.proofs.Common.{sym, ap, ◌∙◌, subst, le_trans, le_of_eq, le_of_lt, lt_of_le_of_lt, lt_of_lt_of_le, one-mul, mul_assoc, mul-le-mul_right, le_of_mul-le-mul_right, le-div_iff_mul-le, arith, leb→le, lit≤, lit<, pow-add, pow_pos, pow_mono}
use Prim.Native.Nat.{ℕ, ◌+◌, ◌-◌, ◌*◌, ◌/◌, ◌^◌, ◌≤◌, ◌<◌, compare}
use Rattle.std.proofs.Math.Dec.{nleb→lt}
use Rattle.std.proofs.Math.Pow.{pow-lt}
use Rattle.std.specs.Float.{binary64}
use Rattle.std.specs.Float.Ieee.{size}
use Rattle.std.specs.Float.Ieee.Digits.{size_reaches}
use Rattle.std.specs.Float.Ieee.Exact.{HasValue, units_val}
use Rattle.std.specs.Float.Ieee.Nearest.{nearest-ge}
use Rattle.std.specs.Float.Ieee.Positive.{positive_of_value}
use Rattle.laws.specs.laws.Digits.{size-gt}
use Rattle.laws.specs.laws.Exact.{pow_back}
use Rattle.laws.specs.laws.Bounds.{Within, positive}
use Rattle.root.specs.Root.{whole_root, root_of}
use Rattle.root.specs.laws.Meaning.{square-lt, whole_root_is, Between, kept, dropped, round_root_is, root_at}

-- ---- the root: `Between` says that twice the root of n lies between the odd multiples of t beside 2v
pub twice : (x : ℕ) → 2 * x * (2 * x) ≡ 4 * (x * x)
twice x = omega arith

-- so it is bounded by powers of two, as the radicand is by their squares
pub square_le : (a b : ℕ) → a * a ≤ b * b → a ≤ b
square_le a b h =
    let k : a * a < (b + 1) * (b + 1) = omega arith in
    let l : a < b + 1 = square-lt a (b + 1) k in
    omega arith

pub pow_split : (k j : ℕ) → k ≤ j → 2 ^ j ≡ 2 ^ (j - k) * 2 ^ k
pow_split k j h = ap (λ (z : ℕ). 2 ^ z) (let e : j ≡ j - k + k = omega arith in e) ∙ pow-add 2 (j - k) k

nearest-most : (n v k j : ℕ) → 1 < v → (2 * v - 1) * 2 ^ k * ((2 * v - 1) * 2 ^ k) ≤ n * 4 → n ≤ 2 ^ j * 2 ^ j → v * 2 ^ k ≤ 2 ^ j
nearest-most n v k j above b h =
    let a : (2 * v - 1) * 2 ^ k ≤ 2 * 2 ^ j = square_le ((2 * v - 1) * 2 ^ k) (2 * 2 ^ j) (le_trans b (le_trans (four n (2 ^ j * 2 ^ j) h) (le_of_eq (sym (twice (2 ^ j)))))) in
    let c : k ≤ j = pow_back k j (half (2 * v - 1) (2 ^ k) (2 ^ j) (omega arith) a) in
    let d : 2 * v - 1 ≤ 2 * 2 ^ (j - k) = le_of_mul-le-mul_right (le_trans a (le_of_eq (ap (λ (z : ℕ). 2 * z) (pow_split k j c) ∙ sym (mul_assoc 2 (2 ^ (j - k)) (2 ^ k))))) (pow_pos k) in
    le_trans (mul-le-mul_right (2 ^ k) (let z : v ≤ 2 ^ (j - k) = omega arith in z)) (le_of_eq (sym (pow_split k j c)))
  where
    four : (n m : ℕ) → n ≤ m → n * 4 ≤ 4 * m
    four n m h = omega arith

    half : (w p q : ℕ) → 2 ≤ w → w * p ≤ 2 * q → p ≤ q
    half w p q W h = let k : 2 * p ≤ w * p = mul-le-mul_right p W in omega arith

nearest-least : (n v k i : ℕ) → 0 < v → n * 4 ≤ (2 * v + 1) * 2 ^ k * ((2 * v + 1) * 2 ^ k) → 2 ^ i * 2 ^ i ≤ n → 2 ^ i ≤ v * 2 ^ k
nearest-least n v k i some b h = go (leb k i) (leb→le k i) (nleb→lt k i)
  where
    four : (n m : ℕ) → m ≤ n → 4 * m ≤ n * 4
    four n m h = omega arith

    a : 2 * 2 ^ i ≤ (2 * v + 1) * 2 ^ k
    a = square_le (2 * 2 ^ i) ((2 * v + 1) * 2 ^ k) (le_trans (le_of_eq (twice (2 ^ i))) (le_trans (four n (2 ^ i * 2 ^ i) h) b))

    go : (t : Bool) → (T t → k ≤ i) → (T (not t) → i < k) → 2 ^ i ≤ v * 2 ^ k
    go true p q =
        let d : 2 * 2 ^ (i - k) ≤ 2 * v + 1 = le_of_mul-le-mul_right (le_trans (le_of_eq (mul_assoc 2 (2 ^ (i - k)) (2 ^ k) ∙ ap (λ (z : ℕ). 2 * z) (sym (pow_split k i (p tt))))) a) (pow_pos k) in
        le_trans (le_of_eq (pow_split k i (p tt))) (mul-le-mul_right (2 ^ k) (let z : 2 ^ (i - k) ≤ v = omega arith in z))
    go false p q = le_trans (pow_mono (le_of_lt (q tt))) (le_trans (le_of_eq (sym (one-mul (2 ^ k)))) (mul-le-mul_right (2 ^ k) some))

-- the root of p units: v · 2 ^ k units, v of 53 digits
pub record Rooted (x : Float) (n : ℕ) : Type 0 where
  pub v : ℕ
  pub k : ℕ
  pub value : HasValue (root_of x) false (v * 2 ^ k) (2 ^ 1074)
  pub near : Between n v k
  pub digits : 2 ^ 52 ≤ v

above_half : (z : ℕ) → 52 < z → 52 + (z - 53) < z
above_half z h = omega arith

under : (r h : ℕ) → h < r + 1 → h ≤ r
under r h p = omega arith

all_digits : (n : ℕ) → 2 ^ 52 * 2 ^ 52 ≤ n → 2 ^ 52 ≤ kept n
all_digits n L =
    let r = whole_root n in
    let k = dropped n in
    let a : 2 ^ 52 ≤ r = under r (2 ^ 52) (square-lt (2 ^ 52) (r + 1) (lt_of_le_of_lt L (whole_root_is n).1)) in
    let b : 2 ^ (52 + k) ≤ r = size_reaches r (52 + k) (above_half (size r) (size-gt r 52 a)) in
    le_trans ((le-div_iff_mul-le (pow_pos k)).1 (le_trans (le_of_eq (sym (pow-add 2 52 k))) b)) (nearest-ge (r / 2 ^ k) (compare (n * 4) ((2 * (r / 2 ^ k) + 1) * 2 ^ k * ((2 * (r / 2 ^ k) + 1) * 2 ^ k))))

digits_above : (v : ℕ) → 2 ^ 52 ≤ v → 1 < v
digits_above v h = lt_of_lt_of_le (lit< tt) h

small_units : (p u : ℕ) → 0 < p → u ≤ p * u
small_units p u h = le_trans (le_of_eq (sym (one-mul u))) (mul-le-mul_right u h)

-- 2 ^ 1074 squares of the smallest value are the smallest radicand
pub rooted : (x : Float) (p j : ℕ) → 0 < p → HasValue x false p (2 ^ 1074) → p * 2 ^ 1074 ≤ 2 ^ j * 2 ^ j → j < 2098 → Rooted x (p * 2 ^ 1074)
rooted x p j P v h J =
    let n = p * 2 ^ 1074 in
    let w = round_root_is n in
    let d = all_digits n (le_trans (lit≤ {m = 2 ^ 52 * 2 ^ 52} {n = 2 ^ 1074} tt) (small_units p (2 ^ 1074) P)) in
    record {
      v = kept n;
      k = dropped n;
      value = subst (λ (z : Float). HasValue z false (kept n * 2 ^ dropped n) (2 ^ 1074)) (sym (root_at x false p (positive_of_value x p (2 ^ 1074) v P) v ∙ w.0)) (units_val binary64 false (kept n) (dropped n) (lt_of_le_of_lt (nearest-most n (kept n) (dropped n) j (digits_above (kept n) d) w.1.below h) (pow-lt J)));
      near = w.1;
      digits = d;
    }

pub root_most : (x : Float) (n j : ℕ) (r : Rooted x n) → n ≤ 2 ^ j * 2 ^ j → r.v * 2 ^ r.k ≤ 2 ^ j
root_most x n j r h = nearest-most n r.v r.k j (digits_above r.v r.digits) r.near.below h

pub root_least : (x : Float) (n i : ℕ) (r : Rooted x n) → 2 ^ i * 2 ^ i ≤ n → 2 ^ i ≤ r.v * 2 ^ r.k
root_least x n i r h = nearest-least n r.v r.k i (le_of_lt (digits_above r.v r.digits)) r.near.above h

pub within_root : {i j : ℕ} (k l : ℕ) {x : Float} → l < 2098 → k + k ≤ i + 1074 → j + 1074 ≤ l + l → Within i j x → Within k l (root_of x)
within_root {i} {j} k l {x} L g h w =
    let p = w.units in
    let most : p * 2 ^ 1074 ≤ 2 ^ l * 2 ^ l = le_trans (mul-le-mul_right (2 ^ 1074) w.most) (le_trans (le_of_eq (sym (pow-add 2 j 1074))) (le_trans (pow_mono h) (le_of_eq (pow-add 2 l l)))) in
    let least : 2 ^ k * 2 ^ k ≤ p * 2 ^ 1074 = le_trans (le_of_eq (sym (pow-add 2 k k))) (le_trans (pow_mono g) (le_trans (le_of_eq (pow-add 2 i 1074)) (mul-le-mul_right (2 ^ 1074) w.least))) in
    let r = rooted x p l (positive w) w.value most L in
    record { units = r.v * 2 ^ r.k; value = r.value; least = root_least x (p * 2 ^ 1074) k r least; most = root_most x (p * 2 ^ 1074) l r most }
