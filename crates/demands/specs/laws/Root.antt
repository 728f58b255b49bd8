-- The root of a finite value is the nearest f64 to the exact root, ties to even. Assumes nothing.
use Rattle.std.specs.Prelude.{◌≡◌, Bool, true, false, ℕ, zero, suc, ◌+◌, ◌*◌, ◌/◌, ◌^◌, ◌≤◌, ◌<◌, T, Float}
use Rattle.std.proofs.Common.{sym, ap, ◌∙◌, subst, le_trans, le_of_eq, lt_of_le_of_lt, lt_of_lt_of_le, mul-le-mul_right, le-div_iff_mul-le, lt_irrefl, mul-lt-mul_of_pos_right, mul_right_comm, lt_of_mul-lt-mul_right, arith, ltb→lt, pow-add, pow_pos}
use Rattle.std.proofs.Math.Pow.{pow-lt}
use Rattle.std.specs.Float.{fin, binary64}
use Rattle.std.specs.Float.Ieee.{down, size, fits}
use Rattle.std.specs.Float.Ieee.Digits.{size-le, size_reaches}
use Rattle.std.specs.Float.Ieee.Exact.{HasValue, units_val}
use Rattle.std.specs.Float.Ieee.Fits.{nearest-le, kept-lt}
use Rattle.std.specs.Float.Ieee.Nearest.{nearest-ge}
use Rattle.std.specs.Float.Ieee.Positive.{positive}
use Rattle.std.specs.Float.Ieee.Scale.{overflow}
use Rattle.laws.specs.laws.Exact.{fits_bounds}
use Rattle.root.specs.Root.{whole_root, root_of}
use Rattle.root.specs.laws.Meaning.{square, square_up, square-lt, whole_root_is, Between, dropped, side, kept, round_root_is, root_at}

value-lt : (x : Float) (s : Bool) (n : ℕ) → T (positive x) → T (fits binary64 x) → HasValue x s n (2 ^ 1074) → n < 2 ^ 1024 * 2 ^ 1074
value-lt (fin true m e) s n p f h = absurd p
value-lt (fin false zero e) s n p f h = absurd (lt_irrefl 0 (ltb→lt 0 0 p))
value-lt (fin false (suc m) e) s n p f h =
    lt_of_mul-lt-mul_right (down e)
    (lt_of_le_of_lt (le_of_eq (sym h.1))
    (lt_of_lt_of_le (mul-lt-mul_of_pos_right (fits_bounds binary64 false m e f).2 (pow_pos 1074)) (le_of_eq (mul_right_comm (2 ^ 1024) (down e) (2 ^ 1074)))))
value-lt lib.Ieee.nan s n p f h = elim p [ ]
value-lt (lib.Ieee.inf _) s n p f h = elim p [ ]

-- the root of a finite value never overflows
kept_small : (n : ℕ) → n < 2 ^ 1024 * 2 ^ 1074 → kept (n * 2 ^ 1074) * 2 ^ dropped (n * 2 ^ 1074) < overflow binary64
kept_small n h =
    let r = whole_root (n * 2 ^ 1074) in
    let k = dropped (n * 2 ^ 1074) in
    let small : r < 2 ^ 1586 = square-lt r (2 ^ 1586) (lt_of_le_of_lt (whole_root_is (n * 2 ^ 1074)).0 (lt_of_lt_of_le (mul-lt-mul_of_pos_right h (pow_pos 1074)) (le_of_eq powers))) in
    let z : size r ≤ 1586 = size-le r 1586 small in
    let q : kept (n * 2 ^ 1074) ≤ 2 ^ 53 = le_trans (nearest-le (r / 2 ^ k) (side (n * 2 ^ 1074))) (kept-lt 53 r) in
    lt_of_le_of_lt (mul-le-mul_right (2 ^ k) q) (lt_of_le_of_lt (le_of_eq (sym (pow-add 2 53 k))) (pow-lt (let y : 53 + k < 2098 = omega arith in y)))
  where
    powers : 2 ^ 1024 * 2 ^ 1074 * 2 ^ 1074 ≡ 2 ^ 1586 * 2 ^ 1586
    powers = ap (λ (x : ℕ). x * 2 ^ 1074) (sym (pow-add 2 1024 1074)) ∙ sym (pow-add 2 2098 1074) ∙ pow-add 2 1586 1586

-- so the root of x is a value q * 2 ^ k for which `Between` holds
pub root_nearest : (x : Float) (s : Bool) (n : ℕ) → T (positive x) → T (fits binary64 x) → HasValue x s n (2 ^ 1074)
    → HasValue (root_of x) false (kept (n * 2 ^ 1074) * 2 ^ dropped (n * 2 ^ 1074)) (2 ^ 1074) × Between (n * 2 ^ 1074) (kept (n * 2 ^ 1074)) (dropped (n * 2 ^ 1074))
root_nearest x s n p f h =
    let N = n * 2 ^ 1074 in
    let w = round_root_is N in (
      subst (λ (y : Float). HasValue y false (kept N * 2 ^ dropped N) (2 ^ 1074)) (sym (root_at x s n p h ∙ w.0)) (units_val binary64 false (kept N) (dropped N) (kept_small n (value-lt x s n p f h))),
      w.1,
    )

-- Where digits are dropped 2 ^ k is the place of the last of 53, and the root is not below the lowest number of 53 digits there: the multiples of 2 ^ k beside it are neighbouring f64, and the middles of `Between` are theirs.
pub root_unit : (n : ℕ) → 0 < dropped n → (2 ^ 52 ≤ kept n) × (kept n ≤ 2 ^ 53) × (square (2 ^ 52 * 2 ^ dropped n) ≤ n)
root_unit n h =
    let r = whole_root n in
    let k = dropped n in
    let a : 2 ^ (52 + k) ≤ r = size_reaches r (52 + k) (let z : 52 + k < size r = omega arith in z) in
    let b : 2 ^ 52 * 2 ^ k ≤ r = le_trans (le_of_eq (sym (pow-add 2 52 k))) a in
    let c : 2 ^ 52 ≤ r / 2 ^ k = (le-div_iff_mul-le (pow_pos k)).1 b in
    (le_trans c (nearest-ge (r / 2 ^ k) (side n)), le_trans (nearest-le (r / 2 ^ k) (side n)) (kept-lt 53 r), le_trans (square_up (2 ^ 52 * 2 ^ k) r b) (whole_root_is n).0)
