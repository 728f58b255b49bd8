-- What the root's definition means: `whole_root` is the whole root, and `round_root` the nearest, since the radicand lies between the squares of the two middles beside it. Assumes nothing.
use Rattle.std.specs.Prelude.{◌≡◌, ℕ, zero, suc, ◌+◌, ◌-◌, ◌*◌, ◌/◌, ◌%◌, ◌^◌, ◌<◌, ◌≤◌, Bool, true, false, cond, not, T, nat_le, refl, Float}
use Rattle.std.proofs.Common.{sym, ap, ◌∙◌, subst, le_trans, le_of_eq, le_of_lt, lt_of_le_of_lt, lt_of_lt_of_le, lt_of_not-le, not-le_of_lt, mul-one, mul-le-mul, mul-le-mul_left, mul-le-mul_right, mul-div_cancel, pow-suc, div-lt_iff_lt-mul, div-mul-le_self, zero-lt-suc, div-add-mod', mod-lt, lt_irrefl, mul-lt-mul_of_pos_right, add-zero, arith, ltb→lt, leb→le, lit<, pow_pos}
use Prim.Native.Nat.{zero-le, compare, Ordering}
use Rattle.std.proofs.Math.Nat.{mul-mul-mul_comm}
use Rattle.std.proofs.Math.Dec.{nleb→lt}
use Rattle.std.specs.Float.{fin, nan, inf, binary64}
use Rattle.std.specs.Float.Ieee.{down, size, nearest, units}
use Rattle.std.specs.Float.Ieee.Digits.{size-lt}
use Rattle.std.specs.Float.Ieee.Exact.{HasValue}
use Rattle.std.specs.Float.Ieee.Fits.{down_pos}
use Rattle.std.specs.Float.Ieee.Positive.{positive}
use Rattle.laws.specs.laws.Compare.{Compared, compared}
use Rattle.root.specs.Root.{root_in, whole_root, round_root, root_of}

-- ---- squares keep the order
pub square-lt : (a b : ℕ) → a * a < b * b → a < b
square-lt a b h = lt_of_not-le (λ (g : b ≤ a). not-le_of_lt h (mul-le-mul g g))

pub two_four : (k : ℕ) → 2 ^ k * 2 ^ k ≡ 4 ^ k
two_four zero = refl
two_four (suc k) = (λ i. pow-suc 2 k i * pow-suc 2 k i) ∙ mul-mul-mul_comm (2 ^ k) 2 (2 ^ k) 2 ∙ ap (λ (x : ℕ). x * 4) (two_four k) ∙ sym (pow-suc 4 k)

-- ---- the whole root
abbrev pub IsRoot : ℕ → ℕ → Type 0
IsRoot n r = (r * r ≤ n) × (n < (r + 1) * (r + 1))

root_in_is : (d n : ℕ) → n < 4 ^ d → IsRoot n (root_in d n)
unfolding root_in
root_in_is zero n h = (omega arith, omega arith)
root_in_is (suc d) n h =
    let s = root_in d (n / 4) in
    go s (nat_le ((2 * s + 1) * (2 * s + 1)) n) (leb→le ((2 * s + 1) * (2 * s + 1)) n) (nleb→lt ((2 * s + 1) * (2 * s + 1)) n)
    (root_in_is d (n / 4) ((div-lt_iff_lt-mul (zero-lt-suc 3)).1 (subst (λ (x : ℕ). n < x) (pow-suc 4 d) h)))
  where
    go : (s : ℕ) (b : Bool) → (T b → (2 * s + 1) * (2 * s + 1) ≤ n) → (T (not b) → n < (2 * s + 1) * (2 * s + 1)) → IsRoot (n / 4) s → IsRoot n (cond b (2 * s + 1) (2 * s))
    go s true x y ih = let a = x tt in (omega arith, omega arith)
    go s false x y ih = let a = y tt in (omega arith, omega arith)

pub whole_root_is : (n : ℕ) → IsRoot n (whole_root n)
unfolding whole_root
whole_root_is n =
    root_in_is (size n) n
    (lt_of_lt_of_le (size-lt n) (le_trans (le_trans (le_of_eq (sym (mul-one (2 ^ size n)))) (mul-le-mul_left (2 ^ size n) (pow_pos (size n)))) (le_of_eq (two_four (size n)))))

pub only_root : (n r : ℕ) → IsRoot n r → r ≡ whole_root n
only_root n r w =
    let v = whole_root_is n in
    let a : r < whole_root n + 1 = square-lt r (whole_root n + 1) (lt_of_le_of_lt w.0 v.1) in
    let b : whole_root n < r + 1 = square-lt (whole_root n) (r + 1) (lt_of_le_of_lt v.0 w.1) in
    omega arith

-- ---- the nearest
-- q * 2 ^ k is nearest to the root of n among the multiples of 2 ^ k, a tie going to the even one: twice the root lies between the odd multiples of 2 ^ k beside 2q * 2 ^ k, and on one of them only where q is even
abbrev pub square : ℕ → ℕ
square a = a * a

pub record Between (n q k : ℕ) : Type 0 where
  pub below : square ((2 * q - 1) * 2 ^ k) ≤ n * 4
  pub above : n * 4 ≤ square ((2 * q + 1) * 2 ^ k)
  pub tie_below : square ((2 * q - 1) * 2 ^ k) ≡ n * 4 → q % 2 ≡ 0
  pub tie_above : n * 4 ≡ square ((2 * q + 1) * 2 ^ k) → q % 2 ≡ 0

pub square_up : (a b : ℕ) → a ≤ b → square a ≤ square b
square_up a b h = mul-le-mul h h

square_up_lt : (a b : ℕ) → a < b → square a < square b
square_up_lt a b h = lt_of_le_of_lt (mul-le-mul_left a (le_of_lt h)) (mul-lt-mul_of_pos_right h (lt_of_le_of_lt zero-le h))

module _ (n q k : ℕ) (lo : square (2 * q * 2 ^ k) ≤ n * 4) (hi : n * 4 < square (2 * (q + 1) * 2 ^ k)) where
  less : (a b : ℕ) → a < b → a * 2 ^ k < b * 2 ^ k
  less a b h = mul-lt-mul_of_pos_right h (pow_pos k)

  no : {x y : ℕ} → x < y → x ≡ y → {A : Type 0} → A
  no {x} {y} l e = absurd (lt_irrefl x (lt_of_lt_of_le l (le_of_eq (sym e))))

  -- below q the middle lies under 2q, and where q is 0 there is none
  under : square ((2 * q - 1) * 2 ^ k) ≤ n * 4
  under = le_trans (square_up ((2 * q - 1) * 2 ^ k) (2 * q * 2 ^ k) (mul-le-mul_right (2 ^ k) (let z : 2 * q - 1 ≤ 2 * q = omega arith in z))) lo

  under_tie : square ((2 * q - 1) * 2 ^ k) ≡ n * 4 → q % 2 ≡ 0
  under_tie e = go q lo e
    where
      go : (q : ℕ) → square (2 * q * 2 ^ k) ≤ n * 4 → square ((2 * q - 1) * 2 ^ k) ≡ n * 4 → q % 2 ≡ 0
      go zero l e = refl
      go (suc q) l e = no (lt_of_lt_of_le (square_up_lt ((2 * suc q - 1) * 2 ^ k) (2 * suc q * 2 ^ k) (less (2 * suc q - 1) (2 * suc q) (let z : 2 * suc q - 1 < 2 * suc q = omega arith in z))) l) e

  nearest-between : (o : Ordering) → Compared o (n * 4) (square ((2 * q + 1) * 2 ^ k)) → Between n (nearest q o) k
  nearest-between Ordering.lt c = record { below = under; above = le_of_lt c; tie_below = under_tie; tie_above = λ e. no c e }
  nearest-between Ordering.eq c = even (q % 2) refl (mod-lt q (lit< tt))
    where
      even : (d : ℕ) → q % 2 ≡ d → d < 2 → Between n (q + d) k
      even zero z l = subst (λ (x : ℕ). Between n x k) (sym (add-zero q)) (record { below = under; above = le_of_eq c; tie_below = λ e. z; tie_above = λ e. z })
      even (suc zero) z l =
          let m : 2 * (q + 1) - 1 ≡ 2 * q + 1 = omega arith in
          record {
            below = le_of_eq (ap (λ (x : ℕ). square (x * 2 ^ k)) m ∙ sym c);
            above = le_trans (le_of_eq c) (square_up ((2 * q + 1) * 2 ^ k) ((2 * (q + 1) + 1) * 2 ^ k) (mul-le-mul_right (2 ^ k) (let y : 2 * q + 1 ≤ 2 * (q + 1) + 1 = omega arith in y)));
            tie_below = λ e. (let y : (q + 1) % 2 ≡ 0 = omega arith in y);
            tie_above = λ e. (let y : (q + 1) % 2 ≡ 0 = omega arith in y);
          }
      even (suc (suc d)) z l = absurd (let y : ⊥ = omega arith in y)
  nearest-between Ordering.gt c =
      let m : 2 * suc q - 1 ≡ 2 * q + 1 = omega arith in
      let up : n * 4 < square ((2 * suc q + 1) * 2 ^ k) = lt_of_lt_of_le hi (square_up (2 * (q + 1) * 2 ^ k) ((2 * suc q + 1) * 2 ^ k) (mul-le-mul_right (2 ^ k) (let y : 2 * (q + 1) ≤ 2 * suc q + 1 = omega arith in y))) in
      let down : square ((2 * suc q - 1) * 2 ^ k) < n * 4 = lt_of_le_of_lt (le_of_eq (ap (λ (x : ℕ). square (x * 2 ^ k)) m)) c in
      record { below = le_of_lt down; above = le_of_lt up; tie_below = λ e. no down e; tie_above = λ e. no up e }

-- what the definition keeps of the whole root
abbrev pub dropped : ℕ → ℕ
dropped n = size (whole_root n) - 53

abbrev pub side : ℕ → Ordering
side n = let k = dropped n in let middle = (2 * (whole_root n / 2 ^ k) + 1) * 2 ^ k in compare (n * 4) (square middle)

abbrev pub kept : ℕ → ℕ
kept n = nearest (whole_root n / 2 ^ dropped n) (side n)

pub round_root_is : (n : ℕ) → (round_root n ≡ units binary64 false (kept n) (dropped n)) × Between n (kept n) (dropped n)
unfolding round_root
round_root_is n = (refl, nearest-between n q k lo hi (compare (n * 4) (square ((2 * q + 1) * 2 ^ k))) (compared (n * 4) (square ((2 * q + 1) * 2 ^ k))))
  where
    k : ℕ
    k = dropped n

    q : ℕ
    q = whole_root n / 2 ^ k

    part : (q * 2 ^ k ≤ whole_root n) × (whole_root n + 1 ≤ (q + 1) * 2 ^ k)
    part = let e = div-add-mod' (whole_root n) (2 ^ k) in let l = mod-lt (whole_root n) (pow_pos k) in (div-mul-le_self (whole_root n) (2 ^ k), let z : whole_root n + 1 ≤ (q + 1) * 2 ^ k = omega arith in z)

    twice : (a P : ℕ) → 2 * a * P * (2 * a * P) ≡ a * P * (a * P) * 4
    twice a P = omega arith

    lo : square (2 * q * 2 ^ k) ≤ n * 4
    lo = le_trans (le_of_eq (twice q (2 ^ k))) (mul-le-mul_right 4 (le_trans (square_up (q * 2 ^ k) (whole_root n) part.0) (whole_root_is n).0))

    hi : n * 4 < square (2 * (q + 1) * 2 ^ k)
    hi = lt_of_lt_of_le (mul-lt-mul_of_pos_right (lt_of_lt_of_le (whole_root_is n).1 (square_up (whole_root n + 1) ((q + 1) * 2 ^ k) part.1)) (lit< tt)) (le_of_eq (sym (twice (q + 1) (2 ^ k))))

-- ---- of a value above zero: n smallest values are n * 2 ^ 1074 squares of the smallest value
pub root_at : (x : Float) (s : Bool) (n : ℕ) → T (positive x) → HasValue x s n (2 ^ 1074) → root_of x ≡ round_root (n * 2 ^ 1074)
unfolding root_of
root_at (fin true m e) s n p h = absurd p
root_at (fin false zero e) s n p h = absurd (lt_irrefl 0 (ltb→lt 0 0 p))
root_at (fin false (suc m) e) s n p h = ap (λ (y : ℕ). round_root (y * 2 ^ 1074)) (ap (λ (y : ℕ). y / down e) h.1 ∙ mul-div_cancel n (down_pos e))
root_at nan s n p h = elim p [ ]
root_at (inf _) s n p h = elim p [ ]
