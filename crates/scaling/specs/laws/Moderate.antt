-- Moderate arguments are clear: RF of them has the bits that it had when its mean was formed by quarters. Assumes nothing.
use Rattle.std.specs.Prelude.{◌≡◌, refl, ◌⊎◌, Bool, true, false, not, ◌&&◌, ◌||◌, ℕ, zero, suc, ◌+◌, ◌*◌, ◌^◌, ◌≤◌, ◌<◌, T, eqb, leb, Float}
use Rattle.std.proofs.Common.{sym, ap, ◌∙◌, inl, inr, le_trans, le_of_eq, lt_of_lt_of_le, lt_of_le_of_lt, lt_irrefl, zero-lt-suc, zero-mul, mul_assoc, mul_comm, mul_left_comm, mul_right_comm, mul-pos, mul-le-mul_left, mul-le-mul_right, le_of_mul-le-mul_right, mul-lt-mul_of_pos_right, lt_of_mul-lt-mul_right, arith, leb→le, le→leb, lt→ltb, lit≤, lit<, pow-add, pow_pos}
use Rattle.std.proofs.Math.Pow.{pow-lt}
use Rattle.std.specs.Float.{nan, inf, fin, binary64}
use Rattle.std.specs.Float.Ieee.{up, down, unlike, fits, of_bits}
use Rattle.std.specs.Float.Ieee.Exact.{HasValue}
use Rattle.std.specs.Float.Ieee.Fits.{and_i, and_l, and_r, down_pos, up_pos}
use Rattle.std.specs.Float.Ieee.Scale.{finite, grid}
use Rattle.laws.specs.Arithmetic.{◌⊕◌, ◌⊘◌, 3·0, 4·0}
use Rattle.laws.specs.laws.Bounds.{Small, Within, positive, small, small_div, small_mul}
use Rattle.laws.specs.laws.Operations.{div_is}
use Rattle.laws.specs.laws.Sizes.{finite_of_lem, grid_least}
use Rattle.scaling.specs.Clear.{is_zero, normal, ClearQuotient}
use Rattle.scaling.specs.Before.{quartered, Same, ClearMeans}
use Rattle.scaling.specs.Moderate.{moderate}
use Rattle.scaling.specs.laws.Operations.{zero-units}
use Rattle.scaling.specs.laws.Multiples.{Coarse, coarse_small, coarse_wider, coarse_add, coarse_quarter, coarse_of, digits, Rounded, rounded, within_four}
use Rattle.scaling.specs.laws.Ranges.{Ranged}
use Rattle.scaling.specs.laws.Quarters.{rf_as_before}

or_split : (a b : Bool) → T (a || b) → T a ⊎ T b
or_split true b t = inl tt
or_split false b t = inr t

or_l : (a b : Bool) → T a → T (a || b)
or_l true b t = tt
or_l false b t = elim t [ ]

or_r : (a b : Bool) → T b → T (a || b)
or_r true b t = tt
or_r false b t = t

-- ---- zero, and normal, by the units
is_zero_lem : (x : Float) (s : Bool) (n : ℕ) → HasValue x s n (2 ^ 1074) → n ≡ 0 → T (is_zero x)
is_zero_lem nan s n v o = absurd v
is_zero_lem (inf t) s n v o = absurd v
is_zero_lem (fin t zero e) s n v o = tt
is_zero_lem (fin t (suc m) e) s n v o = absurd (lt_irrefl 0 (lt_of_lt_of_le (mul-pos (mul-pos (zero-lt-suc m) (up_pos e)) (pow_pos 1074)) (le_of_eq (v.1 ∙ ap (λ (z : ℕ). z * down e) o ∙ zero-mul (down e)))))

is_normal : (x : Float) (s : Bool) (n : ℕ) → HasValue x s n (2 ^ 1074) → 2 ^ 52 < n → T (normal x)
is_normal nan s n v h = absurd v
is_normal (inf t) s n v h = absurd v
is_normal (fin t m e) s n v h = lt→ltb (down e) (m * up e * 2 ^ 1022) (go (m * up e) (down e) (2 ^ 52) (2 ^ 1022) (2 ^ 1074) (down_pos e) (pow-add 2 1022 52) v.1 h)
  where
    go : (a d P Q R : ℕ) → 0 < d → R ≡ Q * P → a * R ≡ n * d → P < n → d < a * Q
    go a d P Q R D r e l = lt_of_mul-lt-mul_right P (lt_of_le_of_lt (le_of_eq (mul_comm d P)) (lt_of_lt_of_le (mul-lt-mul_of_pos_right l D) (le_of_eq (sym e ∙ ap (λ (z : ℕ). a * z) r ∙ sym (mul_assoc a Q P)))))

-- ---- in units: 2 ^ -400 is 2 ^ 674 of them, and 2 ^ 400 is 2 ^ 1474
-- a / d = n / U with U = P * Q
low : (a d n P Q U : ℕ) → 0 < d → U ≡ P * Q → a * U ≡ n * d → d ≤ a * P → Q ≤ n
low a d n P Q U D r e h = le_of_mul-le-mul_right (le_trans (le_of_eq (mul_comm Q d)) (le_trans (mul-le-mul_right Q h) (le_of_eq (mul_assoc a P Q ∙ ap (λ (z : ℕ). a * z) (sym r) ∙ e)))) D

pub least_back : (a d n P Q U : ℕ) → 0 < Q → U ≡ P * Q → a * U ≡ n * d → Q ≤ n → d ≤ a * P
least_back a d n P Q U H r e h = le_of_mul-le-mul_right (le_trans (le_of_eq (mul_comm d Q)) (le_trans (mul-le-mul_right d h) (le_of_eq (sym e ∙ ap (λ (z : ℕ). a * z) r ∙ sym (mul_assoc a P Q))))) H

pub most-units : (a d n P U R : ℕ) → 0 < d → R ≡ P * U → a * U ≡ n * d → a ≤ P * d → n ≤ R
most-units a d n P U R D r e h = le_of_mul-le-mul_right (le_trans (le_of_eq (sym e)) (le_trans (mul-le-mul_right U h) (le_of_eq (mul_right_comm P d U ∙ ap (λ (z : ℕ). z * d) (sym r))))) D

high_back : (a d n P U R : ℕ) → 0 < U → R ≡ P * U → a * U ≡ n * d → n ≤ R → a ≤ P * d
high_back a d n P U R H r e h = le_of_mul-le-mul_right (le_trans (le_of_eq e) (le_trans (mul-le-mul_right d h) (le_of_eq (ap (λ (z : ℕ). z * d) r ∙ mul_right_comm P U d)))) H

in_units : (x : Float) (s : Bool) (n : ℕ) → HasValue x s n (2 ^ 1074) → T (moderate x) → ((n ≡ 0) ⊎ (2 ^ 674 ≤ n)) × (n ≤ 2 ^ 1474)
in_units nan s n v h = absurd v
in_units (inf t) s n v h = absurd v
in_units (fin t m e) s n v h = go (or_split (eqb m 0) (leb d (a * 2 ^ 400) && leb a (2 ^ 400 * d)) h)
  where
    a : ℕ
    a = m * up e

    d : ℕ
    d = down e

    go : T (eqb m 0) ⊎ T (leb d (a * 2 ^ 400) && leb a (2 ^ 400 * d)) → ((n ≡ 0) ⊎ (2 ^ 674 ≤ n)) × (n ≤ 2 ^ 1474)
    go (inl z) = let o = zero-units (fin t m e) s n v z in (inl o, le_trans (le_of_eq o) (lit≤ tt))
    go (inr k) = (
      inr (low a d n (2 ^ 400) (2 ^ 674) (2 ^ 1074) (down_pos e) (pow-add 2 400 674) v.1 (leb→le d (a * 2 ^ 400) (and_l (leb d (a * 2 ^ 400)) (leb a (2 ^ 400 * d)) k))),
      most-units a d n (2 ^ 400) (2 ^ 1074) (2 ^ 1474) (down_pos e) (pow-add 2 400 1074) v.1 (leb→le a (2 ^ 400 * d) (and_r (leb d (a * 2 ^ 400)) (leb a (2 ^ 400 * d)) k)),
    )

pub moderate_of : {s : Bool} {x : Float} → Ranged s 674 1474 x → T (moderate x)
moderate_of {s} {x} r = go x s r.units r.value r.least r.most
  where
    go : (x : Float) (s : Bool) (n : ℕ) → HasValue x s n (2 ^ 1074) → (n ≡ 0) ⊎ (2 ^ 674 ≤ n) → n ≤ 2 ^ 1474 → T (moderate x)
    go nan s n v l h = absurd v
    go (inf t) s n v l h = absurd v
    go (fin t m e) s n v (inl o) h = or_l (eqb m 0) _ (is_zero_lem (fin t m e) s n v o)
    go (fin t m e) s n v (inr l) h =
        or_r (eqb m 0) _ (and_i (leb (down e) (m * up e * 2 ^ 400)) (leb (m * up e) (2 ^ 400 * down e))
        (le→leb (down e) (m * up e * 2 ^ 400) (least_back (m * up e) (down e) n (2 ^ 400) (2 ^ 674) (2 ^ 1074) (pow_pos 674) (pow-add 2 400 674) v.1 l))
        (le→leb (m * up e) (2 ^ 400 * down e) (high_back (m * up e) (down e) n (2 ^ 400) (2 ^ 1074) (2 ^ 1474) (pow_pos 1074) (pow-add 2 400 1074) v.1 h)))

pub moderate_finite : (x : Float) → T (moderate x) → T (finite x)
moderate_finite nan h = h
moderate_finite (inf t) h = h
moderate_finite (fin t m e) h = tt

-- so a moderate f64 is a multiple of 2 ^ -453
moderate_coarse : (x : Float) → T (fits binary64 x) → T (moderate x) → Coarse 621 1474 x
moderate_coarse x f h =
    let d = digits x (moderate_finite x h) f in
    let u = in_units x d.sign (d.lead * 2 ^ d.place) d.value h in
    coarse_of 621 1474 d u.0 u.1

-- ---- over 3 or 4
pub within-three : Within 1075 1076 3·0
unfolding of_bits
within-three = record { units = 3 * 2 ^ 1074; value = (refl, refl); least = lit≤ tt; most = lit≤ tt }

fourths : (Q U b N : ℕ) → Q * 4 ≤ N → b ≤ U * 4 → Q * (U * b) ≤ N * U * U
fourths Q U b N h k =
    le_trans (mul-le-mul_left Q (mul-le-mul_left U k)) (le_trans (le_of_eq (turn Q U)) (mul-le-mul_right U (mul-le-mul_right U h)))
  where
    turn : (Q U : ℕ) → Q * (U * (U * 4)) ≡ Q * 4 * U * U
    turn Q U = simp (mul_assoc, mul_comm, mul_left_comm)

pub clear_over : {j l : ℕ} (k i : ℕ) (p : Float) {x : Float} → T (not (is_zero p)) → Within l 1076 p → 52 < k → k < 2098 → i < 2098 → j + 1074 ≤ i + l → Coarse (k + 2) j x → ClearQuotient x p
clear_over {j} {l} k i p {x} P w K L I J v = and_i (not (is_zero p)) (is_zero x || normal (x ⊘ p)) P (go v.count refl)
  where
    U : ℕ
    U = 2 ^ 1074

    b : ℕ
    b = w.units

    B : 0 < b
    B = positive w

    N : ℕ
    N = v.count * 2 ^ (k + 2)

    r : Rounded (unlike v.sign false) (N * U) (U * b) (x ⊘ p)
    r =
        rounded (unlike v.sign false) (N * U) (U * b) (div_is binary64 x p v.sign false N b U U (pow_pos 1074) (pow_pos 1074) B v.value w.value)
        (small_div i I J (coarse_small v) w)

    some : (n Q : ℕ) → Q ≤ suc n * Q
    some n Q = omega arith

    go : (n : ℕ) → v.count ≡ n → T (is_zero x || normal (x ⊘ p))
    go zero e = or_l (is_zero x) (normal (x ⊘ p)) (is_zero_lem x v.sign N v.value (ap (λ (n : ℕ). n * 2 ^ (k + 2)) e ∙ zero-mul (2 ^ (k + 2))))
    go (suc n) e =
        let h : 2 ^ k * 4 ≤ N = le_trans (le_of_eq (sym (pow-add 2 k 2))) (le_trans (some n (2 ^ (k + 2))) (le_of_eq (ap (λ (n : ℕ). n * 2 ^ (k + 2)) (sym e)))) in
        let m : b ≤ U * 4 = le_trans w.most (le_of_eq (pow-add 2 1074 2)) in
        let l : 2 ^ k ≤ grid binary64 (N * U) (U * b) = grid_least (N * U) (U * b) k (mul-pos (pow_pos 1074) B) L (fourths (2 ^ k) U b N h m) r.fine in
        or_r (is_zero x) (normal (x ⊘ p)) (is_normal (x ⊘ p) (unlike v.sign false) (grid binary64 (N * U) (U * b)) r.value (lt_of_lt_of_le (pow-lt K) l))

-- ---- the means
pub coarse_finite : {k j : ℕ} {x : Float} → Coarse k j x → T (finite x)
coarse_finite {k} {j} {x} v = finite_of_lem x v.sign (v.count * 2 ^ k) (2 ^ 1074) v.value

pub finite_small : {j : ℕ} {x : Float} → Small j x → T (finite x)
finite_small {j} {x} v = finite_of_lem x v.sign v.units (2 ^ 1074) v.value

pub quarter_finite : (x : Float) → T (fits binary64 x) → T (moderate x) → T (finite (x ⊘ 4·0))
quarter_finite x f h = coarse_finite (coarse_quarter 619 1474 (lit< tt) (lit≤ tt) (moderate_coarse x f h))

pub moderate_clear : (x y z : Float) → T (fits binary64 x) → T (fits binary64 y) → T (fits binary64 z) → T (moderate x) → T (moderate y) → T (moderate z) → ClearMeans x y z
unfolding of_bits
moderate_clear x y z fx fy fz mx my mz = record {
  finite_x = coarse_finite a;
  finite_y = coarse_finite b;
  finite_z = coarse_finite c;
  quarter_x = over_four a;
  quarter_y = over_four b;
  quarter-z = over_four c;
  two = coarse_finite (add a b);
  three = coarse_finite (three a b c);
  two_quarters = coarse_finite (add qa qb);
  three_quarters = coarse_finite (three qa qb qc);
  mean = clear_over 619 1476 3·0 tt within-three (lit< tt) (lit< tt) (lit< tt) (lit≤ tt) (three a b c);
  mean_quarters = clear_over 617 1476 3·0 tt within-three (lit< tt) (lit< tt) (lit< tt) (lit≤ tt) (three qa qb qc);
  finite_quartered = finite_small quarters;
  finite_before = finite_small (small_mul 1480 (lit< tt) (lit≤ tt) (small within_four) quarters);
}
  where
    a : Coarse 621 1474 x
    a = moderate_coarse x fx mx

    b : Coarse 621 1474 y
    b = moderate_coarse y fy my

    c : Coarse 621 1474 z
    c = moderate_coarse z fz mz

    over_four : {v : Float} → Coarse 621 1474 v → ClearQuotient v 4·0
    over_four v = clear_over 619 1474 4·0 tt within_four (lit< tt) (lit< tt) (lit< tt) (lit≤ tt) v

    quarter : {v : Float} → Coarse 621 1474 v → Coarse 619 1474 (v ⊘ 4·0)
    quarter v = coarse_quarter 619 1474 (lit< tt) (lit≤ tt) v

    qa : Coarse 619 1474 (x ⊘ 4·0)
    qa = quarter a

    qb : Coarse 619 1474 (y ⊘ 4·0)
    qb = quarter b

    qc : Coarse 619 1474 (z ⊘ 4·0)
    qc = quarter c

    add : {k : ℕ} {u v : Float} → Coarse k 1474 u → Coarse k 1474 v → Coarse k 1475 (u ⊕ v)
    add u v = coarse_add (lit< tt) u v

    three : {k : ℕ} {u v w : Float} → Coarse k 1474 u → Coarse k 1474 v → Coarse k 1474 w → Coarse k 1476 (u ⊕ v ⊕ w)
    three u v w = coarse_add (lit< tt) (add u v) (coarse_wider 1475 (lit≤ tt) w)

    quarters : Small 1476 (quartered x y z)
    quarters = small_div 1476 (lit< tt) (lit≤ tt) (coarse_small (three qa qb qc)) within-three

pub rf_as_before-moderate : (x y z : Float) → T (fits binary64 x) → T (fits binary64 y) → T (fits binary64 z) → T (moderate x) → T (moderate y) → T (moderate z) → Same x y z
rf_as_before-moderate x y z fx fy fz mx my mz = rf_as_before x y z fx fy fz (moderate_clear x y z fx fy fz mx my mz)
