-- A power of two goes through every operation: where neither result loses digits to the ends of the range, operands that are 2^i times others give a result that is a power of two times the others', bit for bit. Assumes nothing.
use Rattle.std.specs.Prelude.{◌≡◌, refl, Bool, true, false, not, cond, ◌&&◌, ◌||◌, T, ltb, leb, Float}
use Rattle.std.proofs.Common.{sym, ap, ap₂, ◌∙◌, subst, le_of_eq, lt_of_lt_of_le, lt_of_le_of_lt, mul-one, one-mul, zero-mul, mul-zero, mul_comm, mul_assoc, mul_left_comm, mul_right_comm, mul-pos, mul-div_cancel, add-mul, mul-lt-mul_of_pos_right, lt_of_mul-lt-mul_right, arith, ltb→lt, nltb→le, leb→le, eqb→eq, lit<, pow-add, pow_pos, pow_mono, shl_lt}
use Rattle.std.specs.Bool.{beq}
use Prim.Native.Nat.{ℕ, zero, suc, ◌+◌, ◌-◌, ◌*◌, ◌/◌, ◌%◌, ◌^◌, ◌≤◌, ◌<◌, compare, Ordering}
use Rattle.std.proofs.Math.Nat.{mul-mul-mul_comm, mul-mod_left, mul-sub, eq_of_mul-eq-mul_right}
use Rattle.std.proofs.Math.Dec.{nleb→lt}
use Rattle.std.specs.Float.{nan, inf, fin, Format, binary64}
use Rattle.std.specs.Float.Ieee.{prec, low, up, down, size, nearest, units, round, sum, unlike, below, neg, sub, lt, fits}
use Rattle.std.specs.Float.Ieee.Digits.{size-lt, size-le, back}
use Rattle.std.specs.Float.Ieee.Exact.{HasValue, units_val}
use Rattle.std.specs.Float.Ieee.Fits.{down_pos, up_pos, round_is}
use Rattle.std.specs.Float.Ieee.Nearest.{closest, closest_same, div_same}
use Rattle.std.specs.Float.Ieee.Order.{drop, kept}
use Rattle.std.specs.Float.Ieee.Positive.{first_pos}
use Rattle.std.specs.Float.Ieee.Scale.{finite, grid, grid_scale, overflow, normal_of_rounded, round_same}
use Rattle.laws.specs.Arithmetic.{◌⊕◌, ◌⊖◌, ◌⊗◌, ◌⊘◌, ◌<·◌}
use Rattle.scaling.specs.Clear.{is_zero, normal, ClearSum, ClearDifference, ClearProduct, ClearQuotient}
use Rattle.laws.specs.laws.Compare.{compare_is}
use Rattle.laws.specs.laws.Exact.{round_of_value}
use Rattle.laws.specs.laws.Operations.{mul_is, div_is, add_is, neg_value}
use Rattle.laws.specs.laws.Rounding.{units_over, round-value}
use Rattle.laws.specs.laws.Sum.{ltb-same}
use Rattle.laws.specs.laws.Units.{units_of_lem}

-- ---- the rounded number of units
grid_same : (f : Format) (a c b d : ℕ) → 0 < c → 0 < d → a * d ≡ b * c → grid f a c ≡ grid f b d
grid_same f a c b d C D e =
    let l = 2 ^ low f in
    let p = prec f in
    let x : a * l * d ≡ b * l * c = mul_right_comm a l d ∙ ap (λ (z : ℕ). z * l) e ∙ mul_right_comm b c l in
    let k : drop p (a * l) c ≡ drop p (b * l) d = ap (λ (z : ℕ). size z - p) (div_same (a * l) c (b * l) d C D x) in
    let j = drop p (b * l) d in
    let y : a * l * (d * 2 ^ j) ≡ b * l * (c * 2 ^ j) = sym (mul_assoc (a * l) d (2 ^ j)) ∙ ap (λ (z : ℕ). z * 2 ^ j) x ∙ mul_assoc (b * l) c (2 ^ j) in
    ap (λ (z : ℕ). closest (a * l) (c * 2 ^ z) * 2 ^ z) k
    ∙ ap (λ (z : ℕ). z * 2 ^ j) (closest_same (a * l) (c * 2 ^ j) (b * l) (d * 2 ^ j) (mul-pos C (pow_pos j)) (mul-pos D (pow_pos j)) y)

closest_exact : (q u : ℕ) → 0 < u → closest (q * u) u ≡ q
closest_exact q u h =
    ap (λ (x : ℕ). nearest x (compare (q * u % u * 2) u)) (mul-div_cancel q h)
    ∙ ap (λ (x : ℕ). nearest q (compare (x * 2) u)) (mul-mod_left q u)
    ∙ ap (λ (o : Ordering). nearest q o) (compare_is Ordering.lt 0 u h)

spare : (z p l : ℕ) → z ≤ p + l → z - p ≤ l
spare z p l h = omega arith

-- q * 2 ^ t units are rounded to themselves, q having no more digits than the format keeps
pub grid_exact : (f : Format) (q t : ℕ) → q < 2 ^ prec f → grid f (q * 2 ^ t) (2 ^ low f) ≡ q * 2 ^ t
grid_exact f q t small =
    let l = 2 ^ low f in
    let n = q * 2 ^ t * l in
    let k = drop (prec f) n l in
    let e1 : n / l ≡ q * 2 ^ t = mul-div_cancel (q * 2 ^ t) (pow_pos (low f)) in
    let k-le : k ≤ t = spare (size (n / l)) (prec f) t (size-le (n / l) (prec f + t) (subst (λ (x : ℕ). x < 2 ^ (prec f + t)) (sym e1) (shl_lt (prec f) t small))) in
    let r = q * 2 ^ (t - k) in
    let e3 : r * 2 ^ k ≡ q * 2 ^ t = mul_assoc q (2 ^ (t - k)) (2 ^ k) ∙ ap (λ (x : ℕ). q * x) (sym (pow-add 2 (t - k) k) ∙ ap (λ (x : ℕ). 2 ^ x) (back t k k-le)) in
    let e2 : n ≡ r * (l * 2 ^ k) = ap (λ (x : ℕ). x * l) (sym e3) ∙ mul_assoc r (2 ^ k) l ∙ ap (λ (x : ℕ). r * x) (mul_comm (2 ^ k) l) in
    ap (λ (x : ℕ). closest x (l * 2 ^ k) * 2 ^ k) e2 ∙ ap (λ (x : ℕ). x * 2 ^ k) (closest_exact r (l * 2 ^ k) (mul-pos (pow_pos (low f)) (pow_pos k))) ∙ e3

-- a power of two goes through the rounding of a / c
abbrev Scales : Format → ℕ → ℕ → Type 0
Scales f a c = (t : ℕ) → grid f (a * 2 ^ t) c ≡ grid f a c * 2 ^ t

-- of a whole number of units, however small
pub whole_scales : (f : Format) (n : ℕ) → Scales f n (2 ^ low f)
whole_scales f n t = go (leb (prec f) (size (n * l / l))) (leb→le (prec f) (size (n * l / l))) (nleb→lt (prec f) (size (n * l / l)))
  where
    l : ℕ
    l = 2 ^ low f

    own : n < 2 ^ prec f → grid f n l ≡ n
    own h = ap (λ (x : ℕ). grid f x l) (sym (mul-one n)) ∙ grid_exact f n 0 h ∙ mul-one n

    go : (b : Bool) → (T b → prec f ≤ size (n * l / l)) → (T (not b) → size (n * l / l) < prec f) → grid f (n * 2 ^ t) l ≡ grid f n l * 2 ^ t
    go true h k = grid_scale f n l t (pow_pos (low f)) (h tt)
    go false h k =
        let few : n < 2 ^ prec f = subst (λ (x : ℕ). x < 2 ^ prec f) (mul-div_cancel n (pow_pos (low f))) (lt_of_lt_of_le (size-lt (n * l / l)) (pow_mono (let g = k tt in let z : size (n * l / l) ≤ prec f = omega arith in z))) in
        grid_exact f n t few ∙ ap (λ (x : ℕ). x * 2 ^ t) (sym (own few))

scales_same : (f : Format) (a c b d : ℕ) → 0 < c → 0 < d → a * d ≡ b * c → Scales f b d → Scales f a c
scales_same f a c b d C D e s t =
    grid_same f (a * 2 ^ t) c (b * 2 ^ t) d C D (mul_right_comm a (2 ^ t) d ∙ ap (λ (z : ℕ). z * 2 ^ t) e ∙ mul_right_comm b c (2 ^ t))
    ∙ s t ∙ ap (λ (z : ℕ). z * 2 ^ t) (sym (grid_same f a c b d C D e))

-- so a fraction that is 2^i / 2^j times another rounds to that much of it
grid_ratio : (f : Format) (a c b d i j : ℕ) → 0 < c → 0 < d → a * 2 ^ i * d ≡ b * 2 ^ j * c → Scales f a c → Scales f b d → grid f a c * 2 ^ i ≡ grid f b d * 2 ^ j
grid_ratio f a c b d i j C D e s t = sym (s i) ∙ grid_same f (a * 2 ^ i) c (b * 2 ^ j) d C D e ∙ t j

-- ---- y is 2^i / 2^j times x: both finite, of one sign, in units of 2^-1074
pub record Times (i j : ℕ) (x y : Float) : Type 0 where
  pub sign : Bool
  pub before : ℕ
  pub after : ℕ
  pub first : HasValue x sign before (2 ^ 1074)
  pub second : HasValue y sign after (2 ^ 1074)
  pub ratio : before * 2 ^ i ≡ after * 2 ^ j

-- only i - j counts
pub times_as : {i j : ℕ} (k l : ℕ) {x y : Float} → i + l ≡ k + j → Times i j x y → Times k l x y
times_as {i} {j} k l e t = record { sign = t.sign; before = t.before; after = t.after; first = t.first; second = t.second; ratio = eq_of_mul-eq-mul_right (2 ^ j) (pow_pos j) (t.before * 2 ^ k) (t.after * 2 ^ l) (go t.before t.after t.ratio) }
  where
    go : (n m : ℕ) → n * 2 ^ i ≡ m * 2 ^ j → n * 2 ^ k * 2 ^ j ≡ m * 2 ^ l * 2 ^ j
    go n m r =
        mul_assoc n (2 ^ k) (2 ^ j) ∙ ap (λ (z : ℕ). n * z) (sym (pow-add 2 k j) ∙ ap (λ (z : ℕ). 2 ^ z) (sym e) ∙ pow-add 2 i l)
        ∙ sym (mul_assoc n (2 ^ i) (2 ^ l)) ∙ ap (λ (z : ℕ). z * 2 ^ l) r ∙ mul_right_comm m (2 ^ j) (2 ^ l)

-- what is finite did not overflow
under : (s : Bool) (q k : ℕ) → T (finite (units binary64 s q k)) → q * 2 ^ k < overflow binary64
under s q k h = go (ltb (q * 2 ^ k) (overflow binary64)) (ltb→lt (q * 2 ^ k) (overflow binary64)) (nltb→le (q * 2 ^ k) (overflow binary64))
  where
    go : (b : Bool) → (T b → q * 2 ^ k < overflow binary64) → (T (not b) → overflow binary64 ≤ q * 2 ^ k) → q * 2 ^ k < overflow binary64
    go true y n = y tt
    go false y n = absurd (subst (λ (z : Float). T (finite z)) (units_over binary64 s q k (n tt)) h)

pub times-units : (s : Bool) (i j q k q' k' : ℕ) → T (finite (units binary64 s q k)) → T (finite (units binary64 s q' k')) → q * 2 ^ k * 2 ^ i ≡ q' * 2 ^ k' * 2 ^ j → Times i j (units binary64 s q k) (units binary64 s q' k')
times-units s i j q k q' k' h h' e = record { sign = s; before = q * 2 ^ k; after = q' * 2 ^ k'; first = units_val binary64 s q k (under s q k h); second = units_val binary64 s q' k' (under s q' k' h'); ratio = e }

-- ---- a / c is rounded below overflow, and a power of two goes through
record Good (a c : ℕ) : Type 0 where
  scales : Scales binary64 a c
  fine : grid binary64 a c < overflow binary64

pub fine-round : (s : Bool) (a c : ℕ) → T (finite (round binary64 s a c)) → grid binary64 a c < overflow binary64
fine-round s a c h = under s (kept 53 (a * 2 ^ 1074) c) (drop 53 (a * 2 ^ 1074) c) (subst (λ (z : Float). T (finite z)) (round_is binary64 s a c) h)

good_whole : (s : Bool) (n : ℕ) → T (finite (round binary64 s n (2 ^ 1074))) → Good n (2 ^ 1074)
good_whole s n h = record { scales = whole_scales binary64 n; fine = fine-round s n (2 ^ 1074) h }

no_units : (a c : ℕ) → a ≡ 0 → a * 2 ^ 1074 ≡ 0 * c
no_units a c e = ap (λ (z : ℕ). z * 2 ^ 1074) e ∙ zero-mul (2 ^ 1074) ∙ sym (zero-mul c)

pub grid_zero : (a c : ℕ) → 0 < c → a ≡ 0 → grid binary64 a c ≡ 0
grid_zero a c C e = grid_same binary64 a c 0 (2 ^ 1074) C (pow_pos 1074) (no_units a c e) ∙ grid_exact binary64 0 0 (pow_pos 53)

good_zero : (a c : ℕ) → 0 < c → a ≡ 0 → Good a c
good_zero a c C e = record {
  scales = scales_same binary64 a c 0 (2 ^ 1074) C (pow_pos 1074) (no_units a c e) (whole_scales binary64 0);
  fine = subst (λ (z : ℕ). z < overflow binary64) (sym (grid_zero a c C e)) (pow_pos 2098);
}

normal_finite : (x : Float) → T (normal x) → T (finite x)
normal_finite nan h = h
normal_finite (inf s) h = h
normal_finite (fin s m e) h = tt

normal-units : (x : Float) (s : Bool) (n : ℕ) → HasValue x s n (2 ^ 1074) → T (normal x) → 2 ^ 52 < n
normal-units nan s n v h = absurd v
normal-units (inf t) s n v h = absurd v
normal-units (fin t m e) s n v h = go (m * up e) (down e) (2 ^ 52) (2 ^ 1022) (2 ^ 1074) (pow_pos 52) (pow-add 2 1022 52) v.1 (ltb→lt (down e) (m * up e * 2 ^ 1022) h)
  where
    go : (a d P Q R : ℕ) → 0 < P → R ≡ Q * P → a * R ≡ n * d → d < a * Q → P < n
    go a d P Q R p r e l =
        lt_of_mul-lt-mul_right d (lt_of_le_of_lt (le_of_eq (mul_comm P d)) (lt_of_lt_of_le (mul-lt-mul_of_pos_right l p) (le_of_eq (mul_assoc a Q P ∙ ap (λ (z : ℕ). a * z) (sym r) ∙ e))))

good_normal : (s : Bool) (a c : ℕ) → 0 < c → T (normal (round binary64 s a c)) → Good a c
good_normal s a c C h = record {
  scales = λ t. grid_scale binary64 a c t C (normal_of_rounded binary64 a c (normal-units (round binary64 s a c) s (grid binary64 a c) (round-value binary64 s a c small) h));
  fine = small;
}
  where
    small : grid binary64 a c < overflow binary64
    small = fine-round s a c (normal_finite (round binary64 s a c) h)

times-round : (s : Bool) (a c b d i j : ℕ) → 0 < c → 0 < d → a * 2 ^ i * d ≡ b * 2 ^ j * c → Good a c → Good b d → Times i j (round binary64 s a c) (round binary64 s b d)
times-round s a c b d i j C D e g h = record {
  sign = s;
  before = grid binary64 a c;
  after = grid binary64 b d;
  first = round-value binary64 s a c g.fine;
  second = round-value binary64 s b d h.fine;
  ratio = grid_ratio binary64 a c b d i j C D e g.scales h.scales;
}

-- ---- zero, and not zero, in units
pub zero-units : (x : Float) (s : Bool) (n : ℕ) → HasValue x s n (2 ^ 1074) → T (is_zero x) → n ≡ 0
zero-units nan s n v h = absurd v
zero-units (inf t) s n v h = absurd v
zero-units (fin t m e) s n v h =
    eq_of_mul-eq-mul_right (down e) (down_pos e) n 0 (sym v.1 ∙ ap (λ (z : ℕ). z * up e * 2 ^ 1074) (eqb→eq m 0 h) ∙ ap (λ (z : ℕ). z * 2 ^ 1074) (zero-mul (up e)) ∙ zero-mul (2 ^ 1074) ∙ sym (zero-mul (down e)))

pub some_units : (x : Float) (s : Bool) (n : ℕ) → HasValue x s n (2 ^ 1074) → T (not (is_zero x)) → 0 < n
some_units nan s n v h = absurd v
some_units (inf t) s n v h = absurd v
some_units (fin t zero e) s n v h = absurd h
some_units (fin t (suc m) e) s n v h = first_pos n (down e) (subst (λ (z : ℕ). 0 < z) v.1 (mul-pos (mul-pos (some m) (up_pos e)) (pow_pos 1074)))
  where
    some : (m : ℕ) → 0 < suc m
    some m = omega arith

-- ---- the operations
-- what two fractions round to, under other names
moved : {i j : ℕ} {x y x' y' : Float} → x ≡ x' → y ≡ y' → Times i j x' y' → Times i j x y
moved {i} {j} {x} {y} {x'} {y'} e g t = subst (λ (z : Float). Times i j z y) (sym e) (subst (λ (z : Float). Times i j x' z) (sym g) t)

good_product : (x y : Float) (s t : Bool) (n m : ℕ) → HasValue x s n (2 ^ 1074) → HasValue y t m (2 ^ 1074) → ClearProduct x y → Good (n * m) (2 ^ 1074 * 2 ^ 1074)
good_product x y s t n m v w h = go (is_zero x) refl (is_zero y) refl h
  where
    C : 0 < 2 ^ 1074 * 2 ^ 1074
    C = mul-pos (pow_pos 1074) (pow_pos 1074)

    go : (a : Bool) → is_zero x ≡ a → (b : Bool) → is_zero y ≡ b → T (a || b || normal (x ⊗ y)) → Good (n * m) (2 ^ 1074 * 2 ^ 1074)
    go true e b g h = good_zero (n * m) (2 ^ 1074 * 2 ^ 1074) C (ap (λ (z : ℕ). z * m) (zero-units x s n v (subst T (sym e) tt)) ∙ zero-mul m)
    go false e true g h = good_zero (n * m) (2 ^ 1074 * 2 ^ 1074) C (ap (λ (z : ℕ). n * z) (zero-units y t m w (subst T (sym g) tt)) ∙ mul-zero n)
    go false e false g h = good_normal (unlike s t) (n * m) (2 ^ 1074 * 2 ^ 1074) C (subst (λ (z : Float). T (normal z)) (mul_is binary64 x y s t n m (2 ^ 1074) (2 ^ 1074) (pow_pos 1074) (pow_pos 1074) v w) h)

pub times-mul : {i j k l : ℕ} {x x' y y' : Float} → Times i j x x' → Times k l y y' → ClearProduct x y → ClearProduct x' y' → Times (i + k) (j + l) (x ⊗ y) (x' ⊗ y')
times-mul {i} {j} {k} {l} {x} {x'} {y} {y'} t u h h' =
    let U = pow_pos 1074 in
    moved (mul_is binary64 x y t.sign u.sign t.before u.before (2 ^ 1074) (2 ^ 1074) U U t.first u.first) (mul_is binary64 x' y' t.sign u.sign t.after u.after (2 ^ 1074) (2 ^ 1074) U U t.second u.second)
    (times-round (unlike t.sign u.sign) (t.before * u.before) (2 ^ 1074 * 2 ^ 1074) (t.after * u.after) (2 ^ 1074 * 2 ^ 1074) (i + k) (j + l) (mul-pos U U) (mul-pos U U)
    (ap (λ (z : ℕ). z * (2 ^ 1074 * 2 ^ 1074)) (both t.before u.before i k ∙ ap₂ (λ (a b : ℕ). a * b) t.ratio u.ratio ∙ sym (both t.after u.after j l)))
    (good_product x y t.sign u.sign t.before u.before t.first u.first h)
    (good_product x' y' t.sign u.sign t.after u.after t.second u.second h'))
  where
    both : (a b p q : ℕ) → a * b * 2 ^ (p + q) ≡ a * 2 ^ p * (b * 2 ^ q)
    both a b p q = ap (λ (z : ℕ). a * b * z) (pow-add 2 p q) ∙ mul-mul-mul_comm a b (2 ^ p) (2 ^ q)

divisor : (x y : Float) → ClearQuotient x y → T (not (is_zero y))
divisor x y h = go (not (is_zero y)) h
  where
    go : (b : Bool) → T (b && (is_zero x || normal (x ⊘ y))) → T b
    go true h = tt
    go false h = absurd h

good_quotient : (x y : Float) (s t : Bool) (n m : ℕ) → HasValue x s n (2 ^ 1074) → HasValue y t m (2 ^ 1074) → ClearQuotient x y → Good (n * 2 ^ 1074) (2 ^ 1074 * m)
good_quotient x y s t n m v w h = go (not (is_zero y)) (is_zero x) refl h
  where
    M : 0 < m
    M = some_units y t m w (divisor x y h)

    C : 0 < 2 ^ 1074 * m
    C = mul-pos (pow_pos 1074) M

    go : (b a : Bool) → is_zero x ≡ a → T (b && (a || normal (x ⊘ y))) → Good (n * 2 ^ 1074) (2 ^ 1074 * m)
    go false a e h = absurd h
    go true true e h = good_zero (n * 2 ^ 1074) (2 ^ 1074 * m) C (ap (λ (z : ℕ). z * 2 ^ 1074) (zero-units x s n v (subst T (sym e) tt)) ∙ zero-mul (2 ^ 1074))
    go true false e h = good_normal (unlike s t) (n * 2 ^ 1074) (2 ^ 1074 * m) C (subst (λ (z : Float). T (normal z)) (div_is binary64 x y s t n m (2 ^ 1074) (2 ^ 1074) (pow_pos 1074) (pow_pos 1074) M v w) h)

-- n / m with n' and m' in the ratios 2^i / 2^j and 2^k / 2^l
cross : (n n' m m' i j k l U : ℕ) → n * 2 ^ i ≡ n' * 2 ^ j → m * 2 ^ k ≡ m' * 2 ^ l → n * U * 2 ^ (i + l) * (U * m') ≡ n' * U * 2 ^ (j + k) * (U * m)
cross n n' m m' i j k l U e g =
    side n m' i l ∙ (λ r. e r * sym g r * (U * U)) ∙ sym (side n' m j k)
  where
    side : (a b p q : ℕ) → a * U * 2 ^ (p + q) * (U * b) ≡ a * 2 ^ p * (b * 2 ^ q) * (U * U)
    side a b p q = ap (λ (z : ℕ). a * U * z * (U * b)) (pow-add 2 p q) ∙ sort a b (2 ^ p) (2 ^ q)
      where
        sort : (a b P Q : ℕ) → a * U * (P * Q) * (U * b) ≡ a * P * (b * Q) * (U * U)
        sort a b P Q = simp (mul_assoc, mul_comm, mul_left_comm)

pub times-div : {i j k l : ℕ} {x x' y y' : Float} → Times i j x x' → Times k l y y' → ClearQuotient x y → ClearQuotient x' y' → Times (i + l) (j + k) (x ⊘ y) (x' ⊘ y')
times-div {i} {j} {k} {l} {x} {x'} {y} {y'} t u h h' =
    let U = pow_pos 1074 in
    let M = some_units y u.sign u.before u.first (divisor x y h) in
    let M' = some_units y' u.sign u.after u.second (divisor x' y' h') in
    moved (div_is binary64 x y t.sign u.sign t.before u.before (2 ^ 1074) (2 ^ 1074) U U M t.first u.first) (div_is binary64 x' y' t.sign u.sign t.after u.after (2 ^ 1074) (2 ^ 1074) U U M' t.second u.second)
    (times-round (unlike t.sign u.sign) (t.before * 2 ^ 1074) (2 ^ 1074 * u.before) (t.after * 2 ^ 1074) (2 ^ 1074 * u.after) (i + l) (j + k) (mul-pos U M) (mul-pos U M')
    (cross t.before t.after u.before u.after i j k l (2 ^ 1074) t.ratio u.ratio)
    (good_quotient x y t.sign u.sign t.before u.before t.first u.first h)
    (good_quotient x' y' t.sign u.sign t.after u.after t.second u.second h'))

-- a quotient of two that are scaled alike is the same, wherever it lies
pub quotient_same : {i j : ℕ} {x x' y y' : Float} → Times i j x x' → Times i j y y' → T (not (is_zero y)) → T (not (is_zero y')) → x ⊘ y ≡ x' ⊘ y'
quotient_same {i} {j} {x} {x'} {y} {y'} t u h h' =
    let U = pow_pos 1074 in
    let M = some_units y u.sign u.before u.first h in
    let M' = some_units y' u.sign u.after u.second h' in
    div_is binary64 x y t.sign u.sign t.before u.before (2 ^ 1074) (2 ^ 1074) U U M t.first u.first
    ∙ round_same binary64 (unlike t.sign u.sign) (t.before * 2 ^ 1074) (2 ^ 1074 * u.before) (t.after * 2 ^ 1074) (2 ^ 1074 * u.after) (mul-pos U M) (mul-pos U M')
    (eq_of_mul-eq-mul_right (2 ^ (i + j)) (pow_pos (i + j)) (t.before * 2 ^ 1074 * (2 ^ 1074 * u.after)) (t.after * 2 ^ 1074 * (2 ^ 1074 * u.before)) (turn t.before t.after u.before u.after t.ratio u.ratio))
    ∙ sym (div_is binary64 x' y' t.sign u.sign t.after u.after (2 ^ 1074) (2 ^ 1074) U U M' t.second u.second)
  where
    turn : (n n' m m' : ℕ) → n * 2 ^ i ≡ n' * 2 ^ j → m * 2 ^ i ≡ m' * 2 ^ j → n * 2 ^ 1074 * (2 ^ 1074 * m') * 2 ^ (i + j) ≡ n' * 2 ^ 1074 * (2 ^ 1074 * m) * 2 ^ (i + j)
    turn n n' m m' e g =
        mul_right_comm (n * 2 ^ 1074) (2 ^ 1074 * m') (2 ^ (i + j)) ∙ cross n n' m m' i j i j (2 ^ 1074) e g
        ∙ ap (λ (z : ℕ). n' * 2 ^ 1074 * 2 ^ z * (2 ^ 1074 * m)) (let z : j + i ≡ i + j = omega arith in z) ∙ mul_right_comm (n' * 2 ^ 1074) (2 ^ (i + j)) (2 ^ 1074 * m)

-- ---- sums: the sign and the size of what is rounded
sign_of : Bool → ℕ → Bool → ℕ → Bool
sign_of s a t b = cond (beq s t) s (cond (ltb a b) t (s && ltb b a))

size_of : Bool → ℕ → Bool → ℕ → ℕ
size_of s a t b = cond (beq s t) (a + b) (cond (ltb a b) (b - a) (a - b))

sum-round : (s t : Bool) (a b c : ℕ) → sum binary64 s a t b c ≡ round binary64 (sign_of s a t b) (size_of s a t b) c
unfolding sum sign_of size_of
sum-round s t a b c = go (beq s t) (ltb a b) (ltb b a)
  where
    go : (x y z : Bool) → cond x (round binary64 s (a + b) c) (cond y (round binary64 t (b - a) c) (round binary64 (s && z) (a - b) c)) ≡ round binary64 (cond x s (cond y t (s && z))) (cond x (a + b) (cond y (b - a) (a - b))) c
    go true y z = refl
    go false true z = refl
    go false false z = refl

ltb_scaled : (a b p : ℕ) → 0 < p → ltb (a * p) (b * p) ≡ ltb a b
ltb_scaled a b p P = ltb-same (a * p) (b * p) a b (λ l. lt_of_mul-lt-mul_right p l) (λ l. mul-lt-mul_of_pos_right l P)

pub sub-mul : (a b p : ℕ) → (a - b) * p ≡ a * p - b * p
sub-mul a b p = mul_comm (a - b) p ∙ mul-sub p a b ∙ (λ i. mul_comm p a i - mul_comm p b i)

sign_scaled : (s t : Bool) (a b p : ℕ) → 0 < p → sign_of s (a * p) t (b * p) ≡ sign_of s a t b
unfolding sign_of
sign_scaled s t a b p P = λ i. cond (beq s t) s (cond (ltb_scaled a b p P i) t (s && ltb_scaled b a p P i))

size_scaled : (s t : Bool) (a b p : ℕ) → 0 < p → size_of s (a * p) t (b * p) ≡ size_of s a t b * p
unfolding size_of
size_scaled s t a b p P = (λ i. cond (beq s t) (sym (add-mul a b p) i) (cond (ltb_scaled a b p P i) (sym (sub-mul b a p) i) (sym (sub-mul a b p) i))) ∙ go (beq s t) (ltb a b)
  where
    go : (x y : Bool) → cond x ((a + b) * p) (cond y ((b - a) * p) ((a - b) * p)) ≡ cond x (a + b) (cond y (b - a) (a - b)) * p
    go true y = refl
    go false true = refl
    go false false = refl

pub times-add : {i j : ℕ} {x x' y y' : Float} → Times i j x x' → Times i j y y' → ClearSum x y → ClearSum x' y' → Times i j (x ⊕ y) (x' ⊕ y')
times-add {i} {j} {x} {x'} {y} {y'} t u h h' =
    moved is is' (times-round sg N (2 ^ 1074) N' (2 ^ 1074) i j (pow_pos 1074) (pow_pos 1074) (ap (λ (z : ℕ). z * 2 ^ 1074) ratio) (good_whole sg N (subst (λ (z : Float). T (finite z)) is h)) (good_whole sg N' (subst (λ (z : Float). T (finite z)) is' h')))
  where
    sg : Bool
    sg = sign_of t.sign t.before u.sign u.before

    N : ℕ
    N = size_of t.sign t.before u.sign u.before

    N' : ℕ
    N' = size_of t.sign t.after u.sign u.after

    ratio : N * 2 ^ i ≡ N' * 2 ^ j
    ratio =
        sym (size_scaled t.sign u.sign t.before u.before (2 ^ i) (pow_pos i)) ∙ (λ r. size_of t.sign (t.ratio r) u.sign (u.ratio r))
        ∙ size_scaled t.sign u.sign t.after u.after (2 ^ j) (pow_pos j)

    one_sign : sign_of t.sign t.after u.sign u.after ≡ sg
    one_sign =
        sym (sign_scaled t.sign u.sign t.after u.after (2 ^ j) (pow_pos j)) ∙ (λ r. sign_of t.sign (sym t.ratio r) u.sign (sym u.ratio r))
        ∙ sign_scaled t.sign u.sign t.before u.before (2 ^ i) (pow_pos i)

    is : x ⊕ y ≡ round binary64 sg N (2 ^ 1074)
    is = add_is binary64 x y t.sign u.sign t.before u.before (2 ^ 1074) (pow_pos 1074) t.first u.first ∙ sum-round t.sign u.sign t.before u.before (2 ^ 1074)

    is' : x' ⊕ y' ≡ round binary64 sg N' (2 ^ 1074)
    is' =
        add_is binary64 x' y' t.sign u.sign t.after u.after (2 ^ 1074) (pow_pos 1074) t.second u.second ∙ sum-round t.sign u.sign t.after u.after (2 ^ 1074)
        ∙ ap (λ (s : Bool). round binary64 s N' (2 ^ 1074)) one_sign

pub times-neg : {i j : ℕ} {x x' : Float} → Times i j x x' → Times i j (neg x) (neg x')
times-neg {i} {j} {x} {x'} t = record {
  sign = not t.sign;
  before = t.before;
  after = t.after;
  first = neg_value x t.sign t.before (2 ^ 1074) t.first;
  second = neg_value x' t.sign t.after (2 ^ 1074) t.second;
  ratio = t.ratio;
}

pub times-sub : {i j : ℕ} {x x' y y' : Float} → Times i j x x' → Times i j y y' → ClearDifference x y → ClearDifference x' y' → Times i j (x ⊖ y) (x' ⊖ y')
unfolding sub
times-sub t u h h' = times-add t (times-neg u) h h'

-- ---- a comparison of two that are scaled alike is the same
below_scaled : (s t : Bool) (a b p : ℕ) → 0 < p → below s (a * p) t (b * p) ≡ below s a t b
below_scaled false false a b p P = ltb_scaled a b p P
below_scaled false true a b p P = refl
below_scaled true false a b p P = (λ i. ltb (sym (zero-mul p) i) (sym (add-mul a b p) i)) ∙ ltb_scaled 0 (a + b) p P
below_scaled true true a b p P = ltb_scaled b a p P

pub lt-units : (x y : Float) (s t : Bool) (a b c : ℕ) → 0 < c → HasValue x s a c → HasValue y t b c → (x <· y) ≡ below s a t b
unfolding lt
lt-units nan y s t a b c C v w = absurd v
lt-units (inf u) y s t a b c C v w = absurd v
lt-units (fin u m e) nan s t a b c C v w = absurd w
lt-units (fin u m e) (inf r) s t a b c C v w = absurd w
lt-units (fin u m e) (fin r n d) s t a b c C v w =
    sym (below_scaled u r (m * up e * down d) (n * up d * down e) c C)
    ∙ (λ i. below (v.0 i) (turn (m * up e) (down d) (down e) a v.1 i) (w.0 i) ((turn (n * up d) (down e) (down d) b w.1 ∙ ap (λ (z : ℕ). b * z) (mul_comm (down d) (down e))) i))
    ∙ below_scaled s t a b (down e * down d) (mul-pos (down_pos e) (down_pos d))
  where
    turn : (x d e a : ℕ) → x * c ≡ a * e → x * d * c ≡ a * (e * d)
    turn x d e a h = mul_right_comm x d c ∙ ap (λ (z : ℕ). z * d) h ∙ mul_assoc a e d

pub times-lt : {i j : ℕ} {x x' y y' : Float} → Times i j x x' → Times i j y y' → (x <· y) ≡ (x' <· y')
times-lt {i} {j} {x} {x'} {y} {y'} t u =
    lt-units x y t.sign u.sign t.before u.before (2 ^ 1074) (pow_pos 1074) t.first u.first
    ∙ sym (below_scaled t.sign u.sign t.before u.before (2 ^ i) (pow_pos i))
    ∙ (λ r. below t.sign (t.ratio r) u.sign (u.ratio r))
    ∙ below_scaled t.sign u.sign t.after u.after (2 ^ j) (pow_pos j)
    ∙ sym (lt-units x' y' t.sign u.sign t.after u.after (2 ^ 1074) (pow_pos 1074) t.second u.second)

-- ---- a float and itself, and a power of two times it
own-units : (x : Float) → T (finite x) → T (fits binary64 x) → (s : Bool) × (n : ℕ) × HasValue x s n (2 ^ 1074)
own-units nan h f = absurd h
own-units (inf s) h f = absurd h
own-units (fin s m e) h f = let u = units_of_lem s m e f in (s, u.count, (refl, u.is))

pub times-own : (i : ℕ) {x : Float} → T (finite x) → T (fits binary64 x) → Times i i x x
times-own i {x} h f = let u = own-units x h f in record { sign = u.0; before = u.1; after = u.1; first = u.2; second = u.2; ratio = refl }

-- zero is any power of two times itself
pub times_zero : (i j : ℕ) {x : Float} → T (is_zero x) → T (finite x) → T (fits binary64 x) → Times i j x x
times_zero i j {x} z h f =
    let u = own-units x h f in
    let e : u.1 ≡ 0 = zero-units x u.0 u.1 u.2 z in
    record { sign = u.0; before = u.1; after = u.1; first = u.2; second = u.2; ratio = ap (λ (n : ℕ). n * 2 ^ i) e ∙ zero-mul (2 ^ i) ∙ sym (zero-mul (2 ^ j)) ∙ ap (λ (n : ℕ). n * 2 ^ j) (sym e) }

like : (s : Bool) → unlike false s ≡ s
like true = refl
like false = refl

like' : (s : Bool) → unlike s false ≡ s
like' true = refl
like' false = refl

-- p is 2^i, and p times x does not overflow
pub multiplied : (i : ℕ) (p x : Float) → HasValue p false (2 ^ i) 1 → T (finite x) → T (fits binary64 x) → T (finite (p ⊗ x)) → Times i 0 x (p ⊗ x)
multiplied i p x v h f k =
    let u = own-units x h f in
    let s = u.0 in
    let n = u.1 in
    let is : x ≡ round binary64 s n (2 ^ 1074) = sym (round_of_value binary64 x s n (2 ^ 1074) (pow_pos 1074) f u.2) in
    let is' : p ⊗ x ≡ round binary64 s (n * 2 ^ i) (2 ^ 1074) =
    mul_is binary64 p x false s (2 ^ i) n 1 (2 ^ 1074) (lit< tt) (pow_pos 1074) v u.2 ∙ (λ r. round binary64 (like s r) (mul_comm (2 ^ i) n r) (one-mul (2 ^ 1074) r)) in
    moved is is' (times-round s n (2 ^ 1074) (n * 2 ^ i) (2 ^ 1074) i 0 (pow_pos 1074) (pow_pos 1074) (ap (λ (z : ℕ). z * 2 ^ 1074) (sym (mul-one (n * 2 ^ i)))) (good_whole s n (subst (λ (z : Float). T (finite z)) is h)) (good_whole s (n * 2 ^ i) (subst (λ (z : Float). T (finite z)) is' k)))

-- y is x over p, which is 2^j
pub divided : (j : ℕ) (p : Float) {x y : Float} → HasValue p false (2 ^ j) 1 → T (fits binary64 y) → Times 0 j x y → y ≡ x ⊘ p
divided j p {x} {y} v f t =
    sym (round_of_value binary64 y t.sign t.after (2 ^ 1074) (pow_pos 1074) f t.second)
    ∙ round_same binary64 t.sign t.after (2 ^ 1074) (t.before * 1) (2 ^ 1074 * 2 ^ j) (pow_pos 1074) (mul-pos (pow_pos 1074) (pow_pos j)) (turn t.before t.after t.ratio)
    ∙ ap (λ (s : Bool). round binary64 s (t.before * 1) (2 ^ 1074 * 2 ^ j)) (sym (like' t.sign))
    ∙ sym (div_is binary64 x p t.sign false t.before (2 ^ j) (2 ^ 1074) 1 (pow_pos 1074) (lit< tt) (pow_pos j) t.first v)
  where
    turn : (n m : ℕ) → n * 1 ≡ m * 2 ^ j → m * (2 ^ 1074 * 2 ^ j) ≡ n * 1 * 2 ^ 1074
    turn n m e = ap (λ (z : ℕ). m * z) (mul_comm (2 ^ 1074) (2 ^ j)) ∙ sym (mul_assoc m (2 ^ j) (2 ^ 1074)) ∙ ap (λ (z : ℕ). z * 2 ^ 1074) (sym e)

-- ---- over and times a constant
pub times_over : {i j : ℕ} {x x' : Float} (c : Float) → T (finite c) → T (fits binary64 c) → Times i j x x' → ClearQuotient x c → ClearQuotient x' c → Times i j (x ⊘ c) (x' ⊘ c)
times_over {i} {j} c h f t k k' = times_as i j (let z : i + 0 + j ≡ i + (j + 0) = omega arith in z) (times-div t (times-own 0 h f) k k')

pub times_by : {i j : ℕ} {x x' : Float} (c : Float) → T (finite c) → T (fits binary64 c) → Times i j x x' → ClearProduct c x → ClearProduct c x' → Times i j (c ⊗ x) (c ⊗ x')
times_by {i} {j} c h f t k k' = times_as i j (let z : 0 + i + j ≡ i + (0 + j) = omega arith in z) (times-mul (times-own 0 h f) t k k')

-- x is p, which is 2^i, times x over p, where the quotient is exact
pub undivided : (i : ℕ) (p x : Float) → HasValue p false (2 ^ i) 1 → T (finite x) → T (fits binary64 x) → ClearQuotient x p → Times i 0 (x ⊘ p) x
undivided i p x v h f k =
    let u = own-units x h f in
    let s = u.0 in
    let n = u.1 in
    let w = as_units p v in
    let is : x ⊘ p ≡ round binary64 s (n * 2 ^ 1074) (2 ^ 1074 * (2 ^ i * 2 ^ 1074)) =
    div_is binary64 x p s false n (2 ^ i * 2 ^ 1074) (2 ^ 1074) (2 ^ 1074) (pow_pos 1074) (pow_pos 1074) P u.2 w ∙ ap (λ (s : Bool). round binary64 s (n * 2 ^ 1074) (2 ^ 1074 * (2 ^ i * 2 ^ 1074))) (like' s) in
    let is' : x ≡ round binary64 s n (2 ^ 1074) = sym (round_of_value binary64 x s n (2 ^ 1074) (pow_pos 1074) f u.2) in
    moved is is' (times-round s (n * 2 ^ 1074) (2 ^ 1074 * (2 ^ i * 2 ^ 1074)) n (2 ^ 1074) i 0 (mul-pos (pow_pos 1074) P) (pow_pos 1074) (turn n (2 ^ i) (2 ^ 1074)) (good_quotient x p s false n (2 ^ i * 2 ^ 1074) u.2 w k) (good_whole s n (subst (λ (z : Float). T (finite z)) is' h)))
  where
    P : 0 < 2 ^ i * 2 ^ 1074
    P = mul-pos (pow_pos i) (pow_pos 1074)

    as_units : (p : Float) → HasValue p false (2 ^ i) 1 → HasValue p false (2 ^ i * 2 ^ 1074) (2 ^ 1074)
    as_units nan v = absurd v
    as_units (inf t) v = absurd v
    as_units (fin t m e) v = (v.0, ap (λ (z : ℕ). z * 2 ^ 1074) (sym (mul-one (m * up e)) ∙ v.1) ∙ mul_right_comm (2 ^ i) (down e) (2 ^ 1074))

    turn : (n P U : ℕ) → n * U * P * U ≡ n * 1 * (U * (P * U))
    turn n P U = ap (λ (z : ℕ). z * U) (mul_assoc n U P) ∙ mul_assoc n (U * P) U ∙ ap (λ (z : ℕ). n * z) (mul_assoc U P U) ∙ ap (λ (z : ℕ). z * (U * (P * U))) (sym (mul-one n))
