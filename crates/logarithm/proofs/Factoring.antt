-- From what the code of the logarithm tests and calls to its definition. Assumes nothing.
use Rattle.std.specs.Prelude.{Ok, Err}
use mathlib.Core.Path.{◌≡◌, refl, sym, ap, ap₂, ◌∙◌, subst}
use mathlib.Core.Bool.{Bool, true, false, not, cond, ◌||◌, true≢false}
use Prim.Native.Nat.{ℕ, zero, suc, ◌+◌, ◌-◌, ◌*◌, ◌/◌, ◌%◌, ◌^◌, ◌≤◌, ◌<◌}
use native.Mathlib.Nat.{mul-add, add-mul, mul_assoc, mul_comm, mul_left_comm, zero-mul, mul-pos, le_trans, le_of_eq, le_of_lt, lt_of_lt_of_le, zero-lt-suc, mul-le-mul_right, mul-lt-mul_of_pos_right, le_of_mul-le-mul_right, lt_of_mul-lt-mul_right, mod-eq_of_lt, zero-div, add_comm, mul-div_cancel}
use native.Mathlib.Omega.{arith}
use lib.IntN.{ℤ}
use lib.Dec.{T, ltb, leb, eqb, leb→le, nleb→lt, eqb→eq, lit≤}
use lib.Count.{count_leading_zeros}
use lib.Pow.{pow-add, pow_pos}
use lib.Ieee.{Float, nan, inf, fin, binary64, up, down, round, ne, eq}
use lib.Ieee.Bits.{is_false}
use lib.Ieee.Exact.{HasValue}
use lib.Ieee.Fits.{up_pos, down_pos}
use lib.Ieee.Nearest.{div_same}
use lib.Ieee.Scale.{round_same}
use Rattle.laws.specs.laws.Digits.{leading, zeros-lt, zeros-ge, moved}
use Rattle.bits.specs.Parts.{Decoded, PartsOf}
use Rattle.bits.specs.Rounded.{rounded_of}
use Rattle.answer.specs.declared.Answer.TheVariants.{One}
use Rattle.answer.specs.declared.Refusal.TheVariants.{OutOfRange}
use Rattle.logarithm.specs.Series.{units_of, places}
use Rattle.bounds.specs.Close.{distance_of}
use Rattle.logarithm.specs.Logarithm.{odds_of, part_of, third, logarithm_at, logarithm_of, Factored}
use Rattle.logarithm.specs.laws.Places.{Middle, places_only, places_middle}

ruleset sorted = (mul-add, add-mul, mul_assoc, mul_comm, mul_left_comm)

-- ---- `factored`: f from a number n of 53 or 54 digits
factors : (N n w above below : ℕ) → 0 < N → N * 2 ^ 53 ≡ n * 2 ^ w → 3 * 2 ^ 53 ≤ 4 * n → 2 * n < 3 * 2 ^ 53 → above ≡ w - 1074 → below ≡ 1074 - w → Factored N n above below
factors N n w above below pos e lo hi ea eb =
    let m : Middle N w = record { least = le_of_mul-le-mul_right (least (2 ^ 53) (2 ^ w) e (mul-le-mul_right (2 ^ w) lo)) (pow_pos 53); most = lt_of_mul-lt-mul_right (2 ^ 53) (most (2 ^ 53) (2 ^ w) e (mul-lt-mul_of_pos_right hi (pow_pos w))) } in
    let p : w ≡ places N = places_only N w pos m in
    record {
      same = e ∙ ap (λ (x : ℕ). n * 2 ^ x) p;
      above_is = ea ∙ ap (λ (x : ℕ). x - 1074) p;
      below_is = eb ∙ ap (λ (x : ℕ). 1074 - x) p;
    }
  where
    least : (C W : ℕ) → N * C ≡ n * W → 3 * C * W ≤ 4 * n * W → 3 * W * C ≤ 4 * N * C
    least C W e h = omega arith

    most : (C W : ℕ) → N * C ≡ n * W → 2 * n * W < 3 * C * W → 2 * N * C < 3 * W * C
    most C W e h = omega arith

module _ (digits exponent : ℕ) (pos : 0 < digits) (small : digits < 2 ^ 53) where
  fit : digits < 2 ^ 64
  fit = lt_of_lt_of_le small (lit≤ tt)

  pub zeros_bounds : (11 ≤ count_leading_zeros 64 digits) × (count_leading_zeros 64 digits < 64)
  zeros_bounds = let a = zeros-ge digits 53 pos fit small in (omega arith, zeros-lt digits pos fit)

  z : ℕ
  z = count_leading_zeros 64 digits - 11

  -- with its leading digit at place 52
  lead_bounds : (2 ^ 53 ≤ digits * 2 ^ z * 2) × (digits * 2 ^ z < 2 ^ 53)
  unfolding z
  lead_bounds =
      let l = leading digits pos fit in
      let b = zeros_bounds in
      let s = l.1.zeros in
      let m = moved digits l.0 z 53 l.1 (omega arith) in
      (m.0, below (digits * 2 ^ z) (2 ^ z) (pow_pos z) m.1)
    where
      below : (x y : ℕ) → 0 < y → x + y ≤ 2 ^ 53 → x < 2 ^ 53
      below x y h k = omega arith

  lead_is : digits * 2 ^ (count_leading_zeros 64 digits - 11) % 2 ^ 64 ≡ digits * 2 ^ (count_leading_zeros 64 digits - 11)
  unfolding z
  lead_is = mod-eq_of_lt (lt_of_lt_of_le lead_bounds.1 (lit≤ tt))

  N-pos : 0 < digits * 2 ^ exponent
  N-pos = mul-pos pos (pow_pos exponent)

  w : ℕ
  w = exponent + 53 - z

  whole : digits * 2 ^ exponent * 2 ^ 53 ≡ digits * 2 ^ z * 2 ^ w
  unfolding z w
  whole =
      let b = zeros_bounds in
      mul_assoc digits (2 ^ exponent) (2 ^ 53) ∙ ap (λ (x : ℕ). digits * x) (sym (pow-add 2 exponent 53) ∙ ap (λ (x : ℕ). 2 ^ x) (back exponent (count_leading_zeros 64 digits) b.1) ∙ pow-add 2 z w) ∙ sym (mul_assoc digits (2 ^ z) (2 ^ w))
    where
      back : (e l : ℕ) → l < 64 → e + 53 ≡ l - 11 + (e + 53 - (l - 11))
      back e l h = omega arith

  module _ (above below : ℕ) where
    pub factored_high : 3 * 2 ^ 51 ≤ digits * 2 ^ (count_leading_zeros 64 digits - 11) % 2 ^ 64 → above ≡ exponent + 53 - (count_leading_zeros 64 digits - 11) - 1074 → below ≡ 1074 - (exponent + 53 - (count_leading_zeros 64 digits - 11))
        → Factored (digits * 2 ^ exponent) (digits * 2 ^ (count_leading_zeros 64 digits - 11) % 2 ^ 64) above below
    unfolding z w
    factored_high h ea eb =
        subst (λ (n : ℕ). Factored (digits * 2 ^ exponent) n above below) (sym lead_is)
        (factors (digits * 2 ^ exponent) (digits * 2 ^ z) w above below N-pos whole (lo (digits * 2 ^ z) (subst (λ (n : ℕ). 3 * 2 ^ 51 ≤ n) lead_is h)) (hi (digits * 2 ^ z) lead_bounds.1) ea eb)
      where
        lo : (n : ℕ) → 3 * 2 ^ 51 ≤ n → 3 * 2 ^ 53 ≤ 4 * n
        lo n h = omega arith

        hi : (n : ℕ) → n < 2 ^ 53 → 2 * n < 3 * 2 ^ 53
        hi n h = omega arith

    pub factored_low : digits * 2 ^ (count_leading_zeros 64 digits - 11) % 2 ^ 64 < 3 * 2 ^ 51 → above ≡ exponent + 53 - (count_leading_zeros 64 digits - 11) - 1 - 1074 → below ≡ 1074 - (exponent + 53 - (count_leading_zeros 64 digits - 11) - 1)
        → Factored (digits * 2 ^ exponent) (digits * 2 ^ (count_leading_zeros 64 digits - 11) % 2 ^ 64 * 2) above below
    unfolding z w
    factored_low h ea eb =
        let b = zeros_bounds in
        let v = w - 1 in
        let e : 2 ^ w ≡ 2 * 2 ^ v = ap (λ (x : ℕ). 2 ^ x) (one exponent (count_leading_zeros 64 digits) b.1) ∙ pow-add 2 1 v in
        subst (λ (n : ℕ). Factored (digits * 2 ^ exponent) (n * 2) above below) (sym lead_is)
        (factors (digits * 2 ^ exponent) (digits * 2 ^ z * 2) v above below N-pos (whole ∙ ap (λ (x : ℕ). digits * 2 ^ z * x) e ∙ sym (mul_assoc (digits * 2 ^ z) 2 (2 ^ v)))
        (lo (digits * 2 ^ z) lead_bounds.0) (hi (digits * 2 ^ z) (subst (λ (n : ℕ). n < 3 * 2 ^ 51) lead_is h)) ea eb)
      where
        one : (e l : ℕ) → l < 64 → e + 53 - (l - 11) ≡ 1 + (e + 53 - (l - 11) - 1)
        one e l h = omega arith

        lo : (n : ℕ) → 2 ^ 53 ≤ n * 2 → 3 * 2 ^ 53 ≤ 4 * (n * 2)
        lo n h = omega arith

        hi : (n : ℕ) → n < 3 * 2 ^ 51 → 2 * (n * 2) < 3 * 2 ^ 53
        hi n h = omega arith

-- ---- `part`
pub part_none : (a b c : ℕ) → a ≤ b → 0 ≡ part_of (a - b) c
unfolding part_of
part_none a b c h = sym (ap (λ (x : ℕ). x * odds_of (x * x / 2 ^ 64) 1 21 / 2 ^ 64) (ap (λ (x : ℕ). x * 2 ^ 64 / c) (none a b h) ∙ zero-div c) ∙ ap (λ (x : ℕ). x / 2 ^ 64) (zero-mul (odds_of (0 * 0 / 2 ^ 64) 1 21)))
  where
    none : (a b : ℕ) → a ≤ b → a - b ≡ 0
    none a b h = omega arith

pub is_part : (a c t w h v : ℕ) → t ≡ a * 2 ^ 64 / c → w ≡ t * t / 2 ^ 64 → h ≡ odds_of w 1 21 → v ≡ t * h / 2 ^ 64 → v ≡ part_of a c
unfolding part_of
is_part a c t w h v et ew eh ev =
    ev ∙ ap (λ (x : ℕ). t * x / 2 ^ 64) (eh ∙ ap (λ (x : ℕ). odds_of x 1 21) ew) ∙ ap (λ (x : ℕ). x * odds_of (x * x / 2 ^ 64) 1 21 / 2 ^ 64) et

-- it sees the fraction alone
part_same : (a b a' b' : ℕ) → 0 < b → 0 < b' → a * b' ≡ a' * b → part_of a b ≡ part_of a' b'
unfolding part_of
part_same a b a' b' B B' e = ap (λ (x : ℕ). x * odds_of (x * x / 2 ^ 64) 1 21 / 2 ^ 64) (div_same (a * 2 ^ 64) b (a' * 2 ^ 64) b' B B' (swap a (2 ^ 64) b' ∙ ap (λ (x : ℕ). x * 2 ^ 64) e ∙ sym (swap a' (2 ^ 64) b)))
  where
    swap : (x y z : ℕ) → x * y * z ≡ x * z * y
    swap x y z = simp (mul_assoc, mul_comm, mul_left_comm)

-- N C = n W: so N - W is to N + W as n - C to n + C
crossed : (N C n W : ℕ) → 0 < C → N * C ≡ n * W → (n - C) * (N + W) ≡ (N - W) * (n + C)
crossed N C n W pos e = go (leb C n) (leb→le C n) (nleb→lt C n)
  where
    part : (x y : ℕ) → y ≤ x → x ≡ y + (x - y)
    part x y h = omega arith

    none : (x y : ℕ) → x ≤ y → x - y ≡ 0
    none x y h = omega arith

    over : (d y : ℕ) → n ≡ C + d → N ≡ W + y → d * (N + W) ≡ y * (n + C)
    over d y en eN =
        let x₁ : (W + y) * C ≡ (C + d) * W = ap (λ (x : ℕ). x * C) (sym eN) ∙ e ∙ ap (λ (x : ℕ). x * W) en in
        ap (λ (x : ℕ). d * (x + W)) eN ∙ same d y x₁ ∙ sym (ap (λ (x : ℕ). y * (x + C)) en)
      where
        same : (d y : ℕ) → (W + y) * C ≡ (C + d) * W → d * (W + y + W) ≡ y * (C + d + C)
        same d y h = omega arith

    go : (b : Bool) → (T b → C ≤ n) → (T (not b) → n < C) → (n - C) * (N + W) ≡ (N - W) * (n + C)
    go true h k =
        let l : C ≤ n = h tt in
        let m : W * C ≤ N * C = le_trans (le_of_eq (mul_comm W C)) (le_trans (mul-le-mul_right W l) (le_of_eq (sym e))) in
        over (n - C) (N - W) (part n C l) (part N W (le_of_mul-le-mul_right m pos))
    go false h k =
        let l : n ≤ C = le_of_lt (k tt) in
        let m : N * C ≤ W * C = le_trans (le_of_eq e) (le_trans (mul-le-mul_right W l) (le_of_eq (mul_comm C W))) in
        ap (λ (x : ℕ). x * (N + W)) (none n C l) ∙ zero-mul (N + W) ∙ sym (ap (λ (x : ℕ). x * (n + C)) (none N W (le_of_mul-le-mul_right m pos)) ∙ zero-mul (n + C))

-- ---- the sums, from the factors

-- the rounding counts in 2^-2340, the sum in 2^-62
abbrev pub sum_unit : ℕ
sum_unit = 2340 - 62

module _ (N n above below : ℕ) (pos : 0 < N) (s : Factored N n above below) where
  W : ℕ
  W = 2 ^ places N

  W-pos : 0 < W
  unfolding W
  W-pos = pow_pos (places N)

  sum_pos : (x y : ℕ) → 0 < y → 0 < x + y
  sum_pos x y h = omega arith

  over_part : part_of (n - 2 ^ 53) (n + 2 ^ 53) ≡ part_of (N - 2 ^ places N) (N + 2 ^ places N)
  unfolding W
  over_part = part_same (n - 2 ^ 53) (n + 2 ^ 53) (N - W) (N + W) (sum_pos n (2 ^ 53) (pow_pos 53)) (sum_pos N W W-pos) (crossed N (2 ^ 53) n W (pow_pos 53) s.same)

  n_pos : 0 < n
  unfolding W
  n_pos = first n W (subst (λ (x : ℕ). 0 < x) s.same (mul-pos pos (pow_pos 53)))
    where
      first : (n w : ℕ) → 0 < n * w → 0 < n
      first zero w h = subst (λ (x : ℕ). 0 < x) (zero-mul w) h
      first (suc n) w h = zero-lt-suc n

  under_part : part_of (2 ^ 53 - n) (2 ^ 53 + n) ≡ part_of (2 ^ places N - N) (N + 2 ^ places N)
  unfolding W
  under_part =
      part_same (2 ^ 53 - n) (2 ^ 53 + n) (W - N) (W + N) (sum_pos (2 ^ 53) n n_pos) (sum_pos W N pos) (crossed W n (2 ^ 53) N n_pos (mul_comm W n ∙ sym s.same ∙ mul_comm N (2 ^ 53)))
      ∙ ap (λ (x : ℕ). part_of (W - N) x) (add_comm W N)

  factor_bounds : (3 * 2 ^ 53 ≤ 4 * n) × (2 * n < 3 * 2 ^ 53)
  unfolding W
  factor_bounds =
      let m = places_middle N pos in (
        le_of_mul-le-mul_right (least (2 ^ 53) W s.same (mul-le-mul_right (2 ^ 53) m.least)) W-pos,
        lt_of_mul-lt-mul_right W (most (2 ^ 53) W s.same (mul-lt-mul_of_pos_right m.most (pow_pos 53))),
      )
    where
      least : (C W : ℕ) → N * C ≡ n * W → 3 * W * C ≤ 4 * N * C → 3 * C * W ≤ 4 * n * W
      least C W e h = omega arith

      most : (C W : ℕ) → N * C ≡ n * W → 2 * N * C < 3 * W * C → 2 * n * W < 3 * C * W
      most C W e h = omega arith

  pub part_needs : ((2 * n ≤ 3 * 2 ^ 53) × (n + 2 ^ 53 < 2 ^ 56)) × ((2 * 2 ^ 53 ≤ 3 * n) × (2 ^ 53 + n < 2 ^ 56))
  part_needs = let b = factor_bounds in ((omega arith, omega arith), (omega arith, omega arith))

  module _ (a b A B : ℕ) (ea : a ≡ part_of (n - 2 ^ 53) (n + 2 ^ 53)) (eb : b ≡ part_of (2 ^ 53 - n) (2 ^ 53 + n)) (eA : A ≡ above * third + a) (eB : B ≡ below * third + b) where
    A-is : A ≡ (places N - 1074) * third + part_of (N - 2 ^ places N) (N + 2 ^ places N)
    A-is = eA ∙ ap₂ (λ (x y : ℕ). x * third + y) s.above_is (ea ∙ over_part)

    B-is : B ≡ (1074 - places N) * third + part_of (2 ^ places N - N) (N + 2 ^ places N)
    B-is = eB ∙ ap₂ (λ (x y : ℕ). x * third + y) s.below_is (eb ∙ under_part)

    at_is : round binary64 (ltb A B) (distance_of A B) (2 ^ 62) ≡ logarithm_at N
    unfolding logarithm_at
    at_is = ap₂ (λ (x y : ℕ). round binary64 (ltb x y) (distance_of x y) (2 ^ 62)) A-is B-is

    -- the sign and the difference, as the code finds them
    pub is_log : (t : Bool) (v : ℕ) (r : Float) → t ≡ ltb A B → v ≡ distance_of A B → r ≡ rounded_of t v false sum_unit → r ≡ logarithm_at N
    unfolding rounded_of
    is_log t v r et ev er =
        er ∙ round_same binary64 t ((2 * v + 0) * 2 ^ sum_unit) (2 ^ 2341) v (2 ^ 62) (pow_pos 2341) (pow_pos 62) (moved' v (2 ^ sum_unit) (2 ^ 62))
        ∙ ap₂ (λ (x : Bool) (y : ℕ). round binary64 x y (2 ^ 62)) et ev ∙ at_is
      where
        moved' : (v a b : ℕ) → (2 * v + 0) * a * b ≡ v * (2 * a * b)
        moved' v a b = simp sorted (omega arith)

pub distance_up : (A B v : ℕ) → A < B → v ≡ B - A → v ≡ distance_of A B
distance_up A B v h e = omega arith

pub distance_down : (A B v : ℕ) → B ≤ A → v ≡ A - B → v ≡ distance_of A B
distance_down A B v h e = omega arith

-- ---- which x have a logarithm
module _ (x : Float) (is_finite negative : Bool) (digits exponent : ℕ) (p : PartsOf x is_finite negative digits exponent) where
  units_are : (s : Bool) (m : ℕ) (e : ℤ) → HasValue (fin s m e) negative (digits * 2 ^ exponent) (2 ^ 1074) → units_of (fin s m e) ≡ digits * 2 ^ exponent
  unfolding units_of
  units_are s m e v = ap (λ (z : ℕ). z / down e) v.1 ∙ mul-div_cancel (digits * 2 ^ exponent) (down_pos e)

  zero_same : (s : Bool) (m : ℕ) (e : ℤ) → HasValue (fin s m e) negative (digits * 2 ^ exponent) (2 ^ 1074) → eqb m 0 ≡ eqb digits 0
  zero_same s m e v = go m digits v.1
    where
      some : (n : ℕ) → eqb (suc n) 0 ≡ false
      some n = is_false (eqb (suc n) 0) (no (eqb (suc n) 0) (eqb→eq (suc n) 0))
        where
          no : (b : Bool) → (T b → suc n ≡ 0) → T (not b)
          no true h = absurd (let z = h tt in omega arith)
          no false h = tt

      clash : (x y : ℕ) → 0 < x → y ≡ 0 → x ≡ y → ⊥
      clash x y h k e = omega arith

      go : (m d : ℕ) → m * up e * 2 ^ 1074 ≡ d * 2 ^ exponent * down e → eqb m 0 ≡ eqb d 0
      go zero zero h = refl
      go (suc m) (suc d) h = some m ∙ sym (some d)
      go zero (suc d) h =
          absurd (clash (suc d * 2 ^ exponent * down e) (0 * up e * 2 ^ 1074) (mul-pos (mul-pos (zero-lt-suc d) (pow_pos exponent)) (down_pos e)) (ap (λ (z : ℕ). z * 2 ^ 1074) (zero-mul (up e)) ∙ zero-mul (2 ^ 1074)) (sym h))
      go (suc m) zero h =
          absurd (clash (suc m * up e * 2 ^ 1074) (0 * 2 ^ exponent * down e) (mul-pos (mul-pos (zero-lt-suc m) (up_pos e)) (pow_pos 1074)) (ap (λ (z : ℕ). z * down e) (zero-mul (2 ^ exponent)) ∙ zero-mul (down e)) h)

-- the code's test, and what the definition asks
pub refused : (x : Float) (is_finite negative : Bool) (digits exponent : ℕ) → PartsOf x is_finite negative digits exponent → ne x x ≡ false → (not is_finite || negative || eqb digits 0) ≡ true → Err OutOfRange ≡ logarithm_of x
unfolding logarithm_of ne eq
refused nan f s d k p n h = absurd (true≢false n)
refused (inf t) f s d k p n h = refl
refused (fin t m e) f s d k p n h =
    let v = (p.decoded refl).value in
    ap (λ (b : Bool). cond b (Err OutOfRange) (Ok (One (logarithm_at (units_of (fin t m e)))))) (sym (ap₂ (λ (a b : Bool). a || b) v.0 (zero_same (fin t m e) f s d k p t m e v) ∙ ap (λ (a : Bool). not a || s || eqb d 0) (sym p.kind) ∙ h))

module _ (x : Float) (is_finite negative : Bool) (digits exponent : ℕ) (p : PartsOf x is_finite negative digits exponent) (h : (not is_finite || negative || eqb digits 0) ≡ false) where
  finite_is : is_finite ≡ true
  finite_is = go is_finite negative (eqb digits 0) h
    where
      go : (f s z : Bool) → (not f || s || z) ≡ false → f ≡ true
      go true s z h = refl
      go false s z h = absurd (true≢false h)

  decoded : Decoded x negative digits exponent
  decoded = p.decoded (sym p.kind ∙ finite_is)

  pub bounds : (0 < digits) × (digits < 2 ^ 53) × (exponent ≤ 2045)
  bounds = (go digits is_finite negative h, decoded.digits, decoded.scale)
    where
      go : (d : ℕ) (f s : Bool) → (not f || s || eqb d 0) ≡ false → 0 < d
      go (suc d) f s h = zero-lt-suc d
      go zero f s h = absurd (last (not f || s) h)
        where
          last : (b : Bool) → (b || true) ≡ false → ⊥
          last true h = true≢false h
          last false h = true≢false h

pub answered : (x : Float) (is_finite negative : Bool) (digits exponent : ℕ) (p : PartsOf x is_finite negative digits exponent) → (not is_finite || negative || eqb digits 0) ≡ false → (r : Float)
    → r ≡ logarithm_at (digits * 2 ^ exponent) → Ok (One r) ≡ logarithm_of x
unfolding logarithm_of
answered nan f s d k p h r e = absurd (decoded nan f s d k p h).value
answered (inf t) f s d k p h r e = absurd (decoded (inf t) f s d k p h).value
answered (fin t m g) f s d k p h r e =
    let v = (decoded (fin t m g) f s d k p h).value in
    ap (λ (v : Float). Ok (One v)) (e ∙ ap logarithm_at (sym (units_are (fin t m g) f s d k p t m g v)))
    ∙ ap (λ (b : Bool). cond b (Err OutOfRange) (Ok (One (logarithm_at (units_of (fin t m g)))))) (sym (ap₂ (λ (a b : Bool). a || b) v.0 (zero_same (fin t m g) f s d k p t m g v) ∙ ap (λ (a : Bool). not a || s || eqb d 0) (sym p.kind) ∙ h))
