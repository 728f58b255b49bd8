-- From what the code of the arc tangent tests and calls to its definitions. Assumes nothing.
use Rattle.std.specs.Prelude.{Ok}
use mathlib.Core.Path.{◌≡◌, refl, sym, ap, ap₂, ◌∙◌, subst}
use mathlib.Core.Bool.{Bool, true, false, true≢false}
use Prim.Native.Nat.{ℕ, zero, suc, ◌+◌, ◌-◌, ◌*◌, ◌/◌, ◌%◌, ◌^◌, ◌≤◌, ◌<◌}
use native.Mathlib.Nat.{mul_assoc, mul_comm, mul_left_comm, one-mul, mul-one, mul-pos, mul-le-mul, mul-le-mul_left, mul-div_cancel, pow-suc, le_trans, le_of_eq, le_of_lt, lt_of_lt_of_le, lt_irrefl, div-eq_of_lt, div-div-eq-div-mul}
use native.Mathlib.Omega.{arith}
use lib.Arith.{le→nltb}
use lib.Dec.{ltb, lt→ltb, lit≤, lit<}
use lib.Pow.{pow-add, pow_pos, pow-lt, pow_mono, shl_exact, shl_lt}
use lib.Ieee.{Float, nan, inf, fin, binary64, up, down, round, of_bits, ne, eq, lt}
use lib.Ieee.Bits.{is_true, is_false}
use lib.Ieee.Fits.{down_pos}
use lib.Ieee.Nearest.{div_same}
use lib.Ieee.Scale.{finite}
use Rattle.laws.specs.Arithmetic.{+0}
use Rattle.laws.specs.Ladder.{held, passed}
use Rattle.answer.specs.declared.Answer.TheVariants.{One}
use Rattle.bits.specs.Parts.{PartsOf}
use Rattle.arctangent.specs.Quotient.{quotient_of}
use Rattle.arctangent.specs.laws.Quotients.{quotient_is}
use Rattle.arctangent.specs.Sums.{run_of}
use Rattle.arctangent.specs.Arctangent.{sides, factor_of, sum_of, next_to, half_sides, quarter_sides, right_sides, two_sides, sides_at, arctangent_at, arctangent_of}
use Rattle.arctangent.specs.declared.sums.Sides.{Sides}
use Rattle.arctangent.proofs.Factor.{fourth_le, t-le}
use Rattle.arctangent.proofs.Sides.{sum_sizes, next_down, next_up, far_is}
use Rattle.arctangent.proofs.Same.{next_same, sides-same, at_same}

-- ---- `run`: with i terms left it is the sum of the others
-- ---- tests
holds_test : (x y : ℕ) → x < y → ltb x y ≡ true
holds_test x y k = is_true (ltb x y) (lt→ltb x y k)

fails_test : (x y : ℕ) → y ≤ x → ltb x y ≡ false
fails_test x y k = is_false (ltb x y) (le→nltb x y k)

-- ---- `factor` and `sum`
pub fourth_small : (t w u : ℕ) → t ≤ 2 ^ 62 → w ≡ t * t / 2 ^ 64 → u ≡ w * w / 2 ^ 64 → u ≤ 2 ^ 60
fourth_small t w u h ew eu = subst (λ (x : ℕ). x ≤ 2 ^ 60) (sym (eu ∙ ap (λ (x : ℕ). x * x / 2 ^ 64) ew)) (fourth_le t h)

pub is_factor : (t w u x y z : ℕ) → w ≡ t * t / 2 ^ 64 → u ≡ w * w / 2 ^ 64 → x ≡ run_of u 1 4 11 → y ≡ run_of u 3 4 10 → z ≡ w * y / 2 ^ 64 → sides x z ≡ factor_of t
unfolding factor_of
is_factor t w u x y z ew eu ex ey ez =
    ap₂ sides ex (ez ∙ ap (λ (h : ℕ). w * h / 2 ^ 64) ey)
    ∙ ap (λ (v : ℕ). sides (run_of v 1 4 11) (w * run_of v 3 4 10 / 2 ^ 64)) eu
    ∙ ap (λ (v : ℕ). sides (run_of (v * v / 2 ^ 64) 1 4 11) (v * run_of (v * v / 2 ^ 64) 3 4 10 / 2 ^ 64)) ew

-- the sum of p / d ≤ 1/4
pub quotient_whole : (p d : ℕ) → 4 * p ≤ d → 0 < d → d < 2 ^ 56 → (t : ℕ) → t ≡ quotient_of p d → t ≡ p * 2 ^ 64 / d
quotient_whole p d h D few t e = e ∙ quotient_is p d (less p d h D) few
  where
    less : (p d : ℕ) → 4 * p ≤ d → 0 < d → p < d
    less p d h k = omega arith

module _ (p d : ℕ) (h : 4 * p ≤ d) (D : 0 < d) (t : ℕ) (et : t ≡ p * 2 ^ 64 / d) where
  pub fraction_le : t ≤ 2 ^ 62
  fraction_le = subst (λ (x : ℕ). x ≤ 2 ^ 62) (sym et) (t-le p d D h)

  module _ (s : Sides) (es : s ≡ sides (t * (factor_of t).added / 2 ^ 64) (t * (factor_of t).taken / 2 ^ 64)) where
    sum_is : s ≡ sum_of p d
    unfolding sum_of
    sum_is = es ∙ ap (λ (x : ℕ). sides (x * (factor_of x).added / 2 ^ 64) (x * (factor_of x).taken / 2 ^ 64)) et

    pub rooms : (x : ℕ) → x < 55 * 2 ^ 58 → (x + s.added < 2 ^ 64) × (x + s.taken < 2 ^ 64)
    rooms x l = subst (λ (z : Sides). (x + z.added < 2 ^ 64) × (x + z.taken < 2 ^ 64)) (sym sum_is) (let z = sum_sizes p d D h in (more (sum_of p d).added z.0, less_more (sum_of p d).taken z.1))
      where
        more : (y : ℕ) → y ≤ 9 * 2 ^ 58 → x + y < 2 ^ 64
        more y k = omega arith

        less_more : (y : ℕ) → y ≤ 9 * 2 ^ 54 → x + y < 2 ^ 64
        less_more y k = omega arith

    pub is_down : (c : Sides) (a b : ℕ) → a < b → p ≡ b - a → sides (c.added + s.taken) (c.taken + s.added) ≡ next_to c a b d
    is_down c a b l e = ap (λ (z : Sides). sides (c.added + z.taken) (c.taken + z.added)) (sum_is ∙ ap (λ (x : ℕ). sum_of x d) e) ∙ sym (next_down c a b d (le_of_lt l))

    pub is_up : (c : Sides) (a b : ℕ) → b ≤ a → p ≡ a - b → sides (c.added + s.added) (c.taken + s.taken) ≡ next_to c a b d
    is_up c a b l e = ap (λ (z : Sides). sides (c.added + z.added) (c.taken + z.taken)) (sum_is ∙ ap (λ (x : ℕ). sum_of x d) e) ∙ sym (next_up c a b d l)

    -- d / p ≥ 4
    pub is_far : sides (right_sides.added + s.taken) (right_sides.taken + s.added) ≡ sides_at d p
    unfolding sides_at
    is_far =
        passed (next_to half_sides (2 * d) p (d + 2 * p)) _ (fails_test (4 * d) (3 * p) (omega arith))
        (passed (next_to quarter_sides d p (d + p)) _ (fails_test (2 * d) (3 * p) (omega arith))
        (passed (next_to two_sides d (2 * p) (2 * d + p)) (next_to right_sides 0 p d) (fails_test d (4 * p) h) (ap (λ (z : Sides). sides (right_sides.added + z.taken) (right_sides.taken + z.added)) sum_is ∙ sym (far_is d p))))

-- ---- `inverse`
module _ (digits exponent : ℕ) (low : 2 ^ 52 ≤ digits) (high : digits < 2 ^ 53) where
  some : 0 < digits
  some = lt_of_lt_of_le (pow_pos 52) low

  few : digits < 2 ^ 56
  few = lt_of_lt_of_le high (lit≤ tt)

  whole : 0 < digits * 2 ^ exponent
  whole = mul-pos some (pow_pos exponent)

  pub inverse_near : 1024 ≤ exponent → exponent ≤ 1074 → quotient_of (1 * 2 ^ (1074 - exponent) % 2 ^ 64) digits ≡ 2 ^ 1074 * 2 ^ 64 / (digits * 2 ^ exponent)
  inverse_near l m =
      let j = 1074 - exponent in
      let small : 2 ^ j < digits = lt_of_lt_of_le (pow-lt {i = j} {j = 52} (omega arith)) low in
      ap (λ (x : ℕ). quotient_of x digits) (shl_exact 1 j 64 (lit< tt) (omega arith) ∙ one-mul (2 ^ j))
      ∙ quotient_is (2 ^ j) digits small few
      ∙ div_same (2 ^ j * 2 ^ 64) digits (2 ^ 1074 * 2 ^ 64) (digits * 2 ^ exponent) some whole
      (regroup (2 ^ j) (2 ^ 64) digits (2 ^ exponent) ∙ ap (λ (x : ℕ). x * 2 ^ 64 * digits) (sym (pow-add 2 j exponent) ∙ ap (λ (x : ℕ). 2 ^ x) (back exponent m)))
    where
      back : (e : ℕ) → e ≤ 1074 → 1074 - e + e ≡ 1074
      back e h = omega arith

      regroup : (x c d y : ℕ) → x * c * (d * y) ≡ x * y * c * d
      regroup x c d y = simp (mul_assoc, mul_comm, mul_left_comm)

  pub inverse_far : 1074 < exponent → quotient_of 1 digits / 2 ^ (exponent - 1074) ≡ 2 ^ 1074 * 2 ^ 64 / (digits * 2 ^ exponent)
  inverse_far l =
      let j = exponent - 1074 in
      ap (λ (x : ℕ). x / 2 ^ j) (quotient_is 1 digits (lt_of_lt_of_le (lit< tt) low) few)
      ∙ div-div-eq-div-mul (1 * 2 ^ 64) digits (2 ^ j)
      ∙ div_same (1 * 2 ^ 64) (digits * 2 ^ j) (2 ^ 1074 * 2 ^ 64) (digits * 2 ^ exponent) (mul-pos some (pow_pos j)) whole
      (ap (λ (x : ℕ). 1 * 2 ^ 64 * (digits * x)) (ap (λ (x : ℕ). 2 ^ x) (back exponent l) ∙ pow-add 2 1074 j) ∙ regroup (2 ^ 64) digits (2 ^ 1074) (2 ^ j))
    where
      back : (e : ℕ) → 1074 < e → e ≡ 1074 + (e - 1074)
      back e h = omega arith

      regroup : (c d x y : ℕ) → 1 * c * (d * (x * y)) ≡ x * c * (d * y)
      regroup c d x y = ap (λ (z : ℕ). z * (d * (x * y))) (one-mul c) ∙ swap c d x y
        where
          swap : (c d x y : ℕ) → c * (d * (x * y)) ≡ x * c * (d * y)
          swap c d x y = simp (mul_assoc, mul_comm, mul_left_comm)

  pub inverse_out : 1138 ≤ exponent → 0 ≡ 2 ^ 1074 * 2 ^ 64 / (digits * 2 ^ exponent)
  inverse_out l = sym (div-eq_of_lt (lt_of_lt_of_le (lit< tt) (mul-le-mul low (pow_mono l))))

  pub four_le : 1024 ≤ exponent → 4 * 2 ^ 1074 ≤ digits * 2 ^ exponent
  four_le l = le_trans (lit≤ tt) (mul-le-mul low (pow_mono l))

  pub quarter-le : 1020 ≤ exponent → 2 ^ 1074 ≤ 4 * (digits * 2 ^ exponent)
  quarter-le l = le_trans (lit≤ tt) (mul-le-mul_left 4 (mul-le-mul low (pow_mono l)))

  -- ---- `between`: x is n / 2^54, and from 1 on n / 4 / 2^52
  module _ (least : 1020 ≤ exponent) (most : exponent < 1024) where
    abbrev j : ℕ
    j = exponent - 1020

    abbrev n : ℕ
    n = digits * 2 ^ j % 2 ^ 64

    n_is : n ≡ digits * 2 ^ j
    n_is = shl_exact 53 j 64 high (omega arith)

    pub n_bounds : (2 ^ 52 ≤ n) × (n < 2 ^ 56)
    n_bounds =
        subst (λ (x : ℕ). (2 ^ 52 ≤ x) × (x < 2 ^ 56)) (sym n_is)
        (le_trans (le_trans low (le_of_eq (sym (mul-one digits)))) (mul-le-mul_left digits (pow_pos j)), lt_of_lt_of_le (shl_lt 53 j high) (pow_mono {i = 53 + j} {j = 56} (omega arith)))

    same-n : sides_at n (2 ^ 54) ≡ sides_at (digits * 2 ^ exponent) (2 ^ 1074)
    same-n = sides-same n (2 ^ 54) (digits * 2 ^ exponent) (2 ^ 1074) (pow_pos 54) (pow_pos 1074) (lt_of_lt_of_le (pow_pos 52) n_bounds.0) whole (ap (λ (x : ℕ). x * 2 ^ 1074) n_is ∙ regroup digits (2 ^ j) (2 ^ 1020) (2 ^ 54) ∙ ap (λ (x : ℕ). digits * x * 2 ^ 54) (sym (pow-add 2 j 1020) ∙ ap (λ (x : ℕ). 2 ^ x) (back exponent least)))
      where
        back : (e : ℕ) → 1020 ≤ e → e - 1020 + 1020 ≡ e
        back e h = omega arith

        regroup : (d a b c : ℕ) → d * a * (b * c) ≡ d * (a * b) * c
        regroup d a b c = simp mul_assoc

    pub is_half : n < 3 * 2 ^ 52 → next_to half_sides (2 * n) (2 ^ 54) (n + 2 * 2 ^ 54) ≡ sides_at (digits * 2 ^ exponent) (2 ^ 1074)
    is_half k = go n k ∙ same-n
      where
        go : (n : ℕ) → n < 3 * 2 ^ 52 → next_to half_sides (2 * n) (2 ^ 54) (n + 2 * 2 ^ 54) ≡ sides_at n (2 ^ 54)
        go n k = unfold sides_at in held (next_to half_sides (2 * n) (2 ^ 54) (n + 2 * 2 ^ 54)) _ (holds_test (4 * n) (3 * 2 ^ 54) (omega arith)) refl

    pub is_quarter : 3 * 2 ^ 52 ≤ n → n < 6 * 2 ^ 52 → next_to quarter_sides n (2 ^ 54) (n + 2 ^ 54) ≡ sides_at (digits * 2 ^ exponent) (2 ^ 1074)
    is_quarter k l = go n k l ∙ same-n
      where
        go : (n : ℕ) → 3 * 2 ^ 52 ≤ n → n < 6 * 2 ^ 52 → next_to quarter_sides n (2 ^ 54) (n + 2 ^ 54) ≡ sides_at n (2 ^ 54)
        go n k l =
            unfold sides_at in
            passed (next_to half_sides (2 * n) (2 ^ 54) (n + 2 * 2 ^ 54)) _ (fails_test (4 * n) (3 * 2 ^ 54) (omega arith))
            (held (next_to quarter_sides n (2 ^ 54) (n + 2 ^ 54)) _ (holds_test (2 * n) (3 * 2 ^ 54) (omega arith)) refl)

    exact_four : (d i : ℕ) → d < 2 ^ 53 → 6 * 2 ^ 52 ≤ d * 2 ^ i → d * 2 ^ i ≡ d * 2 ^ i / 4 * 4
    exact_four d zero h k = absurd (let z : d * 1 < 6 * 2 ^ 52 = omega arith in lt_irrefl (d * 1) (lt_of_lt_of_le z k))
    exact_four d (suc zero) h k = absurd (let z : d * 2 < 6 * 2 ^ 52 = omega arith in lt_irrefl (d * 2) (lt_of_lt_of_le z k))
    exact_four d (suc (suc i)) h k = let e = quadruple in e ∙ ap (λ (x : ℕ). x * 4) (sym (mul-div_cancel (d * 2 ^ i) (lit≤ tt)) ∙ ap (λ (x : ℕ). x / 4) (sym e))
      where
        quadruple : d * 2 ^ suc (suc i) ≡ d * 2 ^ i * 4
        quadruple = ap (λ (x : ℕ). d * x) (pow-suc 2 (suc i) ∙ ap (λ (x : ℕ). x * 2) (pow-suc 2 i)) ∙ regroup d (2 ^ i)
          where
            regroup : (d x : ℕ) → d * (x * 2 * 2) ≡ d * x * 4
            regroup d x = omega arith

    four_times : 6 * 2 ^ 52 ≤ n → n ≡ n / 4 * 4
    four_times k = subst (λ (x : ℕ). x ≡ x / 4 * 4) (sym n_is) (exact_four digits j high (subst (λ (x : ℕ). 6 * 2 ^ 52 ≤ x) n_is k))

    pub is_two : 6 * 2 ^ 52 ≤ n → next_to two_sides (n / 4) (2 * 2 ^ 52) (2 * (n / 4) + 2 ^ 52) ≡ sides_at (digits * 2 ^ exponent) (2 ^ 1074)
    is_two k = go n (n / 4) k n_bounds.1 (four_times k) ∙ same-n
      where
        go : (n m : ℕ) → 6 * 2 ^ 52 ≤ n → n < 2 ^ 56 → n ≡ m * 4 → next_to two_sides m (2 * 2 ^ 52) (2 * m + 2 ^ 52) ≡ sides_at n (2 ^ 54)
        go n m k l e =
            unfold sides_at in
            passed (next_to half_sides (2 * n) (2 ^ 54) (n + 2 * 2 ^ 54)) _ (fails_test (4 * n) (3 * 2 ^ 54) (omega arith))
            (passed (next_to quarter_sides n (2 ^ 54) (n + 2 ^ 54)) _ (fails_test (2 * n) (3 * 2 ^ 54) (omega arith))
            (held (next_to two_sides n (2 * 2 ^ 54) (2 * n + 2 ^ 54)) _ (holds_test n (4 * 2 ^ 54) (omega arith))
            (sym (next_same 4 1 (lit≤ tt) (lit≤ tt) two_sides n (2 * 2 ^ 54) (2 * n + 2 ^ 54) m (2 * 2 ^ 52) (2 * m + 2 ^ 52) (omega arith) (omega arith) (omega arith) refl (omega arith)))))

    pub two_bounds : 6 * 2 ^ 52 ≤ n → (6 * 2 ^ 50 ≤ n / 4) × (n / 4 < 2 ^ 54)
    two_bounds k = let b = n_bounds in go n k b.1
      where
        go : (n : ℕ) → 6 * 2 ^ 52 ≤ n → n < 2 ^ 56 → (6 * 2 ^ 50 ≤ n / 4) × (n / 4 < 2 ^ 54)
        go n k l = (omega arith, omega arith)

-- ---- `of_parts`
pub is_large : (s : Bool) (p q : ℕ) (z : Sides) (r : Float) → q ≤ 4 * p → z ≡ sides_at p q → r ≡ round binary64 s (z.added - z.taken) (2 ^ 63) → r ≡ arctangent_at s p q
unfolding arctangent_at
is_large s p q z r h ez er = passed _ _ (fails_test (4 * p) q h) (er ∙ ap (λ (z : Sides). round binary64 s (z.added - z.taken) (2 ^ 63)) ez)

pub is_small : (s : Bool) (p q t : ℕ) (f : Sides) (r : Float) → 4 * p < q → t ≡ p * 2 ^ 64 / q → f ≡ factor_of t → r ≡ round binary64 s (p * (f.added - f.taken)) (q * 2 ^ 63) → r ≡ arctangent_at s p q
unfolding arctangent_at
is_small s p q t f r h et ef er = held _ _ (holds_test (4 * p) q h) (er ∙ ap (λ (z : Sides). round binary64 s (p * (z.added - z.taken)) (q * 2 ^ 63)) (ef ∙ ap factor_of et))

pub below-quarter : (digits exponent : ℕ) → digits < 2 ^ 53 → exponent < 1020 → 4 * (digits * 2 ^ exponent) < 2 ^ 1074
below-quarter digits exponent h l = four (digits * 2 ^ exponent) (2 ^ 1072) (lt_of_lt_of_le (shl_lt 53 exponent h) (pow_mono {i = 53 + exponent} {j = 1072} (omega arith)))
  where
    four : (x M : ℕ) → x < M → 4 * x < 4 * M
    four x M k = omega arith

-- ---- `arctangent`
pub answered : (x : Float) (is_finite negative : Bool) (digits exponent : ℕ) → PartsOf x is_finite negative digits exponent → is_finite ≡ true → (r : Float) → r ≡ arctangent_at negative (digits * 2 ^ exponent) (2 ^ 1074) → Ok (One r) ≡ arctangent_of x
unfolding arctangent_of
answered nan f s d k p h r e = absurd (p.decoded (sym p.kind ∙ h)).value
answered (inf t) f s d k p h r e = absurd (p.decoded (sym p.kind ∙ h)).value
answered (fin t m g) f s d k p h r e =
    let v = (p.decoded (sym p.kind ∙ h)).value in
    ap (λ (v : Float). Ok (One v)) (e ∙ sym (at_same s (m * up g) (down g) (d * 2 ^ k) (2 ^ 1074) (down_pos g) (pow_pos 1074) v.1) ∙ ap (λ (b : Bool). arctangent_at b (m * up g) (down g)) (sym v.0))

pub answered_infinite : (x : Float) (is_finite : Bool) → ne x x ≡ false → is_finite ≡ finite x → is_finite ≡ false → (r : Float) → r ≡ round binary64 (lt x +0) (right_sides.added - right_sides.taken) (2 ^ 63) → Ok (One r) ≡ arctangent_of x
unfolding arctangent_of ne eq lt of_bits
answered_infinite nan f t k h r e = absurd (true≢false t)
answered_infinite (inf s) f t k h r e = ap (λ (v : Float). Ok (One v)) e
answered_infinite (fin s m g) f t k h r e = absurd (true≢false (sym k ∙ h))
