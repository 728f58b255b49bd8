-- Where an f64 falls in `by_domain`, and what is known of it there. Assumes nothing.
use Rattle.std.specs.Prelude.{◌≡◌, refl, Bool, true, false, not, ◌&&◌, ℕ, zero, suc, ◌+◌, ◌*◌, ◌^◌, ◌≤◌, ◌<◌, ℤ, T, eqb, Float, Result, Err}
use Rattle.std.proofs.Common.{sym, ap, ◌∙◌, subst, true≢false, arith, ltb→lt, nltb→le, pow_pos}
use native.Mathlib.Nat.{le_of_eq, le_of_lt, lt_of_lt_of_le, zero-mul, mul_comm, mul-pos, mul-lt-mul_of_pos_right, lt_of_mul-lt-mul_right}
use Rattle.std.proofs.Math.Arith.{lt_of_le-ne}
use Rattle.std.proofs.Math.Dec.{eqb_refl}
use Rattle.std.specs.Float.{nan, inf, fin, binary64}
use Rattle.std.specs.Float.Ieee.{up, down, fits, lt, eq, ne, of_bits}
use Rattle.std.specs.Float.Ieee.Bits.{is_true}
use Rattle.std.specs.Float.Ieee.Exact.{HasValue}
use Rattle.std.specs.Float.Ieee.Fits.{down_pos, and_i, eq→eqb}
use Rattle.laws.specs.Arithmetic.{◌<·◌, ◌=·◌, ◌≠·◌, +0, -∞, 1·0}
use Rattle.laws.specs.laws.Flags.{holds, fails}
use Rattle.answer.specs.declared.Answer.{Answer}
use Rattle.answer.specs.declared.Refusal.{Refusal}
use Rattle.answer.specs.declared.Refusal.TheVariants.{NotANumber, AboveOne}
use Rattle.laws.specs.laws.Units.{units_of_lem}
use Rattle.laws.specs.laws.Bounds.{Small}
use Rattle.legendre.specs.Domain.{by_domain}
use Rattle.legendre.specs.laws.Decided.{over, at_one, where_negative, below_one}

-- finite and below 0
pub record Negative (m : Float) : Type 0 where
  pub units : ℕ
  pub value : HasValue m true units (2 ^ 1074)
  pub some : 0 < units
  pub fit : T (fits binary64 m)

-- from 0 to below 1; a zero may have either sign
pub record Unit (m : Float) : Type 0 where
  pub sign : Bool
  pub units : ℕ
  pub value : HasValue m sign units (2 ^ 1074)
  pub below : units < 2 ^ 1074
  pub zero : sign ≡ true → units ≡ 0

pub unit_small : {m : Float} → Unit m → Small 1074 m
unit_small u = record { sign = u.sign; units = u.units; value = u.value; most = le_of_lt u.below }

pub data Place (m : Float) : Type 0 where
  refused_1 : ((a b c d : Result Answer Refusal) → by_domain m a b c d ≡ Err NotANumber) → Place m
  refused_2 : ((a b c d : Result Answer Refusal) → by_domain m a b c d ≡ Err AboveOne) → Place m
  one : ((a b c d : Result Answer Refusal) → by_domain m a b c d ≡ a) → Place m
  lowest : ((a b c d : Result Answer Refusal) → by_domain m a b c d ≡ b) → Place m
  negative : Negative m → ((a b c d : Result Answer Refusal) → by_domain m a b c d ≡ c) → Place m
  unit : Unit m → ((a b c d : Result Answer Refusal) → by_domain m a b c d ≡ d) → Place m

-- ---- the tests on a finite value
itself : (s : Bool) (m : ℕ) (e : ℤ) → fin s m e ≠· fin s m e ≡ false
unfolding ne eq
itself true m e = ap (λ (b : Bool). not (b && true)) (is_true (eqb (m * up e * down e) (m * up e * down e)) (eqb_refl (m * up e * down e)))
itself false m e = ap (λ (b : Bool). not (b && true)) (is_true (eqb (m * up e * down e) (m * up e * down e)) (eqb_refl (m * up e * down e)))

no_infinity : (s : Bool) (m : ℕ) (e : ℤ) → fin s m e =· -∞ ≡ false
unfolding eq of_bits
no_infinity s m e = refl

at_most_one : (m : ℕ) (e : ℤ) → 1·0 <· fin false m e ≡ false → m * up e ≤ down e
unfolding lt of_bits
at_most_one m e h = plain (down e) (m * up e) (nltb→le (1 * 1 * down e) (m * up e * 1) (fails h))
  where
    plain : (d w : ℕ) → w * 1 ≤ 1 * 1 * d → w ≤ d
    plain d w h = omega arith

not-one : (m : ℕ) (e : ℤ) → fin false m e =· 1·0 ≡ false → m * up e ≡ down e → ⊥
unfolding eq of_bits
not-one m e h k = true≢false (sym (is_true (eqb (m * up e * 1) (1 * 1 * down e) && true) (and_i (eqb (m * up e * 1) (1 * 1 * down e)) true (eq→eqb (plain (m * up e) (down e) k)) tt)) ∙ h)
  where
    plain : (w d : ℕ) → w ≡ d → w * 1 ≡ 1 * 1 * d
    plain w d e = omega arith

-- w / d below 1 is fewer than u units
few : (w d b u : ℕ) → 0 < d → 0 < u → w * u ≡ b * d → w < d → b < u
few w d b u D U e l = lt_of_mul-lt-mul_right d (lt_of_lt_of_le (native.Mathlib.Nat.lt_of_le_of_lt (le_of_eq (sym e)) (mul-lt-mul_of_pos_right l U)) (le_of_eq (mul_comm d u)))

some_units : (w d b u : ℕ) → 0 < u → 0 < w → w * u ≡ b * d → 0 < b
some_units w d zero u U W e = absurd (native.Mathlib.Nat.lt_irrefl 0 (lt_of_lt_of_le (mul-pos W U) (le_of_eq (e ∙ zero-mul d))))
some_units w d (suc b) u U W e = native.Mathlib.Nat.zero-lt-suc b

none : (w d b u : ℕ) → 0 < d → w ≡ 0 → w * u ≡ b * d → b ≡ 0
none w d zero u D W e = refl
none w d (suc b) u D W e = absurd (native.Mathlib.Nat.lt_irrefl 0 (lt_of_lt_of_le (mul-pos (native.Mathlib.Nat.zero-lt-suc b) D) (le_of_eq (sym e ∙ ap (λ (z : ℕ). z * u) W ∙ zero-mul u))))

below-zero : (m : ℕ) (e : ℤ) → fin true m e <· +0 ≡ true → 0 < m * up e
unfolding lt of_bits
below-zero m e h = plain (m * up e) (down e) (ltb→lt 0 (m * up e * 1 + 0 * 1 * down e) (holds h))
  where
    plain : (w d : ℕ) → 0 < w * 1 + 0 * 1 * d → 0 < w
    plain w d h = omega arith

not-below-zero : (m : ℕ) (e : ℤ) → fin true m e <· +0 ≡ false → m * up e ≡ 0
unfolding lt of_bits
not-below-zero m e h = plain (m * up e) (down e) (nltb→le 0 (m * up e * 1 + 0 * 1 * down e) (fails h))
  where
    plain : (w d : ℕ) → w * 1 + 0 * 1 * d ≤ 0 → w ≡ 0
    plain w d h = omega arith

positive_not : (m : ℕ) (e : ℤ) → fin false m e <· +0 ≡ true → ⊥
unfolding lt of_bits
positive_not m e h = plain (m * up e) (down e) (ltb→lt (m * up e * 1) (0 * 1 * down e) (holds h))
  where
    plain : (w d : ℕ) → w * 1 < 0 * 1 * d → ⊥
    plain w d h = omega arith

-- ---- the place
negative_of : (s : Bool) (m : ℕ) (e : ℤ) → T (fits binary64 (fin s m e)) → fin s m e <· +0 ≡ true → Negative (fin s m e)
negative_of false m e f h = absurd (positive_not m e h)
negative_of true m e f h =
    let u = units_of_lem true m e f in
    record { units = u.count; value = (refl, u.is); some = some_units (m * up e) (down e) u.count (2 ^ 1074) (pow_pos 1074) (below-zero m e h) u.is; fit = f }

unit_of : (s : Bool) (m : ℕ) (e : ℤ) → T (fits binary64 (fin s m e)) → 1·0 <· fin s m e ≡ false → fin s m e =· 1·0 ≡ false → fin s m e <· +0 ≡ false → Unit (fin s m e)
unit_of false m e f a b h =
    let u = units_of_lem false m e f in
    record { sign = false; units = u.count; value = (refl, u.is); below = few (m * up e) (down e) u.count (2 ^ 1074) (down_pos e) (pow_pos 1074) u.is (lt_of_le-ne (at_most_one m e a) (not-one m e b)); zero = λ t. absurd (true≢false (sym t)) }
unit_of true m e f a b h =
    let u = units_of_lem true m e f in
    let z = none (m * up e) (down e) u.count (2 ^ 1074) (down_pos e) (not-below-zero m e h) u.is in
    record { sign = true; units = u.count; value = (refl, u.is); below = subst (λ (n : ℕ). n < 2 ^ 1074) (sym z) (pow_pos 1074); zero = λ t. z }

pub place : (m : Float) → T (fits binary64 m) → Place m
unfolding by_domain ne eq lt of_bits
place nan f = refused_1 (λ a b c d. refl)
place (inf true) f = lowest (λ a b c d. refl)
place (inf false) f = refused_2 (λ a b c d. refl)
place (fin s m e) f = go (1·0 <· fin s m e) refl (fin s m e =· 1·0) refl (fin s m e <· +0) refl
  where
    go : (p : Bool) → 1·0 <· fin s m e ≡ p → (q : Bool) → fin s m e =· 1·0 ≡ q → (r : Bool) → fin s m e <· +0 ≡ r → Place (fin s m e)
    go true p q eq r er = refused_2 (λ a b c d. sym (over (fin s m e) a b c d (itself s m e) p))
    go false p true eq r er = one (λ a b c d. sym (at_one (fin s m e) a b c d (itself s m e) p eq))
    go false p false eq true er = negative (negative_of s m e f er) (λ a b c d. sym (where_negative (fin s m e) a b c d c (itself s m e) p eq (no_infinity s m e) er refl))
    go false p false eq false er = unit (unit_of s m e f p eq er) (λ a b c d. sym (below_one (fin s m e) a b c d d (itself s m e) p eq (no_infinity s m e) er refl))
