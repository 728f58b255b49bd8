-- A value's sign, digits and exponent, from the fields of its pattern. Assumes nothing.
use Rattle.std.proofs.Common.{◌≡◌, ℕ, zero, suc, ◌+◌, ◌-◌, ◌*◌, ◌/◌, ◌^◌, ◌<◌, Bool, true, false, cond, not, T, eqb, ltb, leb, sym, refl, ap, ◌∙◌, subst, true≢false, le_of_eq, lt_irrefl, add_comm, arith, eqb→eq, lt→ltb, T_not}
use mathlib.Core.Bool.{false≢true}
use lib.Arith.{le→nltb}
use lib.Bits.{bit_and, and_mask, mask_lt}
use lib.Pow.{field}
use lib.Ieee.{Float, nan, inf, binary64, odd, fits, of_fields, of_bits, to_bits}
use lib.Ieee.Bits.{of_bits-to_bits, is_true, is_false}
use lib.Ieee.Exact.{HasValue, odd_sign}
use lib.Ieee.Fits.{eq→eqb}
use lib.Ieee.Scale.{finite}
use Rattle.bits.specs.Parts.{Decoded, PartsOf}

-- ---- what the code reads of the pattern b
abbrev pub sign_of : ℕ → Bool
sign_of b = leb (2 ^ 63) b

abbrev pub field_of : ℕ → ℕ
field_of b = bit_and (b / 2 ^ 52) 0x7ff

abbrev pub digits_of : ℕ → ℕ
digits_of b = bit_and b 0xf_ffff_ffff_ffff

pub digits_lt : (b : ℕ) → digits_of b < 2 ^ 52
digits_lt b = mask_lt b 52

field_lt : (b : ℕ) → field_of b < 2 ^ 11
field_lt b = mask_lt (b / 2 ^ 52) 11

read : (x : Float) (b : ℕ) → T (fits binary64 x) → b ≡ to_bits binary64 x → x ≡ of_fields binary64 (sign_of b) (field_of b) (digits_of b)
unfolding of_bits
read x b h e =
    sym (of_bits-to_bits binary64 x h)
    ∙ ap (of_bits binary64) (sym e)
    ∙ (λ i. of_fields binary64 (sign_of b) (sym (and_mask (b / 2 ^ 52) 11 ∙ sym (field b 11 52)) i) (sym (and_mask b 52) i))

-- ---- which values are finite
odd_finite : (d : ℕ) (s : Bool) (q k l : ℕ) → finite (odd d s q k l) ≡ true
unfolding odd
odd_finite d s zero k l = refl
odd_finite d s (suc q) k l = refl

fields_finite : (s : Bool) (x t : ℕ) → x < 2 ^ 11 → ltb x 2047 ≡ finite (of_fields binary64 s x t)
unfolding of_fields
fields_finite s zero t h = sym (odd_finite 53 s t 0 1074)
fields_finite s (suc x) t h = go (eqb (suc x) 2047) (eqb→eq (suc x) 2047) (λ n e. T_not (eqb (suc x) 2047) n (eq→eqb e)) (eqb t 0)
  where
    full : suc x ≡ 2047 → ltb (suc x) 2047 ≡ false
    full e = is_false (ltb (suc x) 2047) (le→nltb (suc x) 2047 (le_of_eq (sym e)))

    go : (b : Bool) → (T b → suc x ≡ 2047) → (T (not b) → suc x ≡ 2047 → ⊥) → (c : Bool) → ltb (suc x) 2047 ≡ finite (cond b (cond c (inf s) nan) (odd 53 s (2 ^ 52 + t) x 1074))
    go true e n true = full (e tt)
    go true e n false = full (e tt)
    go false e n c = is_true (ltb (suc x) 2047) (lt→ltb (suc x) 2047 (let u = n tt in let z : suc x < 2047 = omega arith in z)) ∙ sym (odd_finite 53 s (2 ^ 52 + t) x 1074)

finite_is : (x : Float) (b : ℕ) → T (fits binary64 x) → b ≡ to_bits binary64 x → ltb (field_of b) 2047 ≡ finite x
finite_is x b h e = fields_finite (sign_of b) (field_of b) (digits_of b) (field_lt b) ∙ ap finite (sym (read x b h e))

-- ---- the three kinds of field
pub parts_none : (x : Float) (b : ℕ) → T (fits binary64 x) → b ≡ to_bits binary64 x → field_of b ≡ 2047 → PartsOf x false false 0 0
parts_none x b h e q =
    let z : finite x ≡ false = sym (finite_is x b h e) ∙ ap (λ (y : ℕ). ltb y 2047) q in
    record { kind = sym z; decoded = λ t. absurd (true≢false (sym t ∙ z)); nothing = λ t. (refl, refl, refl) }

low_value : (s : Bool) (x t : ℕ) → x ≡ 0 → HasValue (of_fields binary64 s x t) s (t * 2 ^ 0) (2 ^ 1074)
unfolding of_fields
low_value s zero t e = odd_sign 53 s t 0 1074
low_value s (suc x) t e = absurd (let z : ⊥ = omega arith in z)

high_value : (s : Bool) (x t : ℕ) → (x ≡ 0 → ⊥) → (x ≡ 2047 → ⊥) → HasValue (of_fields binary64 s x t) s ((2 ^ 52 + t) * 2 ^ (x - 1)) (2 ^ 1074)
unfolding of_fields
high_value s zero t a n = absurd (a refl)
high_value s (suc x) t a n = go (eqb (suc x) 2047) (eqb→eq (suc x) 2047) (eqb t 0)
  where
    go : (b : Bool) → (T b → suc x ≡ 2047) → (c : Bool) → HasValue (cond b (cond c (inf s) nan) (odd 53 s (2 ^ 52 + t) x 1074)) s ((2 ^ 52 + t) * 2 ^ (suc x - 1)) (2 ^ 1074)
    go true e c = absurd (n (e tt))
    go false e c = subst (λ (y : ℕ). HasValue (odd 53 s (2 ^ 52 + t) x 1074) s ((2 ^ 52 + t) * 2 ^ y) (2 ^ 1074)) (let z : x ≡ suc x - 1 = omega arith in z) (odd_sign 53 s (2 ^ 52 + t) x 1074)

parts_of : (x : Float) (b d k : ℕ) → T (fits binary64 x) → b ≡ to_bits binary64 x → (field_of b ≡ 2047 → ⊥) → Decoded x (sign_of b) d k → PartsOf x true (sign_of b) d k
parts_of x b d k h e n v =
    let l = field_lt b in
    let z : true ≡ finite x = sym (is_true (ltb (field_of b) 2047) (lt→ltb (field_of b) 2047 (let y : field_of b < 2047 = omega arith in y))) ∙ finite_is x b h e in
    record { kind = z; decoded = λ t. v; nothing = λ t. absurd (false≢true (sym t ∙ sym z)) }

pub parts_low : (x : Float) (b : ℕ) → T (fits binary64 x) → b ≡ to_bits binary64 x → (field_of b ≡ 2047 → ⊥) → field_of b ≡ 0 → PartsOf x true (sign_of b) (digits_of b) 0
parts_low x b h e n q =
    let l = digits_lt b in
    parts_of x b (digits_of b) 0 h e n
    (record {
      value = subst (λ (y : Float). HasValue y (sign_of b) (digits_of b * 2 ^ 0) (2 ^ 1074)) (sym (read x b h e)) (low_value (sign_of b) (field_of b) (digits_of b) q);
      digits = (omega arith);
      scale = (omega arith);
      lead = λ g. absurd (lt_irrefl 0 g);
    })

pub parts_high : (x : Float) (b : ℕ) → T (fits binary64 x) → b ≡ to_bits binary64 x → (field_of b ≡ 2047 → ⊥) → (field_of b ≡ 0 → ⊥) → PartsOf x true (sign_of b) (digits_of b + 2 ^ 52) (field_of b - 1)
parts_high x b h e n q =
    let l = digits_lt b in
    let f = field_lt b in
    parts_of x b (digits_of b + 2 ^ 52) (field_of b - 1) h e n
    (record {
      value =
          subst (λ (y : ℕ). HasValue x (sign_of b) (y * 2 ^ (field_of b - 1)) (2 ^ 1074)) (add_comm (2 ^ 52) (digits_of b))
          (subst (λ (y : Float). HasValue y (sign_of b) ((2 ^ 52 + digits_of b) * 2 ^ (field_of b - 1)) (2 ^ 1074)) (sym (read x b h e)) (high_value (sign_of b) (field_of b) (digits_of b) q n));
      digits = (omega arith);
      scale = (omega arith);
      lead = λ g. omega arith;
    })
