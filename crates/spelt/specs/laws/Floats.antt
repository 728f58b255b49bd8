-- WHAT IS WRITTEN IS READ: the spelling of every bit pattern says that pattern, NaNs among them. So no two patterns have one spelling, and no reader that meets `read_of` refuses one. Assumes nothing.
use Rattle.std.specs.Prelude.{◌≡◌, ℕ, suc, ◌+◌, ◌*◌, ◌-◌, ◌/◌, ◌^◌, ◌<◌, Bool, true, false, cond, not, ◌&&◌, Some, List, [], ◌∷◌, ◌++◌, leb, eqb, drop}
use Rattle.std.proofs.Math.Path.{refl}
use Rattle.std.proofs.Common.{ap, ◌∙◌, zero-add, mod-lt, mul-one, lit≤}
use Rattle.std.proofs.Math.Nat.{add-zero}
use native.Mathlib.Omega.{arith}
use Rattle.std.proofs.Math.ListN.{length, length-append}
use Rattle.std.proofs.Math.Seq.{take-append_seam, drop-append-add}
use Rattle.std.proofs.Math.Pow.{field}
use Rattle.std.specs.Float.Ieee.{round, to_bits, nan_bits}
use borrow.Author.Tests.{lt-ltb, le-ltb, eq-eqb, ne_eqb, eqb-true, leb-true, leb-false, not-false}
use Rattle.laws.specs.Ascii.{ascii}
use Rattle.line.specs.Line.{digit_of, spell_of}
use Rattle.line.specs.laws.Long.{below}
use Rattle.text.specs.Text.{glyph_of, digits_of, decimal, pattern}
use Rattle.hexfloat.specs.Spelled.{field_of, fraction_of, sign_text, digits_text, lead_of, behind_text, exponent_text, size_text, spelled_of}
use Rattle.hexfloat.specs.Reading.{same, before, hex_digit_of, hex_of, given, power_of, scaled_by, behind_of, mantissa_of, float_of, prefixed_of, nan_of, read_of}
use Rattle.spelt.specs.laws.Digits.{read-pattern, read_power}
use Rattle.spelt.specs.laws.Fractions.{read_hex, no_p, no_point, Without, before-both, Spells, none, digits}
use Rattle.spelt.specs.laws.Values.{Packed, back_down, back_up}

-- ---- a NaN

read-nan : (p : ℕ) → p < 2 ^ 64 → (eqb (field_of p) 2047 && not (eqb (fraction_of p) 0)) ≡ true → read_of (ascii "nan:" ++ pattern p) ≡ Some p
unfolding read_of same nan_of given nan_bits
read-nan p h e = rw (read-pattern p h) (simp (field p 11 52, e))

-- ---- the digits before the exponent

-- s is read as n, with some zeros of its 13 digits left out: d before the point and the fraction behind it
record Reads (d fraction : ℕ) (s : List ℕ) : Type 0 where
  n : ℕ
  zeros : ℕ
  all : behind_of s + zeros ≡ 13
  no_exponent : Without 112 80 s
  mantissa : mantissa_of s ≡ Some n
  is : n * 2 ^ (4 * zeros) ≡ d * 2 ^ 52 + fraction

-- a digit, and behind it nothing or a point and other digits
module _ (d fraction : ℕ) (h : d < 16) (tail s : List ℕ) (S : Spells 13 fraction s) (plain : Without 112 80 tail) (at : before 46 46 tail ≡ 0) (behind : drop 1 tail ≡ s) where
  place : before 46 46 (glyph_of d ∷ tail) ≡ 1
  unfolding before
  place = simp (no_point d h, at)

  reads : Reads d fraction (glyph_of d ∷ tail)
  unfolding mantissa_of behind_of hex_of
  reads =
      let few = S.all in
      record {
        n = (S.number d).0;
        zeros = S.zeros;
        all = rw (place, behind) few;
        no_exponent = (no_p d h, plain);
        mantissa = rw (place, behind) (simp (ne_eqb (suc (length s)) 0 (λ e. omega arith), le-ltb 40 (suc (length s)) (omega arith), read_hex d h, lt-ltb d 16 h, zero-add) (S.number d).1);
        is = (S.number d).2;
      }

front_reads : (d fraction : ℕ) → d < 16 → fraction < 2 ^ 52 → Reads d fraction (glyph_of d ∷ behind_text fraction)
unfolding behind_text before
front_reads d fraction h small = by (eqb fraction 0) refl where
  by : (t : Bool) → eqb fraction 0 ≡ t → Reads d fraction (glyph_of d ∷ cond t [] (ascii "." ++ digits_text 13 fraction))
  by true e = rw (eqb-true fraction 0 e) (reads d 0 h [] [] (none 13) tt refl refl)
  by false e =
      let S : Spells 13 fraction (digits_text 13 fraction) = rw mul-one at (digits 13 0 fraction refl small) in
      reads d fraction h (46 ∷ digits_text 13 fraction) (digits_text 13 fraction) S (refl, S.no_exponent) refl refl

-- ---- the exponent

-- it begins at the first p
module _ (negative : Bool) (d fraction : ℕ) (s : List ℕ) (R : Reads d fraction s) (x : List ℕ) where
  size : before 112 80 (s ++ (112 ∷ x)) ≡ length s
  unfolding before
  size = before-both 112 80 s (112 ∷ x) R.no_exponent ∙ add-zero (length s)

  read_front : float_of negative (s ++ (112 ∷ x)) ≡ scaled_by negative R.n (behind_of s) x
  unfolding float_of given
  read_front =
      let room : length s < length (s ++ (112 ∷ x)) = simp length-append (omega arith) in
      rw (size, take-append_seam s (112 ∷ x), R.mantissa, lt-ltb (length s) (length (s ++ (112 ∷ x))) room, drop-append-add s (112 ∷ x) 1) refl

-- p is worth d and its fraction, times 2 ^ k
module _ (negative : Bool) (p d fraction k : ℕ) (h : d < 16) (small : fraction < 2 ^ 52) (P : Packed negative p (d * 2 ^ 52 + fraction) k) (e : ℕ) where
  s : List ℕ
  s = glyph_of d ∷ behind_text fraction

  R : Reads d fraction s
  unfolding s
  R = front_reads d fraction h small

  read_down : k + e ≡ 1022 → float_of negative (glyph_of d ∷ (behind_text fraction ++ (ascii "p-" ++ decimal e))) ≡ Some p
  unfolding s scaled_by given
  read_down f =
      read_front negative d fraction s R (45 ∷ decimal e)
      ∙ rw (read_power e (omega arith)) (ap Some (back_down negative p _ k P R.n (behind_of s) R.zeros R.all R.is e f))

  read_up : k ≡ e + 1022 → float_of negative (glyph_of d ∷ (behind_text fraction ++ (ascii "p+" ++ decimal e))) ≡ Some p
  unfolding s scaled_by given
  read_up f =
      read_front negative d fraction s R (43 ∷ decimal e)
      ∙ rw (read_power e (omega (arith, P.scale))) (ap Some (back_up negative p _ k P R.n (behind_of s) R.zeros R.all R.is e f))

-- ---- every pattern

-- text with its sign, and a pattern by its parts
abbrev signed : Bool → List ℕ → List ℕ
signed negative t = cond negative (ascii "-") [] ++ t

abbrev joined : Bool → ℕ → ℕ → ℕ
joined negative field fraction = cond negative (2 ^ 63) 0 + (field * 2 ^ 52 + fraction)

read-signed : (negative : Bool) (t : List ℕ) → read_of (signed negative (ascii "0x" ++ t)) ≡ float_of negative t
unfolding read_of same prefixed_of
read-signed true t = refl
read-signed false t = refl

-- infinities and zeros, computed
read_infinite : (negative : Bool) → read_of (signed negative (size_text 2047 0)) ≡ Some (joined negative 2047 0)
unfolding size_text read_of same
read_infinite true = refl
read_infinite false = refl

read-zero : (negative : Bool) → read_of (signed negative (size_text 0 0)) ≡ Some (joined negative 0 0)
unfolding size_text lead_of behind_text exponent_text digit_of spell_of same before hex_digit_of hex_of given power_of scaled_by behind_of mantissa_of float_of prefixed_of read_of round to_bits
read-zero true = refl
read-zero false = refl

module _ (negative : Bool) (p f r : ℕ) (h : p < 2 ^ 64) (is : p ≡ joined negative f r) (small : r < 2 ^ 52) where
  read_subnormal : f ≡ 0 → 0 < r → read_of (signed negative (size_text f r)) ≡ Some p
  unfolding size_text lead_of exponent_text decimal digits_of glyph_of
  read_subnormal a b =
      let P : Packed negative p (0 * 2 ^ 52 + r) 0 = record { width = h; is = omega arith; few = omega arith; scale = omega arith; lead = λ (z : 0 < 0). absurd (omega arith) } in
      rw (a, ne_eqb r 0 (λ e. omega arith)) (read-signed negative _ ∙ read_down negative p 0 r 0 (omega arith) small P 1022 refl)

  read-normal : 0 < f → f < 2047 → read_of (signed negative (size_text f r)) ≡ Some p
  unfolding size_text lead_of exponent_text glyph_of
  read-normal a b =
      let P : Packed negative p (1 * 2 ^ 52 + r) (f - 1) = record { width = h; is = omega arith; few = omega arith; scale = omega arith; lead = λ _. omega arith } in
      rw (ne_eqb f 2047 (λ e. omega arith), ne_eqb f 0 (λ e. omega arith))
      (read-signed negative _
      ∙ below f 1023
      (λ c. rw (lt-ltb f 1023 c) (read_down negative p 1 r (f - 1) (omega arith) small P (1023 - f) (omega arith)))
      (λ c. rw (le-ltb f 1023 c) (read_up negative p 1 r (f - 1) (omega arith) small P (f - 1023) (omega arith))))

  read-size : f < 2 ^ 11 → (eqb f 2047 && not (eqb r 0)) ≡ false → read_of (signed negative (size_text f r)) ≡ Some p
  read-size most no_nan =
      below f 1
      (λ a.
      let low : f ≡ 0 = omega arith in
      below r 1
      (λ b. let z : r ≡ 0 = omega arith in rw (is, low, z) (read-zero negative))
      (λ b. read_subnormal low b))
      (λ a.
      below f 2047 (read-normal a)
      (λ b.
      let full : f ≡ 2047 = omega arith in
      let z : r ≡ 0 = eqb-true r 0 (not-false (eqb r 0) (rw (eq-eqb f 2047 full) at no_nan)) in
      rw (is, full, z) (read_infinite negative)))

parts : (p : ℕ) → p < 2 ^ 64 → p ≡ joined (leb (2 ^ 63) p) (field_of p) (fraction_of p)
parts p h = by (leb (2 ^ 63) p) refl where
  by : (t : Bool) → leb (2 ^ 63) p ≡ t → p ≡ joined t (field_of p) (fraction_of p)
  by true e = omega (arith, leb-true (2 ^ 63) p e)
  by false e = omega (arith, leb-false (2 ^ 63) p e)

pub written_is_read : (p : ℕ) → p < 2 ^ 64 → read_of (spelled_of p) ≡ Some p
unfolding spelled_of sign_text
written_is_read p h = by (eqb (field_of p) 2047 && not (eqb (fraction_of p) 0)) refl where
  by : (t : Bool) → (eqb (field_of p) 2047 && not (eqb (fraction_of p) 0)) ≡ t
      → read_of (cond t (ascii "nan:" ++ pattern p) (sign_text p ++ size_text (field_of p) (fraction_of p))) ≡ Some p
  by true e = read-nan p h e
  by false e = read-size (leb (2 ^ 63) p) p (field_of p) (fraction_of p) h (parts p h) (mod-lt p (lit≤ tt)) (mod-lt (p / 2 ^ 52) (lit≤ tt)) e
