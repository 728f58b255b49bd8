-- No number and no float is spelled with a comma or a line end. Assumes nothing.
use Rattle.std.specs.Prelude.{◌≡◌, refl, ℕ, zero, suc, ◌+◌, ◌*◌, ◌-◌, ◌/◌, ◌%◌, ◌^◌, Bool, true, false, cond, not, ◌&&◌, ◌||◌, List, [], ◌∷◌, ◌++◌, ltb, leb, eqb}
use Rattle.std.proofs.Common.{sym, arith, ne_eqb}
use Rattle.std.proofs.lemmas.Bool.{false≢true}
use Rattle.text.specs.Text.{glyph_of, digits_of, decimal, pattern}
use Rattle.hexfloat.specs.Spelled.{field_of, fraction_of, sign_text, digits_text, lead_of, behind_text, exponent_text, size_text, spelled_of}
use Rattle.hexfloat.specs.Reading.{either}
use Rattle.spelt.specs.laws.Fractions.{Without}

-- ---- bytes without some others

pub without-both : (a b : ℕ) (xs ys : List ℕ) → Without a b xs → Without a b ys → Without a b (xs ++ ys)
without-both a b [] ys h k = k
without-both a b (x ∷ xs) ys h k = (h.0, without-both a b xs ys h.1 k)

-- without two, so without each
each_none : (p q : Bool) → (p || q) ≡ false → ((p || p) ≡ false) × ((q || q) ≡ false)
each_none true q e = absurd (false≢true (sym e))
each_none false q e = (refl, rw e refl)

pub without-first : (a b : ℕ) (xs : List ℕ) → Without a b xs → Without a a xs
without-first a b [] h = tt
without-first a b (x ∷ xs) h = ((each_none (eqb x a) (eqb x b) h.0).0, without-first a b xs h.1)

pub without-second : (a b : ℕ) (xs : List ℕ) → Without a b xs → Without b b xs
without-second a b [] h = tt
without-second a b (x ∷ xs) h = ((each_none (eqb x a) (eqb x b) h.0).1, without-second a b xs h.1)

-- ---- no comma and no line end

abbrev pub Plain : List ℕ → Type 0
Plain xs = Without 44 10 xs

plain-one : (t : Bool) (xs ys : List ℕ) → Plain xs → Plain ys → Plain (cond t xs ys)
plain-one true xs ys h k = h
plain-one false xs ys h k = k

plain-two : (xs ys : List ℕ) → Plain xs → Plain ys → Plain (xs ++ ys)
plain-two xs ys h k = without-both 44 10 xs ys h k

plain_glyph : (d : ℕ) → either 44 10 (glyph_of d) ≡ false
unfolding glyph_of
plain_glyph d = by (ltb d 10) where
  by : (t : Bool) → either 44 10 (cond t (48 + d) (87 + d)) ≡ false
  by true = simp (ne_eqb (48 + d) 44 (λ e. omega arith), ne_eqb (48 + d) 10 (λ e. omega arith))
  by false = simp (ne_eqb (87 + d) 44 (λ e. omega arith), ne_eqb (87 + d) 10 (λ e. omega arith))

plain-digits : (all : Bool) (base k n : ℕ) → Plain (digits_of all base k n)
unfolding digits_of
plain-digits all base zero n = tt
plain-digits all base (suc k) n =
    plain-one (not all && ltb n base) _ _ (plain_glyph n, tt)
    (plain-two (digits_of all base k (n / base)) (glyph_of (n % base) ∷ []) (plain-digits all base k (n / base)) (plain_glyph (n % base), tt))

pub plain-decimal : (n : ℕ) → Plain (decimal n)
unfolding decimal
plain-decimal n = plain-digits false 10 20 n

plain-pattern : (n : ℕ) → Plain (pattern n)
unfolding pattern
plain-pattern n = plain-digits true 16 16 n

-- ---- floats

plain_sign : (p : ℕ) → Plain (sign_text p)
unfolding sign_text
plain_sign p = plain-one (leb (2 ^ 63) p) _ _ (refl, tt) tt

plain-behind-digits : (k n : ℕ) → Plain (digits_text k n)
unfolding digits_text
plain-behind-digits zero n = tt
plain-behind-digits (suc k) n = plain-one (eqb n 0) _ _ tt (plain_glyph (n / 2 ^ 48), plain-behind-digits k (n % 2 ^ 48 * 16))

plain-behind : (f : ℕ) → Plain (behind_text f)
unfolding behind_text
plain-behind f = plain-one (eqb f 0) _ _ tt (refl, plain-behind-digits 13 f)

plain_exponent : (e f : ℕ) → Plain (exponent_text e f)
unfolding exponent_text
plain_exponent e f =
    plain-one (eqb e 0 && eqb f 0) _ _ (refl, (refl, (refl, tt)))
    (plain-one (eqb e 0) _ _ (refl, (refl, (refl, (refl, (refl, (refl, tt))))))
    (plain-one (ltb e 1023) _ _ (refl, (refl, plain-decimal (1023 - e))) (refl, (refl, plain-decimal (e - 1023)))))

plain_lead : (e : ℕ) → either 44 10 (lead_of e) ≡ false
unfolding lead_of
plain_lead e = by (eqb e 0) where
  by : (t : Bool) → either 44 10 (cond t 48 49) ≡ false
  by true = refl
  by false = refl

plain_size : (e f : ℕ) → Plain (size_text e f)
unfolding size_text
plain_size e f =
    plain-one (eqb e 2047) _ _ (refl, (refl, (refl, tt)))
    (refl, (refl, (plain_lead e, plain-two (behind_text f) (exponent_text e f) (plain-behind f) (plain_exponent e f))))

pub plain_spelled : (p : ℕ) → Plain (spelled_of p)
unfolding spelled_of
plain_spelled p =
    plain-one (eqb (field_of p) 2047 && not (eqb (fraction_of p) 0)) _ _ (refl, (refl, (refl, (refl, plain-pattern p))))
    (plain-two (sign_text p) (size_text (field_of p) (fraction_of p)) (plain_sign p) (plain_size (field_of p) (fraction_of p)))
