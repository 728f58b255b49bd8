-- The digits behind the point spell the fraction, but for the zeros at its end. Assumes nothing.
use Rattle.std.specs.Prelude.{◌≡◌, refl, ℕ, zero, suc, ◌+◌, ◌*◌, ◌/◌, ◌%◌, ◌^◌, ◌<◌, Bool, cond, ◌&&◌, Some, List, [], ◌∷◌, ◌++◌, ltb, length}
use Rattle.std.proofs.Common.{sym, ap, ◌∙◌, add-zero, mul-div_cancel, mod-lt, div-add-mod', div-lt_iff_lt-mul, mul_assoc, mul_comm, mul-suc, zero-mul, arith, pow-add, pow_pos}
use Rattle.std.proofs.Math.Nat.{mul-div-mul_right, mul-mod_left, eq_of_mul-eq-mul_right}
use Rattle.std.proofs.Math.Bool.{true, false}
use Rattle.std.proofs.Math.Arith.{mod-mul}
use Rattle.std.proofs.Math.Dec.{eqb}
use borrow.Author.Tests.{lt-ltb, le-ltb, ne_eqb, eqb-true}
use Rattle.line.specs.laws.Long.{below}
use Rattle.text.specs.Text.{glyph_of}
use Rattle.hexfloat.specs.Spelled.{digits_text}
use Rattle.hexfloat.specs.Reading.{either, before, hex_digit_of, hex_of}
use Rattle.spelt.specs.laws.Digits.{read_glyph}

-- ---- the byte of a digit
module _ (d : ℕ) (h : d < 16) where
  no_capital : (ltb 64 (glyph_of d) && ltb (glyph_of d) 71) ≡ false
  unfolding glyph_of
  no_capital =
      below d 10
      (λ small. simp (lt-ltb d 10 small, le-ltb 64 (48 + d) (omega arith)))
      (λ large. simp (le-ltb d 10 large, lt-ltb 64 (87 + d) (omega arith), le-ltb (87 + d) 71 (omega arith)))

  pub read_hex : hex_digit_of (glyph_of d) ≡ d
  unfolding hex_digit_of
  read_hex = simp no_capital (read_glyph d h)

  no_byte : (c : ℕ) → (48 + d ≡ c → ⊥) → (87 + d ≡ c → ⊥) → eqb (glyph_of d) c ≡ false
  unfolding glyph_of
  no_byte c a b = by (ltb d 10) where
    by : (t : Bool) → eqb (cond t (48 + d) (87 + d)) c ≡ false
    by true = ne_eqb (48 + d) c a
    by false = ne_eqb (87 + d) c b

  pub no_p : either 112 80 (glyph_of d) ≡ false
  no_p = simp (no_byte 112 (λ e. omega arith) (λ e. omega arith), no_byte 80 (λ e. omega arith) (λ e. omega arith))

  pub no_point : either 46 46 (glyph_of d) ≡ false
  no_point = simp (no_byte 46 (λ e. omega arith) (λ e. omega arith))

-- ---- bytes before others

-- none is a or b
abbrev pub Without : ℕ → ℕ → List ℕ → Type 0
Without a b [] = Unit {0}
Without a b (x ∷ xs) = (either a b x ≡ false) × Without a b xs

pub before-both : (a b : ℕ) (xs ys : List ℕ) → Without a b xs → before a b (xs ++ ys) ≡ length xs + before a b ys
unfolding before
before-both a b [] ys h = omega arith
before-both a b (x ∷ xs) ys h = simp h.0 (omega (arith, before-both a b xs ys h.1))

-- ---- the digits

-- s is r in k digits, without some zeros at its end: the number that it spells, behind the digits of any m
pub record Spells (k r : ℕ) (s : List ℕ) : Type 0 where
  pub zeros : ℕ
  pub all : length s + zeros ≡ k
  pub no_exponent : Without 112 80 s
  pub number : (m : ℕ) → (n : ℕ) × (hex_of m s ≡ Some n) × (n * 2 ^ (4 * zeros) ≡ m * 2 ^ (4 * k) + r)

pub none : (k : ℕ) → Spells k 0 []
unfolding hex_of
none k = record { zeros = k; all = omega arith; no_exponent = tt; number = λ m. (m, refl, omega arith) }

sixteen_fold : (k : ℕ) → 2 ^ (4 * suc k) ≡ 2 ^ (4 * k) * 16
sixteen_fold k = ap (λ (x : ℕ). 2 ^ x) (mul-suc 4 k) ∙ pow-add 2 (4 * k) 4

-- the first digit of r, and the others
module _ (k j r : ℕ) (e : j + suc k ≡ 13) where
  places : 2 ^ 48 ≡ 2 ^ (4 * k) * 2 ^ (4 * j)
  places =
      let both : 48 ≡ 4 * k + 4 * j = omega arith in
      ap (λ (x : ℕ). 2 ^ x) both ∙ pow-add 2 (4 * k) (4 * j)

  first : r * 2 ^ (4 * j) / 2 ^ 48 ≡ r / 2 ^ (4 * k)
  first = rw places (mul-div-mul_right r (2 ^ (4 * k)) (pow_pos (4 * j)))

  cut : (p q : ℕ) → 0 < p → 0 < q → r * q % (p * q) ≡ r % p * q
  cut p q P Q = mod-mul (r * q) P Q ∙ (λ i. mul-div_cancel r Q i % p * q + mul-mod_left r q i) ∙ add-zero (r % p * q)

  others : r * 2 ^ (4 * j) % 2 ^ 48 * 16 ≡ r % 2 ^ (4 * k) * 2 ^ (4 * suc j)
  others = rw (places, cut (2 ^ (4 * k)) (2 ^ (4 * j)) (pow_pos (4 * k)) (pow_pos (4 * j)), sixteen_fold j) (mul_assoc (r % 2 ^ (4 * k)) (2 ^ (4 * j)) 16)

one_more_lem : (k r : ℕ) (s : List ℕ) → r < 2 ^ (4 * suc k) → Spells k (r % 2 ^ (4 * k)) s → Spells (suc k) r (glyph_of (r / 2 ^ (4 * k)) ∷ s)
unfolding hex_of
one_more_lem k r s h S =
    let d : ℕ = r / 2 ^ (4 * k) in
    let small : d < 16 = (div-lt_iff_lt-mul {k = 2 ^ (4 * k)} (pow_pos (4 * k))).1 (rw (mul_comm 16 (2 ^ (4 * k))) (rw sixteen_fold at h)) in
    record {
      zeros = S.zeros;
      all = omega (arith, S.all);
      no_exponent = (no_p d small, S.no_exponent);
      number = λ m.
          let v = S.number (m * 16 + d) in
          (v.0, simp (read_hex d small, lt-ltb d 16 small) v.1, v.2 ∙ rw (sixteen_fold k) (joined m d (2 ^ (4 * k)) (r % 2 ^ (4 * k)) (div-add-mod' r (2 ^ (4 * k)))));
    }
  where
    joined : (m d p x : ℕ) → d * p + x ≡ r → (m * 16 + d) * p + x ≡ m * (p * 16) + r
    joined m d p x e = omega arith

-- r at the left of the 52 bits
pub digits : (k j r : ℕ) → j + k ≡ 13 → r < 2 ^ (4 * k) → Spells k r (digits_text k (r * 2 ^ (4 * j)))
unfolding digits_text
digits zero j r e h =
    let z : r ≡ 0 = omega arith in
    rw z (none 0)
digits (suc k) j r e h = by (eqb (r * 2 ^ (4 * j)) 0) refl (digits k (suc j) (r % 2 ^ (4 * k)) (omega arith) (mod-lt r (pow_pos (4 * k)))) where
  by : (t : Bool) → eqb (r * 2 ^ (4 * j)) 0 ≡ t → Spells k (r % 2 ^ (4 * k)) (digits_text k (r % 2 ^ (4 * k) * 2 ^ (4 * suc j)))
      → Spells (suc k) r (cond t [] (glyph_of (r * 2 ^ (4 * j) / 2 ^ 48) ∷ digits_text k (r * 2 ^ (4 * j) % 2 ^ 48 * 16)))
  by true f rest = rw (eq_of_mul-eq-mul_right (2 ^ (4 * j)) (pow_pos (4 * j)) r 0 (eqb-true _ 0 f ∙ sym (zero-mul (2 ^ (4 * j))))) (none (suc k))
  by false f rest = rw (first k j r e, others k j r e) (one_more_lem k r _ h rest)
