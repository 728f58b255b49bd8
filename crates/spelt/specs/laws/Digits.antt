-- Digits that are written are read: of a decimal number, of an exponent, of a bit pattern. And a part of a line ends where its separator stands. Assumes nothing.
use Rattle.std.specs.Prelude.{◌≡◌, Bool, cond, not, ◌&&◌, Some, None, List, [], ◌∷◌, ◌++◌, length, get_or, eqb}
use Rattle.std.proofs.Math.Path.{refl, ap}
use Rattle.std.proofs.Common.{sym, ◌∙◌, div-add-mod', div-lt_iff_lt-mul, le_trans, arith, length-append, lit≤, lt-ltb, le-ltb, eq-eqb, ne_eqb}
use Prim.Native.Nat.{ℕ, zero, suc, ◌+◌, ◌*◌, ◌/◌, ◌%◌, ◌^◌, ◌≤◌, ◌<◌}
use Rattle.std.proofs.Math.Nat.{mod-lt, pow-suc, pow-zero}
use Rattle.std.proofs.Math.Bool.{true, false}
use Rattle.std.proofs.Math.ListN.{get_or-append}
use Rattle.std.proofs.Math.Dec.{ltb}
use Rattle.line.specs.Line.{digit_of, spell_of, decimal_of, pattern_of, onto, cut}
use Rattle.line.specs.laws.Long.{below}
use Rattle.text.specs.Text.{glyph_of, digits_of, decimal, pattern}
use Rattle.text.specs.laws.Digits.{if_below, decimal_enough, digits-length}
use Rattle.hexfloat.specs.Reading.{power_of}

-- ---- digits

pub read_glyph : (d : ℕ) → d < 16 → digit_of (glyph_of d) ≡ d
unfolding glyph_of digit_of
read_glyph d h =
    below d 10
    (λ small. simp (lt-ltb d 10 small, le-ltb (48 + d) 48 (omega arith), lt-ltb (48 + d) 58 (omega arith)) (omega arith))
    (λ large. simp (le-ltb d 10 large, le-ltb (87 + d) 48 (omega arith), le-ltb (87 + d) 58 (omega arith), le-ltb (87 + d) 97 (omega arith), lt-ltb (87 + d) 103 (omega arith)) (omega arith))

-- one more digit at the end
spell_more : (base n v g : ℕ) (xs : List ℕ) → digit_of g < base → spell_of base n xs ≡ Some v → spell_of base n (xs ++ (g ∷ [])) ≡ Some (v * base + digit_of g)
unfolding spell_of
spell_more base n v g [] h e =
    let s : n ≡ v = cc in
    simp (lt-ltb (digit_of g) base h) (rw s refl)
spell_more base n v g (x ∷ xs) h e = by (ltb (digit_of x) base) (spell_more base (n * base + digit_of x) v g xs h) e where
  by : (t : Bool) → (spell_of base (n * base + digit_of x) xs ≡ Some v → spell_of base (n * base + digit_of x) (xs ++ (g ∷ [])) ≡ Some (v * base + digit_of g))
      → cond t (spell_of base (n * base + digit_of x) xs) None ≡ Some v → cond t (spell_of base (n * base + digit_of x) (xs ++ (g ∷ []))) None ≡ Some (v * base + digit_of g)
  by true rest f = rest f
  by false rest f = let z : ◌≡◌ {A = ℕ} 0 1 = cc in absurd (omega arith)

-- a number's digits spell it
module _ (all : Bool) (base : ℕ) (two : 1 < base) (small : base ≤ 16) where
  spell_digits : (k n : ℕ) → n < base ^ k → spell_of base 0 (digits_of all base k n) ≡ Some n
  unfolding digits_of spell_of
  spell_digits zero n h =
      let none : n < 1 = rw pow-zero at h in
      ap Some (omega arith)
  spell_digits (suc k) n h = by (not all && ltb n base) refl (spell_digits k (n / base)) where
    by : (t : Bool) → (not all && ltb n base) ≡ t → (n / base < base ^ k → spell_of base 0 (digits_of all base k (n / base)) ≡ Some (n / base))
        → spell_of base 0 (cond t (glyph_of n ∷ []) (digits_of all base k (n / base) ++ (glyph_of (n % base) ∷ []))) ≡ Some n
    by true e rest =
        let less : n < base = if_below all n base e in
        rw (read_glyph n (omega arith)) (simp (lt-ltb n base less) (ap Some (omega arith)))
    by false e rest =
        let less : n / base < base ^ k = (div-lt_iff_lt-mul {k = base} (omega arith)).1 (rw (← pow-suc base k) h) in
        let last : n % base < base = mod-lt n {m = base} (omega arith) in
        let is : digit_of (glyph_of (n % base)) ≡ n % base = read_glyph (n % base) (omega arith) in
        spell_more base 0 (n / base) (glyph_of (n % base)) (digits_of all base k (n / base)) (omega arith) (rest less)
        ∙ ap Some (rw is (div-add-mod' n base))

-- how many there are
digits_some : (all : Bool) (base k n : ℕ) → 0 < length (digits_of all base (suc k) n)
unfolding digits_of
digits_some all base k n = by (not all && ltb n base) where
  by : (t : Bool) → 0 < length (cond t (glyph_of n ∷ []) (digits_of all base k (n / base) ++ (glyph_of (n % base) ∷ [])))
  by true = omega arith
  by false = omega (arith, length-append (digits_of all base k (n / base)) (glyph_of (n % base) ∷ []))

digits_full : (base k n : ℕ) → length (digits_of true base k n) ≡ k
unfolding digits_of
digits_full base zero n = refl
digits_full base (suc k) n = omega (arith, length-append (digits_of true base k (n / base)) (glyph_of (n % base) ∷ []), digits_full base k (n / base))

pub read-pattern : (n : ℕ) → n < 2 ^ 64 → pattern_of (pattern n) ≡ Some n
unfolding pattern_of pattern
read-pattern n h =
    let e : 2 ^ 64 ≤ 16 ^ 16 = lit≤ tt in
    simp (eq-eqb _ 16 (digits_full 16 16 n)) (spell_digits true 16 (omega arith) (omega arith) 16 n (le_trans h e))

-- ---- decimal numbers

-- a number of at most k digits
module _ (k n : ℕ) (pos : 0 < k) (room : k ≤ 20) (h : n < 10 ^ k) where
  is : decimal n ≡ digits_of false 10 k n
  is = sym (decimal_enough k n pos room h)

  decimal_few : length (decimal n) ≤ k
  decimal_few = rw is (digits-length false 10 k n)

  spell_decimal : spell_of 10 0 (decimal n) ≡ Some n
  spell_decimal = rw is (spell_digits false 10 (omega arith) (omega arith) k n h)

decimal_some : (n : ℕ) → 0 < length (decimal n)
unfolding decimal
decimal_some n = digits_some false 10 19 n

glyph_lead : (n : ℕ) → 0 < n → n < 10 → 48 < glyph_of n
unfolding glyph_of
glyph_lead n pos less = simp (lt-ltb n 10 less) (omega arith)

-- no zero in front of a number that is not zero
lead : (k n : ℕ) → 0 < n → n < 10 ^ suc k → 48 < get_or (digits_of false 10 (suc k) n) 0 0
unfolding digits_of
lead zero n pos h = let less : n < 10 = omega arith in simp (lt-ltb n 10 less) (glyph_lead n pos less)
lead (suc k) n pos h =
    below n 10
    (λ less. simp (lt-ltb n 10 less) (glyph_lead n pos less))
    (λ more.
    let fewer : n / 10 < 10 ^ suc k = (div-lt_iff_lt-mul {k = 10} (omega arith)).1 (rw (← pow-suc 10 (suc k)) h) in
    let rest : List ℕ = digits_of false 10 (suc k) (n / 10) in
    let some : 0 < length rest = digits_some false 10 k (n / 10) in
    simp (le-ltb n 10 more)
    (rw (get_or-append rest (glyph_of (n % 10) ∷ []) 0 0 some) (lead k (n / 10) (omega arith) fewer)))

and_false : (a b : Bool) → b ≡ false → (a && b) ≡ false
and_false true b e = e
and_false false b e = refl

single : (n : ℕ) → n < 10 → decimal n ≡ glyph_of n ∷ []
unfolding decimal digits_of
single n less = simp (lt-ltb n 10 less)

zero_alone : (n : ℕ) → n < 10 ^ 20 → (ltb 1 (length (decimal n)) && eqb (get_or (decimal n) 0 0) 48) ≡ false
unfolding decimal
zero_alone n h =
    below n 10
    (λ less. rw (single n less) refl)
    (λ more.
    let front = lead 19 n (omega arith) h in
    and_false (ltb 1 (length (decimal n))) (eqb (get_or (decimal n) 0 0) 48)
    (ne_eqb (get_or (decimal n) 0 0) 48 (λ e. omega arith)))

pub read-decimal : (n : ℕ) → n < 10 ^ 10 → decimal_of (decimal n) ≡ Some n
unfolding decimal_of
read-decimal n h =
    let some = decimal_some n in
    let few = decimal_few 10 n (omega arith) (omega arith) h in
    simp (ne_eqb (length (decimal n)) 0 (λ e. omega arith), le-ltb 10 (length (decimal n)) few, zero_alone n (omega arith))
    (spell_decimal 10 n (omega arith) (omega arith) h)

-- an exponent of at most six digits
pub read_power : (n : ℕ) → n < 10 ^ 6 → power_of (decimal n) ≡ Some n
unfolding power_of
read_power n h =
    let some = decimal_some n in
    let few = decimal_few 6 n (omega arith) (omega arith) h in
    simp (ne_eqb (length (decimal n)) 0 (λ e. omega arith), le-ltb 6 (length (decimal n)) few)
    (spell_decimal 6 n (omega arith) (omega arith) h)

-- ---- parts

-- no byte below b
abbrev pub From : ℕ → List ℕ → Type 0
From b [] = Unit {0}
From b (x ∷ xs) = (b ≤ x) × From b xs

pub from_both : (b : ℕ) (xs ys : List ℕ) → From b xs → From b ys → From b (xs ++ ys)
from_both b [] ys h k = k
from_both b (x ∷ xs) ys h k = (h.0, from_both b xs ys h.1 k)

pub from_less : (a b : ℕ) (xs : List ℕ) → a ≤ b → From b xs → From a xs
from_less a b [] h k = tt
from_less a b (x ∷ xs) h k = (omega (arith, k.0), from_less a b xs h k.1)

glyph_high : (d : ℕ) → 33 ≤ glyph_of d
unfolding glyph_of
glyph_high d = by (ltb d 10) where
  by : (t : Bool) → 33 ≤ cond t (48 + d) (87 + d)
  by true = omega arith
  by false = omega arith

-- digits stand above a space, and so above a line end
from_digits : (all : Bool) (base k n : ℕ) → From 33 (digits_of all base k n)
unfolding digits_of
from_digits all base zero n = tt
from_digits all base (suc k) n = by (not all && ltb n base) (from_digits all base k (n / base)) where
  by : (t : Bool) → From 33 (digits_of all base k (n / base)) → From 33 (cond t (glyph_of n ∷ []) (digits_of all base k (n / base) ++ (glyph_of (n % base) ∷ [])))
  by true rest = (glyph_high n, tt)
  by false rest = from_both 33 (digits_of all base k (n / base)) (glyph_of (n % base) ∷ []) rest (glyph_high (n % base), tt)

pub from_decimal : (n : ℕ) → From 33 (decimal n)
unfolding decimal
from_decimal n = from_digits false 10 20 n

pub from_pattern : (n : ℕ) → From 33 (pattern n)
unfolding pattern
from_pattern n = from_digits true 16 16 n

-- a part is cut off at the first byte e
pub cut-before : (e : ℕ) (z : List (List ℕ)) (p s : List ℕ) → From (suc e) p → cut e z (p ++ (e ∷ s)) ≡ p ∷ cut e z s
unfolding cut onto
cut-before e z [] s h = simp (eq-eqb e e refl)
cut-before e z (x ∷ p) s h = simp (ne_eqb x e (λ q. omega (arith, h.0))) (rw (cut-before e z p s h.1) refl)
