-- Laws of a number's digits. Assumes nothing.
use Rattle.std.specs.Prelude.{◌≡◌, ℕ, zero, suc, ◌+◌, ◌*◌, ◌/◌, ◌%◌, ◌^◌, ◌≤◌, ◌<◌, Bool, cond, not, ◌&&◌, List, [], ◌∷◌, ◌++◌, length, ltb}
use Rattle.std.proofs.Common.{sym, ap, ◌∙◌, pow-suc, one-mul, div-lt_iff_lt-mul, arith, lt-ltb, ltb-true}
use Rattle.std.proofs.Math.Nat.{pow-zero}
use Rattle.std.proofs.Math.Bool.{true, false}
use Rattle.std.proofs.Math.ListN.{length-append}
use Rattle.text.specs.Text.{glyph_of, digits_of, decimal, pattern, three}

-- the test for a single digit
pub if_below : (all : Bool) (n base : ℕ) → (not all && ltb n base) ≡ true → n < base
if_below true n base e = let z : ◌≡◌ {A = ℕ} 0 1 = cc in absurd (omega arith)
if_below false n base e = ltb-true n base e

-- more places than a number needs change nothing
pub enough : (base : ℕ) → 0 < base → (m k n : ℕ) → k ≤ m → n < base ^ suc k → digits_of false base (suc m) n ≡ digits_of false base (suc k) n
unfolding digits_of
enough base pos m zero n h below =
    let e : base ^ 1 ≡ base = pow-suc base 0 ∙ ap (λ (x : ℕ). x * base) (pow-zero base) ∙ one-mul base in
    simp (lt-ltb n base (rw e at below))
enough base pos zero (suc k) n h below = absurd (omega arith)
enough base pos (suc m) (suc k) n h below =
    let less : n / base < base ^ suc k = (div-lt_iff_lt-mul {k = base} pos).1 (rw (← pow-suc base (suc k)) below) in
    ap (λ (xs : List ℕ). cond (not false && ltb n base) (glyph_of n ∷ []) (xs ++ (glyph_of (n % base) ∷ []))) (enough base pos m k (n / base) (omega arith) less)

pub decimal_enough : (k n : ℕ) → 0 < k → k ≤ 20 → n < 10 ^ k → digits_of false 10 k n ≡ decimal n
unfolding decimal
decimal_enough zero n pos h below = absurd (omega arith)
decimal_enough (suc k) n pos h below = sym (enough 10 (omega arith) 19 k n (omega arith) below)

-- ---- how long a number is
pub digits-length : (all : Bool) (base k n : ℕ) → length (digits_of all base k n) ≤ k
unfolding digits_of
digits-length all base zero n = omega arith
digits-length all base (suc k) n = by_test (not all && ltb n base) (digits-length all base k (n / base)) where
  by_test : (t : Bool) → length (digits_of all base k (n / base)) ≤ k
      → length (cond t (glyph_of n ∷ []) (digits_of all base k (n / base) ++ (glyph_of (n % base) ∷ []))) ≤ suc k
  by_test true h = omega arith
  by_test false h = simp length-append (omega arith)

decimal-length : (k n : ℕ) → 0 < k → k ≤ 20 → n < 10 ^ k → length (decimal n) ≤ k
decimal-length k n pos h below = rw (← (decimal_enough k n pos h below)) (digits-length false 10 k n)

-- ---- and with the byte after it
module _ (n after : ℕ) where
  pub field-length : (k : ℕ) → 0 < k → k ≤ 20 → n < 10 ^ k → length (decimal n ++ (after ∷ [])) ≤ k + 1
  field-length k pos h below = simp length-append (omega (arith, decimal-length k n pos h below))

  pub field-most : length (decimal n ++ (after ∷ [])) ≤ 21
  unfolding decimal
  field-most = simp length-append (omega (arith, digits-length false 10 20 n))

  pub pattern-most : length (pattern n ++ (after ∷ [])) ≤ 17
  unfolding pattern
  pattern-most = simp length-append (omega (arith, digits-length true 16 16 n))

pub three-length : (a b c after i j k : ℕ) → (0 < i) × (0 < j) × (0 < k) → (i ≤ 20) × (j ≤ 20) × (k ≤ 20) → (a < 10 ^ i) × (b < 10 ^ j) × (c < 10 ^ k)
    → length (three a b c ++ (after ∷ [])) ≤ i + j + k + 3
unfolding three
three-length a b c after i j k pos h below =
    let x = decimal-length i a pos.0 h.0 below.0 in
    let y = decimal-length j b pos.1 h.1 below.1 in
    let z = decimal-length k c pos.2 h.2 below.2 in
    simp length-append (omega arith)
