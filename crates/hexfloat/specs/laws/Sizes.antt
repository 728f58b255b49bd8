-- How large a number is that digits spell. Assumes nothing.
use Rattle.std.specs.Prelude.{◌≡◌, refl, ℕ, suc, ◌+◌, ◌*◌, ◌^◌, ◌≤◌, ◌<◌, Bool, true, false, cond, ◌||◌, Option, Some, None, List, [], ◌∷◌, ◌++◌, ltb, eqb, length, take, drop}
use Rattle.std.proofs.Common.{sym, ap, ◌∙◌, mul_assoc, mul_comm, mul-le-mul_right, one-mul, pow-suc, le_trans, le_of_eq, lt_of_lt_of_le, arith, lit≤, ltb-true, ltb-false}
use Rattle.std.proofs.Math.Nat.{pow-zero, pow-le-pow_right}
use Rattle.std.proofs.lemmas.Option.{same_Some}
use Rattle.line.specs.Line.{digit_of, spell_of}
use Rattle.hexfloat.specs.Reading.{before, hex_digit_of, hex_of, power_of, mantissa_of}

-- ---- one to so many digits: what the test lets through
pub at_most : (most k : ℕ) → (eqb k 0 || ltb most k) ≡ false → k ≤ most
at_most most k e = ltb-false most k (second (eqb k 0) (ltb most k) e)
  where
    second : (p q : Bool) → (p || q) ≡ false → q ≡ false
    second true true e = e
    second true false e = refl
    second false q e = e

let_through : (most k : ℕ) (n : Option ℕ) (m : ℕ) → cond (eqb k 0 || ltb most k) None n ≡ Some m → (k ≤ most) × (n ≡ Some m)
let_through most k n m e = go (eqb k 0 || ltb most k) refl e
  where
    go : (t : Bool) → (eqb k 0 || ltb most k) ≡ t → cond t None n ≡ Some m → (k ≤ most) × (n ≡ Some m)
    go true b e = cc
    go false b e = (at_most most k b, e)

-- k digits of a base, whatever a digit is, after those that spelt n
module _ (base : ℕ) (digit : ℕ → ℕ) (spell : ℕ → List ℕ → Option ℕ) (ends : (n : ℕ) → spell n [] ≡ Some n)
    (goes : (n x : ℕ) (xs : List ℕ) → spell n (x ∷ xs) ≡ cond (ltb (digit x) base) (spell (n * base + digit x) xs) None) where
  widened : (n d : ℕ) → d < base → n * base + d + 1 ≤ (n + 1) * base
  widened n d l = omega arith

  grouped : (a k : ℕ) → a * base * base ^ k ≡ a * base ^ suc k
  grouped a k = mul_assoc a base (base ^ k) ∙ ap (λ (y : ℕ). a * y) (mul_comm base (base ^ k) ∙ sym (pow-suc base k))

  pub spelt_lt : (n : ℕ) (s : List ℕ) (m : ℕ) → spell n s ≡ Some m → m < (n + 1) * base ^ length s
  spelt_lt n [] m e = rw (pow-zero base) (let k : n ≡ m = same_Some n m (sym (ends n) ∙ e) in omega arith)
  spelt_lt n (x ∷ xs) m e = go (ltb (digit x) base) refl (sym (goes n x xs) ∙ e) (spelt_lt (n * base + digit x) xs m)
    where
      go : (t : Bool) → ltb (digit x) base ≡ t → cond t (spell (n * base + digit x) xs) None ≡ Some m
          → (spell (n * base + digit x) xs ≡ Some m → m < (n * base + digit x + 1) * base ^ length xs) → m < (n + 1) * base ^ suc (length xs)
      go true b e next = lt_of_lt_of_le (next e) (le_trans (mul-le-mul_right (base ^ length xs) (widened n (digit x) (ltb-true (digit x) base b))) (le_of_eq (grouped (n + 1) (length xs))))
      go false b e next = cc

-- 40 hex digits
hex_goes : (n x : ℕ) (xs : List ℕ) → hex_of n (x ∷ xs) ≡ cond (ltb (hex_digit_of x) 16) (hex_of (n * 16 + hex_digit_of x) xs) None
unfolding hex_of
hex_goes n x xs = refl

hex_ends : (n : ℕ) → hex_of n [] ≡ Some n
unfolding hex_of
hex_ends n = refl

pub hex_lt : (s : List ℕ) (m : ℕ) → length s ≤ 40 → hex_of 0 s ≡ Some m → m < 2 ^ 160
hex_lt s m h e = lt_of_lt_of_le (spelt_lt 16 hex_digit_of hex_of hex_ends hex_goes 0 s m e) (le_trans (le_of_eq (one-mul (16 ^ length s))) (le_trans (pow-le-pow_right (lit≤ tt) h) (lit≤ tt)))

-- six decimal digits
spell_goes : (n x : ℕ) (xs : List ℕ) → spell_of 10 n (x ∷ xs) ≡ cond (ltb (digit_of x) 10) (spell_of 10 (n * 10 + digit_of x) xs) None
unfolding spell_of
spell_goes n x xs = refl

spell_ends : (n : ℕ) → spell_of 10 n [] ≡ Some n
unfolding spell_of
spell_ends n = refl

pub power_lt : (s : List ℕ) (m : ℕ) → power_of s ≡ Some m → m < 1000000
unfolding power_of
power_lt s m e =
    let k = let_through 6 (length s) (spell_of 10 0 s) m e in
    lt_of_lt_of_le (spelt_lt 10 digit_of (spell_of 10) spell_ends spell_goes 0 s m k.1) (le_trans (le_of_eq (one-mul (10 ^ length s))) (le_trans (pow-le-pow_right (lit≤ tt) k.0) (lit≤ tt)))

pub mantissa_lt : (s : List ℕ) (m : ℕ) → mantissa_of s ≡ Some m → m < 2 ^ 160
unfolding mantissa_of
mantissa_lt s m e =
    let all = take (before 46 46 s) s ++ drop (before 46 46 s + 1) s in
    let k = let_through 40 (length all) (hex_of 0 all) m e in
    hex_lt all m k.0 k.1
