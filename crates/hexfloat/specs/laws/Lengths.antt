-- No spelling has more than 40 bytes. Assumes nothing.
use Rattle.std.specs.Prelude.{ℕ, zero, suc, ◌+◌, ◌-◌, ◌*◌, ◌%◌, ◌^◌, ◌≤◌, Bool, true, false, cond, not, ◌&&◌, List, [], ◌∷◌, ◌++◌, length, ltb, leb, eqb}
use Rattle.std.proofs.Common.{arith, length-append}
use Rattle.laws.specs.Ascii.{ascii}
use Rattle.text.specs.Text.{decimal, pattern}
use Rattle.text.specs.laws.Digits.{digits-length}
use Rattle.hexfloat.specs.Spelled.{field_of, fraction_of, sign_text, digits_text, lead_of, behind_text, exponent_text, size_text, spelled_of}

-- whichever of two texts it is
whichever : (t : Bool) (x y : List ℕ) (k : ℕ) → length x ≤ k → length y ≤ k → length (cond t x y) ≤ k
whichever true x y k h l = h
whichever false x y k h l = l

both : (x y : List ℕ) (j k : ℕ) → length x ≤ j → length y ≤ k → (n : ℕ) → j + k ≤ n → length (x ++ y) ≤ n
both x y j k h l n e = omega (arith, length-append x y)

digits_few : (k n : ℕ) → length (digits_text k n) ≤ k
unfolding digits_text
digits_few zero n = omega arith
digits_few (suc k) n = whichever (eqb n 0) _ _ (suc k) (omega arith) (omega (arith, digits_few k (n % 2 ^ 48 * 16)))

decimal_few : (n : ℕ) → length (decimal n) ≤ 20
unfolding decimal
decimal_few n = digits-length false 10 20 n

pattern_few : (n : ℕ) → length (pattern n) ≤ 16
unfolding pattern
pattern_few n = digits-length true 16 16 n

sign_most : (p : ℕ) → length (sign_text p) ≤ 1
unfolding sign_text
sign_most p = whichever (leb (2 ^ 63) p) _ _ 1 (omega arith) (omega arith)

behind-most : (f : ℕ) → length (behind_text f) ≤ 14
unfolding behind_text
behind-most f = whichever (eqb f 0) _ _ 14 (omega arith) (both (ascii ".") (digits_text 13 f) 1 13 (omega arith) (digits_few 13 f) 14 (omega arith))

exponent_most : (e f : ℕ) → length (exponent_text e f) ≤ 22
unfolding exponent_text
exponent_most e f =
    whichever (eqb e 0 && eqb f 0) _ _ 22 (omega arith)
    (whichever (eqb e 0) _ _ 22 (omega arith)
    (whichever (ltb e 1023) _ _ 22
    (both (ascii "p-") (decimal (1023 - e)) 2 20 (omega arith) (decimal_few (1023 - e)) 22 (omega arith))
    (both (ascii "p+") (decimal (e - 1023)) 2 20 (omega arith) (decimal_few (e - 1023)) 22 (omega arith))))

size-most : (e f : ℕ) → length (size_text e f) ≤ 39
unfolding size_text
size-most e f =
    whichever (eqb e 2047) _ _ 39 (omega arith)
    (both (ascii "0x") (lead_of e ∷ (behind_text f ++ exponent_text e f)) 2 37 (omega arith)
    (omega (arith, both (behind_text f) (exponent_text e f) 14 22 (behind-most f) (exponent_most e f) 36 (omega arith))) 39 (omega arith))

spelled_few : (p : ℕ) → length (spelled_of p) ≤ 40
unfolding spelled_of
spelled_few p =
    whichever (eqb (field_of p) 2047 && not (eqb (fraction_of p) 0)) _ _ 40
    (both (ascii "nan:") (pattern p) 4 16 (omega arith) (pattern_few p) 40 (omega arith))
    (both (sign_text p) (size_text (field_of p) (fraction_of p)) 1 39 (sign_most p) (size-most (field_of p) (fraction_of p)) 40 (omega arith))

-- with the byte after it
pub spelled_most : (p after : ℕ) → length (spelled_of p ++ (after ∷ [])) ≤ 41
spelled_most p after = both (spelled_of p) (after ∷ []) 40 1 (spelled_few p) (omega arith) 41 (omega arith)
