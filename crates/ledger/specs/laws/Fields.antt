-- Laws of numbers in bytes: what is written is read back, and two parts are the first and then the second. Assumes nothing.
use Rattle.std.specs.Prelude.{◌≡◌, refl, List, [], ◌∷◌, ◌++◌, ℕ, zero, suc, ◌+◌, ◌*◌, ◌/◌, ◌^◌, ◌≤◌, ◌<◌, length, take, drop}
use Rattle.std.proofs.Common.{ap, ◌∙◌, sym, append_assoc, div-lt_iff_lt-mul, mul-suc, mul-zero, add_comm, pow-suc, mul_comm, mul_assoc, arith, le-leb, length-append}
use Rattle.std.proofs.Math.Nat.{mod-add-div}
use Rattle.std.proofs.lemmas.Bool.{lt-leb}
use Rattle.ledger.specs.Bytes.{bytes, number, fields, read, pattern_at}

-- ---- lengths
pub length-bytes : (k n : ℕ) → length (bytes k n) ≡ k
unfolding bytes
length-bytes zero n = refl
length-bytes (suc k) n = ap suc (length-bytes k (n / 256))

pub length_fields : (w : ℕ) (xs : List ℕ) → length (fields w xs) ≡ w * length xs
unfolding fields
length_fields w [] = sym (mul-zero w)
length_fields w (x ∷ xs) = rw (length-append, length-bytes w x, length_fields w xs) (add_comm w (w * length xs) ∙ sym (mul-suc w (length xs)))

pub length-read : (w n : ℕ) (s : List ℕ) → length (read w n s) ≡ n
unfolding read
length-read w zero s = refl
length-read w (suc n) s = ap suc (length-read w n (drop w s))

-- ---- what is written is read back
pub number-bytes : (k n : ℕ) → n < 256 ^ k → number (bytes k n) ≡ n
unfolding bytes number
number-bytes zero n h = omega arith
number-bytes (suc k) n h =
    rw (number-bytes k (n / 256) ((div-lt_iff_lt-mul {k = 256} (omega arith)).1 (rw (← pow-suc 256 k) h))) (mod-add-div n 256)

-- ---- two parts are the first and then the second
pub fields-append : (w : ℕ) (xs ys : List ℕ) → fields w (xs ++ ys) ≡ fields w xs ++ fields w ys
unfolding fields
fields-append w [] ys = refl
fields-append w (x ∷ xs) ys = rw (fields-append w xs ys) (sym (append_assoc (bytes w x) (fields w xs) (fields w ys)))

pub number_append : (p q : List ℕ) → number (p ++ q) ≡ number p + 256 ^ length p * number q
unfolding number
number_append [] q = omega arith
number_append (b ∷ p) q =
    rw (number_append p q, pow-suc 256 (length p), mul_comm (256 ^ length p) 256, mul_assoc 256 (256 ^ length p) (number q)) (omega arith)

-- all of a list written anew

-- ---- eight bytes from a place on
module _ (s : List ℕ) (at : ℕ) where
  pub pattern_there : at + 8 ≤ length s → pattern_at s at ≡ number (take 8 (drop at s))
  unfolding pattern_at
  pattern_there h = rw (le-leb _ _ h)

  pub pattern-none : length s < at + 8 → pattern_at s at ≡ 0
  unfolding pattern_at
  pattern-none h = rw (lt-leb _ _ h)
