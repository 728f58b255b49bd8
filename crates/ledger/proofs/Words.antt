-- Numbers read and written as the library does, and a run of them written one after the other. Assumes nothing.
use mathlib.Core.Path.{◌≡◌, refl, ap, ◌∙◌, sym}
use mathlib.Core.List.{List, [], ◌∷◌, ◌++◌, append_assoc, append-nil}
use Prim.Native.Nat.{ℕ, zero, suc, ◌+◌, ◌-◌, ◌*◌, ◌/◌, ◌%◌, ◌^◌, ◌≤◌, ◌<◌}
use native.Mathlib.Nat.{div-div-eq-div-mul, mul-suc, mul-le-mul_left, le_of_lt, pow-suc, div-one}
use native.Mathlib.Numerals.{add-one}
use native.Mathlib.Omega.{arith}
use lib.ListN.{length, take, drop, get_or, length-drop, drop_of_length-le}
use lib.Seq.{take-suc, take_all, drop-drop, take_at, length-take-le}
use borrow.Rule.Slice.PartMut.{put_mid, Post-is}
use Rattle.std.specs.Int.{w16, w32, w64, from_le_bytes, to_le_bytes, byte_worth, byte_at, bytes_low_first, sum_through}
use Rattle.laws.specs.Splice.{splice}
use Rattle.ledger.specs.Bytes.{bytes, number, fields}
use Rattle.laws.specs.laws.Splices.{drop_past}
use Rattle.ledger.specs.laws.Fields.{length-bytes, length_fields, fields-append}

-- ---- reads
number-next : (k : ℕ) (l : List ℕ) → number (take (suc k) l) ≡ number (take k l) + get_or l k 0 * 256 ^ k
unfolding number
number-next zero [] = refl
number-next zero (x ∷ l) = omega arith
number-next (suc k) [] = omega arith
number-next (suc k) (x ∷ l) = rw (number-next k l, pow-suc 256 k) (omega arith)

up_to : (k : ℕ) (l : List ℕ) → sum_through (λ i. byte_worth i (get_or l i 0)) k ≡ number (take (suc k) l)
unfolding number
up_to zero [] = refl
up_to zero (x ∷ l) = omega arith
up_to (suc k) l = rw (up_to k l, number-next (suc k) l) refl

-- two, four and eight bytes of a part, as the number that stands there
module _ (s : List ℕ) (at : ℕ) (l : List ℕ) (n : ℕ) where
  long : (w : ℕ) → at + w ≤ length s → l ≡ take w (drop at s) → length l ≡ w
  long w h d = ap length d ∙ length-take-le w (drop at s) (rw (length-drop at s) (omega (arith, h)))

  pub part_2 : at + 2 ≤ length s → l ≡ take 2 (drop at s) → n ≡ from_le_bytes w16 l → n ≡ number (take 2 (drop at s))
  part_2 h d e = e ∙ up_to 1 l ∙ ap number (take_all 2 l (omega (arith, long 2 h d)) ∙ d)

  pub part_4 : at + 4 ≤ length s → l ≡ take 4 (drop at s) → n ≡ from_le_bytes w32 l → n ≡ number (take 4 (drop at s))
  part_4 h d e = e ∙ up_to 3 l ∙ ap number (take_all 4 l (omega (arith, long 4 h d)) ∙ d)

  pub part_8 : at + 8 ≤ length s → l ≡ take 8 (drop at s) → n ≡ from_le_bytes w64 l → n ≡ number (take 8 (drop at s))
  part_8 h d e = e ∙ up_to 7 l ∙ ap number (take_all 8 l (omega (arith, long 8 h d)) ∙ d)

-- ---- writes
one-byte : (i n : ℕ) → byte_at i n ≡ n / 256 ^ i % 256
one-byte zero n = rw (div-one n)
one-byte (suc i) n = refl

from_byte : (k i n : ℕ) → bytes_low_first i k n ≡ bytes k (n / 256 ^ i)
unfolding bytes
from_byte zero i n = refl
from_byte (suc k) i n = rw (one-byte i n, from_byte k (suc i) n, pow-suc 256 i, div-div-eq-div-mul n (256 ^ i) 256)

pub write_4 : (n : ℕ) → to_le_bytes w32 n ≡ bytes 4 n
write_4 n = from_byte 4 0 n ∙ ap (bytes 4) (div-one n)

pub write_8 : (n : ℕ) → to_le_bytes w64 n ≡ bytes 8 n
write_8 n = from_byte 8 0 n ∙ ap (bytes 8) (div-one n)

-- ---- a run of numbers of w bytes each: after i of them, those lie at the start and the rest is as it was
abbrev pub Written : ℕ → List ℕ → List ℕ → ℕ → List ℕ → Type 0
Written w s₀ xs i s = s ≡ fields w (take i xs) ++ drop (w * i) s₀

one : (w x : ℕ) → fields w (x ∷ []) ≡ bytes w x
unfolding fields
one w x = append-nil (bytes w x)

module _ (w : ℕ) (s₀ xs : List ℕ) (e : length s₀ ≡ w * length xs) where
  length-first : (i : ℕ) → i ≤ length xs → length (fields w (take i xs)) ≡ w * i
  length-first i h = length_fields w (take i xs) ∙ ap (λ (n : ℕ). w * n) (length-take-le i xs h)

  pub write_next : (i : ℕ) (s : List ℕ) → i < length xs → Written w s₀ xs i s → Written w s₀ xs (i + 1) (splice s (w * i) (bytes w (get_or xs i 0)))
  write_next i s h v =
      let F = fields w (take i xs) in
      let D = drop (w * i) s₀ in
      let b = bytes w (get_or xs i 0) in
      let l : length F ≡ w * i = length-first i (le_of_lt h) in
      let d : drop (w * i + length b) (F ++ D) ≡ drop (w * (i + 1)) s₀ =
      ap (λ (n : ℕ). drop (w * i + n) (F ++ D)) (length-bytes w (get_or xs i 0)) ∙ drop_past F D (w * i) w l ∙ drop-drop w (w * i) s₀ ∙ ap (λ (n : ℕ). drop n s₀) (sym (mul-suc w i) ∙ ap (λ (n : ℕ). w * n) (sym (add-one i))) in
      let f : fields w (take (i + 1) xs) ≡ F ++ b =
      ap (λ (n : ℕ). fields w (take n xs)) (add-one i) ∙ ap (fields w) (take-suc xs i 0 h) ∙ fields-append w (take i xs) (get_or xs i 0 ∷ []) ∙ ap (λ (t : List ℕ). F ++ t) (one w (get_or xs i 0)) in
      rw (v, take_at F D (w * i) l, d, f) (sym (append_assoc F b (drop (w * (i + 1)) s₀)))

  pub write_done : (i : ℕ) (s : List ℕ) → i ≤ length xs → length xs ≤ i → Written w s₀ xs i s → s ≡ fields w xs
  write_done i s h g v =
      let d : drop (w * i) s₀ ≡ [] = drop_of_length-le s₀ {i = w * i} (rw e (mul-le-mul_left w g)) in
      v ∙ rw (d, append-nil, take_all i xs g)

-- ---- a part that was lent is back
pub put_back : (l y : List ℕ) (a n : ℕ) → length y ≡ n → put_mid a (a + n - a) l y ≡ splice l a y
put_back l y a n e = rw (Post-is a (a + n) l (omega arith), e)

pub put_mid_lem : (l y : List ℕ) (a k : ℕ) → k ≡ length y → put_mid a k l y ≡ splice l a y
put_mid_lem l y a k e = rw (e, drop-drop (length y) a l)
