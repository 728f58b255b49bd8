-- Pieces that stand in the buffer, one after the other. Assumes nothing.
use Prim.Native.Nat.{ℕ, ◌+◌, ◌≤◌}
use mathlib.Core.List.{List, ◌++◌}
use native.Mathlib.Omega.{arith}
use lib.ListN.{length}
use Rattle.text.specs.Writing.{Put, Puts}
use Rattle.text.specs.laws.Writing.{put_both, placed}

-- words, where there is room for so many
pub words_put : (s : List ℕ) (a most : ℕ) (x : List ℕ) {t : List ℕ} {b : ℕ} → length x ≤ most → a + most ≤ length s → Puts s t a b (length x) x → Put s t a b x × (b ≤ a + most)
words_put s a most x h l p =
    let q = placed s a (length x) (length x) x (let z : length x ≤ length x = omega arith in z) (let z : length x ≤ length x = omega arith in z) (omega arith) p in
    (q.0, omega (arith, q.1))

-- two pieces of at most m and n bytes
pub two_put : (s : List ℕ) (a m n : ℕ) (x y : List ℕ) {t u : List ℕ} {b c : ℕ} → a + m + n ≤ length s → Put s t a b x → b ≤ a + m → Put t u b c y → c ≤ b + n → Put s u a c (x ++ y) × (c ≤ a + (m + n))
two_put s a m n x y h p k q l = (put_both s a x y (omega arith) p q, omega arith)
