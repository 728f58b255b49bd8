-- How writes into a list lie beside each other. Assumes nothing.
use Rattle.std.specs.Prelude.{◌≡◌, List, ◌++◌, ℕ, ◌+◌, ◌≤◌, length, take, drop}
use Rattle.std.proofs.Common.{◌∙◌, sym, append_assoc, append-nil, zero-add, arith, length-append, length-take, length-drop, drop_of_length-le, take_at, drop-drop, length-take-le}
use Rattle.std.proofs.Math.Seq.{take-append-add, drop-append-add}
use Rattle.laws.specs.Splice.{splice}

-- ---- past a part whose length is known
pub take_past : (p q : List ℕ) (m n : ℕ) → length p ≡ m → take (m + n) (p ++ q) ≡ p ++ take n q
take_past p q m n e = rw (← e) (take-append-add p q n)

pub drop_past : (p q : List ℕ) (m n : ℕ) → length p ≡ m → drop (m + n) (p ++ q) ≡ drop n q
drop_past p q m n e = rw (← e) (drop-append-add p q n)

-- ---- what was written over
pub length-splice : (l : List ℕ) (at : ℕ) (x : List ℕ) → at + length x ≤ length l → length (splice l at x) ≡ length l
length-splice l at x h = simp (length-append, length-drop, length-take) (omega arith)

pub splice-two : (l : List ℕ) (at : ℕ) (x y : List ℕ) (n : ℕ) → length x ≡ n → at + n + length y ≤ length l
    → splice (splice l at x) (at + n) y ≡ splice l at (x ++ y)
splice-two l at x y n e h =
    let P = take at l in
    let R = drop (at + length x) l in
    let t : length (take at l) ≡ at = length-take-le at l (omega arith) in
    let p : length (take at l ++ x) ≡ at + n = simp length-append (omega arith) in
    let a : P ++ (x ++ R) ≡ (P ++ x) ++ R = sym (append_assoc P x R) in
    let k : take (at + n) (P ++ (x ++ R)) ≡ P ++ x = rw a (take_at (P ++ x) R (at + n) p) in
    let d : drop (at + n + length y) (P ++ (x ++ R)) ≡ drop (at + length x + length y) l =
    rw a (drop_past (P ++ x) R (at + n) (length y) p ∙ drop-drop (length y) (at + length x) l) in
    let f : at + length (x ++ y) ≡ at + length x + length y = simp length-append (omega arith) in
    rw (k, d, f) (simp append_assoc)

pub splice_all : (l x : List ℕ) → length x ≡ length l → splice l 0 x ≡ x
splice_all l x e = rw (zero-add (length x), drop_of_length-le l {i = length x} (omega arith), append-nil)
