-- Pieces of text: one put byte by byte, and how long three numbers are. Assumes nothing.
use Rattle.std.specs.Prelude.{◌≡◌, ℕ, ◌+◌, ◌≤◌, ◌<◌, List, [], ◌∷◌, ◌++◌, length, take, set, get_or}
use Rattle.std.proofs.Common.{add-one, arith, length-append, take-suc}
use Rattle.text.specs.Text.{three}
use Rattle.text.specs.Writing.{Put}
use Rattle.text.specs.laws.Digits.{field-most}
use Rattle.text.specs.laws.Writing.{put_one, put_both}

-- one more byte of a text
pub put_next : (old out text : List ℕ) (a i : ℕ) → i < length text → a + i < length out → length out ≡ length old → Put old out a (a + i) (take i text)
    → Put old (set out (a + i) (get_or text i 0)) a (a + (i + 1)) (take (i + 1) text)
put_next old out text a i h k e p =
    let f : a + (i + 1) ≡ a + i + 1 = omega arith in
    let g : take (i + 1) text ≡ take i text ++ (get_or text i 0 ∷ []) = rw add-one (take-suc text i 0 h) in
    rw (f, g) (put_both old a (take i text) (get_or text i 0 ∷ []) (omega arith) p (put_one out (a + i) (get_or text i 0) k))

-- three numbers have at most 63 bytes
pub three-most : (a b c after : ℕ) → length (three a b c ++ (after ∷ [])) ≤ 63
unfolding three
three-most a b c after = simp length-append (omega (arith, simp length-append at (field-most a 0), simp length-append at (field-most b 0), simp length-append at (field-most c 0)))
