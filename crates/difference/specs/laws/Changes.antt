-- No row differs exactly where all rows agree. Assumes nothing.
use Rattle.std.specs.Prelude.{◌≡◌, refl, Bool, true, false, cond, List, [], ◌∷◌, ℕ, zero, suc, ◌+◌, ◌<◌, eqb}
use Rattle.std.proofs.Common.{ap, ◌∙◌, sym, inl, inr, eq-or-lt_of_le, le_of_suc-le-suc, not-suc-le-zero, arith, eqb-true, eq-eqb}
use Rattle.laws.specs.laws.Flags.{both_true}
use Rattle.ledger.specs.Calls.{equal, read_of}
use Rattle.difference.specs.Difference.{agree, changes}

-- ---- equal lists are the same
pub equal_is : (a b : List ℕ) → equal a b ≡ true → a ≡ b
unfolding equal
equal_is [] [] h = refl
equal_is [] (y ∷ ys) h = cc
equal_is (x ∷ xs) [] h = cc
equal_is (x ∷ xs) (y ∷ ys) h = let k = both_true (eqb x y) (equal xs ys) h in (λ i. eqb-true x y k.0 i ∷ equal_is xs ys k.1 i)

pub equal_self : (a : List ℕ) → equal a a ≡ true
unfolding equal
equal_self [] = refl
equal_self (x ∷ xs) = rw (eq-eqb x x refl) (equal_self xs)

-- ---- rows
pub none_more : (b : Bool) (n : ℕ) → n + cond b 0 1 ≡ 0 → (n ≡ 0) × (b ≡ true)
none_more true n h = (omega arith, refl)
none_more false n h = absurd (omega arith)

pub none_differ : (s t : List ℕ) (r : ℕ) → changes s t r ≡ 0 → (i : ℕ) → i < r → read_of s i ≡ read_of t i
unfolding changes agree
none_differ s t zero h i l = absurd (not-suc-le-zero l)
none_differ s t (suc r) h i l =
    let k = none_more (agree s t r) (changes s t r) h in
    elim (eq-or-lt_of_le (le_of_suc-le-suc l)) [
      | inl e ↦ ap (read_of s) e ∙ equal_is (read_of s r) (read_of t r) k.1 ∙ sym (ap (read_of t) e)
      | inr g ↦ none_differ s t r k.0 i g
    ]

pub all-agree : (s t : List ℕ) (r : ℕ) → ((i : ℕ) → i < r → read_of s i ≡ read_of t i) → changes s t r ≡ 0
unfolding changes agree
all-agree s t zero h = refl
all-agree s t (suc r) h =
    let e : agree s t r ≡ true = ap (equal (read_of s r)) (sym (h r (omega arith))) ∙ equal_self (read_of s r) in
    rw (e, all-agree s t r (λ i l. h i (let g : i < suc r = omega arith in g))) refl
