-- A class and its number. Assumes nothing.
use lib.ListN.{get_or-eq_default}
use Rattle.std.proofs.lemmas.Bool.{false≢true}
use borrow.Author.Tests.{leb-true, leb-false}
use Rattle.std.specs.Prelude.{◌≡◌, ℕ, zero, suc, ◌≤◌, ◌<◌, Option, Some, None, Bool, true, false, leb, is_some}
use Rattle.std.proofs.Common.{refl, ap, sym, ◌∙◌, arith}
use Rattle.ledger.specs.declared.row.Class.{Class}
use Rattle.ledger.specs.declared.row.Class.TheVariants.{Blank, Finite, PlusInfinity, MinusInfinity, Refused}
use Rattle.ledger.specs.Class.{number_of, classes, class_at, class_number}

-- each number up to 5 is that of its class
pub numbered : (k : ℕ) → k ≤ 5 → class_number (class_at k) ≡ k
unfolding class_number number_of class_at
numbered zero h = refl
numbered (suc zero) h = refl
numbered (suc (suc zero)) h = refl
numbered (suc (suc (suc zero))) h = refl
numbered (suc (suc (suc (suc zero)))) h = refl
numbered (suc (suc (suc (suc (suc zero))))) h = refl
numbered (suc (suc (suc (suc (suc (suc k)))))) h = absurd (omega arith)

-- each number below 5 has a class, and each class a number below 5
pub a_class : (k : ℕ) → k < 5 → (c : Class) × (class_at k ≡ Some c)
unfolding class_at
a_class zero h = (Blank, refl)
a_class (suc zero) h = (Finite, refl)
a_class (suc (suc zero)) h = (PlusInfinity, refl)
a_class (suc (suc (suc zero))) h = (MinusInfinity, refl)
a_class (suc (suc (suc (suc zero)))) h = (Refused, refl)
a_class (suc (suc (suc (suc (suc k))))) h = absurd (omega arith)

pub number_small : (c : Class) → number_of c < 5
unfolding number_of
number_small Blank = omega arith
number_small Finite = omega arith
number_small PlusInfinity = omega arith
number_small MinusInfinity = omega arith
number_small Refused = omega arith

-- a class has one number, and so one place
named : (o : Option Class) (c : Class) → o ≡ Some c → number_of c ≡ class_number o
unfolding class_number
named o c e = ap class_number (sym e)

none_not_some : (c : Class) → None ≡ Some c → ⊥
none_not_some c e = false≢true (ap is_some e)

above : (k : ℕ) → 5 ≤ k → class_at k ≡ None
unfolding class_at
above k h = get_or-eq_default classes None {n = k} h

pub class_back : (k : ℕ) (c : Class) → class_at k ≡ Some c → number_of c ≡ k
class_back k c e = go (leb k 5) refl
  where
    go : (b : Bool) → leb k 5 ≡ b → number_of c ≡ k
    go true h = named (class_at k) c e ∙ numbered k (leb-true _ _ h)
    go false h = absurd (none_not_some c (sym (above k (omega (arith, leb-false _ _ h))) ∙ e))

pub finite : (k : ℕ) → class_at k ≡ Some Finite → k ≡ 1
unfolding number_of
finite k e = sym (class_back k Finite e)
