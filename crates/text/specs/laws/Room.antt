-- Room for bytes, by a difference. Assumes nothing.
use Rattle.std.specs.Prelude.{◌≡◌, refl, ℕ, ◌+◌, ◌-◌, ◌≤◌, ◌<◌, Bool, true, false, ltb}
use Rattle.std.proofs.Common.{sym, ◌∙◌, arith, lt-ltb, le-ltb, ltb-true, ltb-false}

-- what the test says
pub has : (t : Bool) (size at room : ℕ) → t ≡ ltb size (at + room) → t ≡ false → at + room ≤ size
has t size at room e f = ltb-false size (at + room) (sym e ∙ f)

pub has_not : (t : Bool) (size at room : ℕ) → t ≡ ltb size (at + room) → t ≡ true → size < at + room
has_not t size at room e f = ltb-true size (at + room) (sym e ∙ f)

-- the code's own test
module _ (size at room : ℕ) where
  pub too_small : size < room → true ≡ ltb size (at + room)
  too_small h = sym (lt-ltb size (at + room) (omega arith))

  pub beyond : room ≤ size → ltb (size - room) at ≡ ltb size (at + room)
  beyond h = by_test (ltb (size - room) at) refl where
    by_test : (t : Bool) → ltb (size - room) at ≡ t → t ≡ ltb size (at + room)
    by_test true e = let k = ltb-true (size - room) at e in sym (lt-ltb size (at + room) (omega arith))
    by_test false e = let k = ltb-false (size - room) at e in sym (le-ltb size (at + room) (omega arith))
