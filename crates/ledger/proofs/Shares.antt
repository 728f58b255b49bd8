-- What the tests on a row's bytes and on its first answer tell. Assumes nothing.
use mathlib.Core.Path.{◌≡◌, refl, ap, ◌∙◌, sym}
use mathlib.Core.Bool.{true, false, not, false≢true}
use Prim.Native.Nat.{ℕ, ◌≤◌, ◌<◌}
use borrow.Author.Tests.{eq-eqb, ne_eqb, lt-ltb, le-ltb, le-leb, lt-leb}
use lib.ListN.{length}
use lib.Ieee.{Float, nan, inf, fin, eq, ne, is_nan, of_bits}
use Rattle.laws.specs.Arithmetic.{+0, +∞, -∞}
use Rattle.laws.specs.laws.Kinds.{nan_of_lem}
use Rattle.answer.specs.Numbers.{last, stored}
use Rattle.std.specs.Prelude.{Option, Some, None, IsSome, is_some}
use Rattle.ledger.specs.declared.row.Class.{Class}
use Rattle.ledger.specs.declared.row.Class.TheVariants.{Finite}
use Rattle.ledger.specs.Class.{number_of, class_at}
use Rattle.ledger.specs.declared.row.Share.{Share}
use Rattle.ledger.specs.laws.Classes.{finite, a_class, class_back}
use Rattle.ledger.specs.laws.Refusals.{class-lt}
use Rattle.ledger.specs.Sheet.{Row, function_in, refusal_in, times_in, first_in, sound_of, sound, kind_of, class_of, value_of}
use Rattle.ledger.specs.Calls.{share_of}

-- ---- the kind of a value
pub kind_nan : (x : Float) → ne x x ≡ true → 5 ≡ kind_of x
unfolding kind_of
kind_nan x h = sym (ap kind_of (nan_of_lem x h))

pub kind_plus : (x : Float) → eq x +∞ ≡ true → 2 ≡ kind_of x
unfolding eq of_bits kind_of
kind_plus nan h = absurd (false≢true h)
kind_plus (inf true) h = absurd (false≢true h)
kind_plus (inf false) h = refl
kind_plus (fin s m e) h = absurd (false≢true h)

pub kind_minus : (x : Float) → eq x -∞ ≡ true → 3 ≡ kind_of x
unfolding eq of_bits kind_of
kind_minus nan h = absurd (false≢true h)
kind_minus (inf true) h = refl
kind_minus (inf false) h = absurd (false≢true h)
kind_minus (fin s m e) h = absurd (false≢true h)

pub kind_finite : (x : Float) → ne x x ≡ false → eq x +∞ ≡ false → eq x -∞ ≡ false → 1 ≡ kind_of x
unfolding eq ne of_bits kind_of
kind_finite nan h p q = absurd (false≢true (sym h))
kind_finite (inf true) h p q = absurd (false≢true (sym q))
kind_finite (inf false) h p q = absurd (false≢true (sym p))
kind_finite (fin s m e) h p q = refl

pub eq_self : (x : Float) → eq x x ≡ not (is_nan x)
unfolding eq is_nan
eq_self nan = refl
eq_self (inf true) = refl
eq_self (inf false) = refl
eq_self (fin true m e) = rw (eq-eqb _ _ refl)
eq_self (fin false m e) = rw (eq-eqb _ _ refl)

-- ---- a row's class
module _ (w : Row) where
  pub class_blank : function_in w ≡ 0 → 0 ≡ class_of w
  unfolding class_of
  class_blank h = rw (eq-eqb _ _ h) refl

  module _ (h : function_in w ≡ 0 → ⊥) where
    pub class_refused : 0 < refusal_in w → 4 ≡ class_of w
    unfolding class_of
    class_refused g = rw (ne_eqb _ _ h, lt-ltb _ _ g) refl

    pub class_kind : refusal_in w ≤ 0 → kind_of (first_in w) ≡ class_of w
    unfolding class_of
    class_kind g = rw (ne_eqb _ _ h, le-ltb _ _ g) refl

-- ---- its value
module _ (w : Row) (c : Option Class) (e : c ≡ class_at (class_of w)) where
  pub value_finite : c ≡ Some Finite → first_in w ≡ value_of w
  unfolding value_of
  value_finite h = rw (eq-eqb (class_of w) 1 (finite (class_of w) (sym e ∙ h))) refl

  pub value_none : (c ≡ Some Finite → ⊥) → +0 ≡ value_of w
  unfolding value_of class_at
  value_none n = rw (ne_eqb (class_of w) 1 (λ z. n (e ∙ ap class_at z))) refl

-- ---- and as one record, for any bytes: no row, or a row's 48
pub no_row : (w : Row) → (length w ≡ 48 → ⊥) → record { class = None; value = +0; times = 0 } ≡ share_of w
unfolding share_of
no_row w h = rw (ne_eqb (length w) 48 h)

whole : (w : Row) → length w ≡ 48 → record { class = class_at (class_of w); value = value_of w; times = times_in w } ≡ share_of w
unfolding share_of
whole w h = rw (eq-eqb (length w) 48 h) refl

pub a-row : (w v : Row) (c : Option Class) (x : Float) (k : ℕ) → length w ≡ 48 → v ≡ w → c ≡ class_at (class_of v) → x ≡ value_of v → k ≡ times_in v
    → record { class = c; value = x; times = k } ≡ share_of w
a-row w v c x k h d ec ex ek = (λ i. record { class = ec i; value = ex i; times = ek i }) ∙ (λ i. record { class = class_at (class_of (d i)); value = value_of (d i); times = times_in (d i) }) ∙ whole w h

pub shared : (w : Row) → length w ≡ 48 → (r : Share) → r ≡ share_of w → (r.class ≡ class_at (class_of w)) × (r.value ≡ value_of w) × (r.times ≡ times_in w)
shared w h r e = let k = e ∙ sym (whole w h) in (λ i. (k i).class, λ i. (k i).value, λ i. (k i).times)

-- ---- a sound row has a class
module _ (w : Row) (h : sound w ≡ true) (o : Option Class) (e : o ≡ class_at (class_of w)) where
  pub has_class : IsSome o
  has_class = ap is_some (e ∙ (a_class (class_of w) (class-lt w h)).1)

  pub its_number : (c : Class) → o ≡ Some c → number_of c ≡ class_of w
  its_number c d = class_back (class_of w) c (sym e ∙ d)

-- ---- the row tests, one by one
module _ (f q : ℕ) (x : Float) where
  pub unsound_function : last < f → false ≡ sound_of f q x
  unfolding sound_of
  unsound_function h = rw (lt-leb _ _ h)

  module _ (h : f ≤ last) where
    pub unsound_refusal : stored q ≡ false → false ≡ sound_of f q x
    unfolding sound_of
    unsound_refusal g = rw (le-leb _ _ h, g)

    pub sound-first : stored q ≡ true → eq x x ≡ sound_of f q x
    unfolding sound_of
    sound-first g = rw (le-leb _ _ h, g) (eq_self x)
