-- What infinite and NaN arguments do: the mean is infinite or NaN, so is every distance, and no quarter of it is below anything. The stop test is never met: refusal 5. Assumes nothing.
use Rattle.std.specs.Prelude.{◌≡◌, refl, ℕ, Bool, true, false, not, cond, ◌&&◌, T, eqb, ℤ, Float}
use Rattle.std.specs.Bool.{beq}
use Rattle.std.specs.Float.{nan, inf, fin}
use Rattle.std.specs.Float.Ieee.{add, sub, mul, div, neg, lt, of_bits, unlike}
use Rattle.std.specs.Float.Ieee.Scale.{finite}
use Rattle.laws.specs.Arithmetic.{◌⊕◌, ◌⊖◌, ◌⊗◌, ◌⊘◌, ◌<·◌, 4·0}
use Rattle.whole.specs.Whole.{magnitude_of}
use Rattle.carlson.specs.Loop.{iterate, duplicated}
use Rattle.carlson.specs.Series.{larger_of}
use Rattle.carlson.specs.laws.Duplication.{along}
use Rattle.carlson.specs.declared.Outcome.{Outcome}

-- ---- a sum, and its quotient, with an infinity or a NaN in it
abbrev pub Lost : Bool → Type 0
Lost b = T (not b)

pub lost_add : (x y : Float) → Lost (finite x && finite y) → Lost (finite (x ⊕ y))
unfolding add
lost_add nan y h = tt
lost_add (inf s) nan h = tt
lost_add (inf s) (inf t) h = either (beq s t)
  where
    either : (b : Bool) → Lost (finite (cond b (inf s) nan))
    either true = tt
    either false = tt
lost_add (inf s) (fin t n d) h = tt
lost_add (fin s m e) nan h = tt
lost_add (fin s m e) (inf t) h = tt
lost_add (fin s m e) (fin t n d) h = elim h [ ]

lost_sub : (x y : Float) → Lost (finite x) → Lost (finite (x ⊖ y))
unfolding sub
lost_sub x y h = lost_add x (neg y) (first (finite x) (finite (neg y)) h)
  where
    first : (a b : Bool) → Lost a → Lost (a && b)
    first false b h = tt
    first true b h = elim h [ ]

pub lost_mul : (x y : Float) → Lost (finite y) → Lost (finite (x ⊗ y))
unfolding mul
lost_mul nan y h = tt
lost_mul (inf s) nan h = tt
lost_mul (inf s) (inf t) h = tt
lost_mul (fin s m e) nan h = tt
lost_mul (fin s m e) (inf t) h = either (eqb m 0)
  where
    either : (b : Bool) → Lost (finite (cond b nan (inf (unlike s t))))
    either true = tt
    either false = tt
lost_mul (inf s) (fin _ _ _) h = elim h [ ]
lost_mul (fin s m e) (fin _ _ _) h = elim h [ ]

pub lost_div : (x : Float) (t : Bool) (n : ℕ) (d : ℤ) → Lost (finite x) → Lost (finite (x ⊘ fin t n d))
unfolding div
lost_div nan t n d h = tt
lost_div (inf s) t n d h = tt
lost_div (fin _ _ _) t n d h = elim h [ ]

-- one term in place of another
pub both : (p q r s : Bool) → (Lost p → Lost r) → (Lost q → Lost s) → Lost (p && q) → Lost (r && s)
both p q false s f g h = tt
both p q true false f g h = tt
both false q true true f g h = f tt
both true false true true f g h = g tt
both true true true true f g h = elim h [ ]

-- three terms
pub three : (x y z : Float) → Lost (finite x && finite y && finite z) → Lost (finite (x ⊕ y ⊕ z))
three x y z h = lost_add (x ⊕ y) z (both (finite x && finite y) (finite z) (finite (x ⊕ y)) (finite z) (lost_add x y) (λ l. l) h)

-- ---- a distance that is never below anything: +∞ or NaN
abbrev pub far : Float → Bool
far nan = true
far (inf s) = not s
far (fin s m e) = false

far_magnitude : (x : Float) → Lost (finite x) → T (far (magnitude_of x))
unfolding magnitude_of
far_magnitude nan h = tt
far_magnitude (inf s) h = tt
far_magnitude (fin _ _ _) h = elim h [ ]

pub far_larger : (a b : Float) → T (far a) → T (far b) → T (far (larger_of a b))
unfolding larger_of
far_larger a b h k = either (a <· b)
  where
    either : (t : Bool) → T (far (cond t b a))
    either true = k
    either false = h

pub far-quarter : (q : Float) → T (far q) → T (far (q ⊘ 4·0))
unfolding div of_bits
far-quarter nan h = tt
far-quarter (inf false) h = tt
far-quarter (inf true) h = elim h [ ]
far-quarter (fin _ _ _) h = elim h [ ]

pub far-below : (q z : Float) → T (far q) → (q <· z) ≡ false
unfolding lt
far-below nan z h = refl
far-below (inf false) nan h = refl
far-below (inf false) (inf t) h = refl
far-below (inf false) (fin t n d) h = refl
far-below (inf true) z h = elim h [ ]
far-below (fin _ _ _) z h = elim h [ ]

-- the distance between an infinite or NaN mean and any argument
pub far_apart : (mean x : Float) → Lost (finite mean) → T (far (magnitude_of (mean ⊖ x)))
far_apart mean x h = far_magnitude (mean ⊖ x) (lost_sub mean x h)

-- ---- the loop: what keeps an outcome from being met, and stays
module _ {S : Type 0} (stops : S → Bool) (round : S → S) (closed : S → ℕ → Outcome) (P : S → Type 0)
    (stays : (s : S) → P s → P (round s)) (ends : (s : S) (k : ℕ) → P s → (closed s k).met ≡ false) where
  pub unmet_from : (n k : ℕ) (b : Bool) (s : S) → P s → (iterate stops round closed n k b s).met ≡ false
  unmet_from = along stops round closed (λ s k. P s) (λ o. o.met ≡ false) (λ s k p. stays s p) ends

  pub unmet : (s : S) → P s → (duplicated stops round closed s).met ≡ false
  unfolding duplicated
  unmet s p = unmet_from 64 0 (stops s) s p
