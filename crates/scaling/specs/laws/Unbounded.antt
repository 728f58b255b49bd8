-- With an infinity or NaN for its second argument RF has the same mean too: that infinity, or NaN. Assumes nothing.
use Rattle.std.specs.Prelude.{◌≡◌, refl, Bool, true, false, not, cond, T, eqb, Float}
use Rattle.std.proofs.Common.{sym, ap, ◌∙◌}
use Rattle.std.specs.Float.{nan, inf, fin}
use Rattle.std.specs.Float.Ieee.{unlike, add, sub, neg, mul, div, of_bits}
use Rattle.std.specs.Float.Ieee.Scale.{finite}
use Rattle.laws.specs.Arithmetic.{◌⊕◌, ◌⊖◌, ◌⊗◌, ◌⊘◌, 1·0, 3·0, 4·0}
use Rattle.scaling.specs.Before.{Same}
use Rattle.scaling.specs.laws.Quarters.{same_mean}

-- ---- a sum of three with NaN, or with one infinity, in the middle
sum-nan : (x z : Float) → x ⊕ nan ⊕ z ≡ nan
unfolding add
sum-nan nan z = refl
sum-nan (inf s) z = refl
sum-nan (fin s m e) z = refl

sum-inf : (b : Bool) (x z : Float) → T (finite x) → T (finite z) → x ⊕ inf b ⊕ z ≡ inf b
unfolding add
sum-inf b (fin s m e) (fin t n d) h k = refl
sum-inf b nan z h k = elim h [ ]
sum-inf b (inf _) z h k = elim h [ ]
sum-inf b (fin s m e) nan h k = elim k [ ]
sum-inf b (fin s m e) (inf _) h k = elim k [ ]

-- it goes through the constants
inf_over : (b : Bool) → (inf b ⊘ 4·0 ≡ inf b) × (inf b ⊘ 3·0 ≡ inf b) × (4·0 ⊗ inf b ≡ inf b)
unfolding div mul of_bits
inf_over true = (refl, refl, refl)
inf_over false = (refl, refl, refl)

nan-times : 4·0 ⊗ nan ≡ nan
unfolding mul of_bits
nan-times = refl

nan_over : (y : Float) → nan ⊘ y ≡ nan
unfolding div
nan_over y = refl

pub unbounded_same : (x y z : Float) → T (finite x) → T (finite z) → T (finite (x ⊘ 4·0)) → T (finite (z ⊘ 4·0)) → T (not (finite y)) → Same x y z
unbounded_same x nan z fx fz gx gz h =
    same_mean x nan z
    (ap (λ (q : Float). 4·0 ⊗ ((x ⊘ 4·0 ⊕ q ⊕ z ⊘ 4·0) ⊘ 3·0)) (nan_over 4·0) ∙ ap (λ (s : Float). 4·0 ⊗ (s ⊘ 3·0)) (sum-nan (x ⊘ 4·0) (z ⊘ 4·0)) ∙ ap (λ (s : Float). 4·0 ⊗ s) (nan_over 3·0) ∙ nan-times
    ∙ sym (ap (λ (s : Float). s ⊘ 3·0) (sum-nan x z) ∙ nan_over 3·0))
unbounded_same x (inf b) z fx fz gx gz h =
    let o = inf_over b in
    same_mean x (inf b) z
    (ap (λ (q : Float). 4·0 ⊗ ((x ⊘ 4·0 ⊕ q ⊕ z ⊘ 4·0) ⊘ 3·0)) o.0 ∙ ap (λ (s : Float). 4·0 ⊗ (s ⊘ 3·0)) (sum-inf b (x ⊘ 4·0) (z ⊘ 4·0) gx gz) ∙ ap (λ (s : Float). 4·0 ⊗ s) o.1 ∙ o.2
    ∙ sym (ap (λ (s : Float). s ⊘ 3·0) (sum-inf b x z fx fz) ∙ o.1))
unbounded_same x (fin s m e) z fx fz gx gz h = absurd h

-- ---- an infinity or NaN stays one under a product with a finite number, and taken from 1
pub product_unbounded : (x y : Float) → T (not (finite x)) → T (finite y) → T (not (finite (x ⊗ y)))
unfolding mul
product_unbounded nan y h k = tt
product_unbounded (inf s) (fin t n d) h k = go (eqb n 0)
  where
    go : (b : Bool) → T (not (finite (cond b nan (inf (unlike s t)))))
    go true = tt
    go false = tt
product_unbounded (fin s m e) y h k = absurd h
product_unbounded (inf s) nan h k = elim k [ ]
product_unbounded (inf s) (inf _) h k = elim k [ ]

pub rest_unbounded : (y : Float) → T (not (finite y)) → T (not (finite (1·0 ⊖ y)))
unfolding sub neg add of_bits
rest_unbounded nan h = tt
rest_unbounded (inf s) h = tt
rest_unbounded (fin s m e) h = absurd h
