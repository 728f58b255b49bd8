-- The rounds of every function, by its number (02, [3]): at most 4,224, and none but for the functions 4 to 6. Assumes nothing.
use Rattle.std.specs.Prelude.{◌≡◌, false, ℕ, ◌≤◌, ◌<◌, leb, eqb}
use Rattle.std.proofs.Common.{ap, le_trans, arith, leb-true, leb-false, lit≤}
use Rattle.std.proofs.lemmas.Bool.{eqb-false}
use Rattle.laws.specs.Arithmetic.{float}
use Rattle.answer.specs.Numbers.{last}
use Rattle.answer.specs.declared.Counted.{Counted}
use Rattle.answer.specs.laws.Fair.{rung}
use Rattle.counted.specs.laws.Asked.{asked, failed}
use Rattle.counted.specs.laws.Ellippi.{ellippi_few}
use Rattle.counted.specs.laws.Ellipeinc.{ellipeinc_few}
use Rattle.counted.specs.laws.Ellipf.{ellipf_few}
use Rattle.sheet.specs.Functions.{counted_of}
use Rattle.sheet.specs.laws.Evaluated.{counted-beyond}

pub counted_few : (f a b c : ℕ) → (counted_of f a b c).rounds ≤ 4224
unfolding counted_of
counted_few f a b c =
    rung Few (eqb f 0) _ _ none
    (rung Few (eqb f 1) _ _ none
    (rung Few (eqb f 2) _ _ none
    (rung Few (eqb f 3) _ _ none
    (rung Few (eqb f 4) _ _ (ellippi_few (float a) (float b))
    (rung Few (eqb f 5) _ _ (le_trans (ellipeinc_few (float a) (float b)) (lit≤ tt))
    (rung Few (eqb f 6) _ _ (le_trans (ellipf_few (float a) (float b)) (lit≤ tt)) none))))))
  where
    Few : Counted → Type 0
    Few c = c.rounds ≤ 4224

    none : 0 ≤ 4224
    none = omega arith

pub counted_asked : (f a b c : ℕ) → 0 < (counted_of f a b c).rounds → (4 ≤ f) × (f ≤ last)
unfolding counted_of
counted_asked f a b c h =
    let k0 = asked (eqb f 0) _ _ h in
    let k1 = asked (eqb f 1) _ _ k0.1 in
    let k2 = asked (eqb f 2) _ _ k1.1 in
    let k3 = asked (eqb f 3) _ _ k2.1 in (
      above (eqb-false f 0 k0.0) (eqb-false f 1 k1.0) (eqb-false f 2 k2.0) (eqb-false f 3 k3.0),
      at_most (failed (leb 7 f) h (λ e. ap (λ (r : Counted). r.rounds) (counted-beyond f a b c (leb-true 7 f e)))),
    )
  where
    above : (f ≡ 0 → ⊥) → (f ≡ 1 → ⊥) → (f ≡ 2 → ⊥) → (f ≡ 3 → ⊥) → 4 ≤ f
    above a b c d = omega arith

    at_most : leb 7 f ≡ false → f ≤ 6
    at_most e = let l = leb-false 7 f e in omega arith
