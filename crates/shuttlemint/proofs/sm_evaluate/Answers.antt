-- Two stores fill an `out` of two numbers, whatever stood there; another length is left as it is.
use mathlib.Core.Path.{◌≡◌, refl}
use mathlib.Core.List.{[], List, ◌∷◌}
use Prim.Native.Nat.{ℕ}
use native.Mathlib.Omega.{arith}
use borrow.Author.Tests.{eq-eqb, ne_eqb}
use lib.ListN.{length, set}
use Rattle.shuttlemint.specs.Face.{evaluate_refusal, evaluate_out}
use Rattle.shuttlemint.proofs.sm_evaluate.Goals as goal

both : (l : List ℕ) (x y : ℕ) → length l ≡ 2 → set (set l 0 x) 1 y ≡ x ∷ y ∷ []
both [] x y h = absurd (let z : ⊥ = omega arith in z)
both (a ∷ []) x y h = absurd (let z : ⊥ = omega arith in z)
both (a ∷ b ∷ []) x y h = refl
both (a ∷ b ∷ d ∷ l) x y h = absurd (let z : ⊥ = omega arith in z)

pub returns-then-out-ne2 : goal.returns-then-out-ne2
unfolding evaluate_refusal evaluate_out
returns-then-out-ne2 c = (rw (ne_eqb _ _ c.if-out-ne2.true), rw (ne_eqb _ _ c.if-out-ne2.true))

pub returns : goal.returns
unfolding evaluate_refusal evaluate_out
returns c =
    let h = c.if-out-ne2.false in (
      rw (eq-eqb _ _ h, c.read-z.ensures, c.evaluate.ensures),
      rw (eq-eqb _ _ h, both _ _ _ h, c.to_pattern-2.ensures, c.to_pattern.ensures, c.read-z.ensures, c.evaluate.ensures),
    )
