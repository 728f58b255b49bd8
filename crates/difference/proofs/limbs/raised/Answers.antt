-- Only the highest limb changes: it is above or below the middle.
use Rattle.std.proofs.Common.{◌≡◌, ℕ, set, subst, arith}
use borrow.Author.Rules.{elem_Fits}
use mir.Syntax.{w64}
use Rattle.total.specs.Total.{val}
use Rattle.total.specs.laws.Limbs.{val-lt}
use Rattle.difference.specs.Limbs.{raised_of}
use Rattle.difference.proofs.Borrowing.{raise}
use Rattle.difference.proofs.limbs.raised.Goals as goal

pub returns : goal.returns
returns c =
    let l = c.args.limbs in
    let g = c.well_formed.0 in
    let e = g.1.0.1 in
    (subst (λ (top : ℕ). val (set l 33 top) ≡ raised_of (val l)) (grind arith) (raise l e (λ i. (elem_Fits w64 w64 l g.0 i g.1.1 tt).fits)), val-lt l e (λ i. (elem_Fits w64 w64 l g.0 i g.1.1 tt).fits))
