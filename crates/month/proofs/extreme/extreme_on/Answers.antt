-- One return for each rung of the definition.
use Rattle.std.proofs.Common.{◌≡◌, Bool, true, false, not, Option, Some, sym, refl, ap, ◌∙◌, eq-eqb, ne_eqb}
use Rattle.month.specs.declared.parts.Extreme.{Extreme}
use Rattle.month.specs.declared.parts.Share.{Share}
use Rattle.month.specs.Month.{stays, extreme_on}
use Rattle.month.proofs.extreme.extreme_on.Goals as goal
use Rattle.month.proofs.extreme.extreme_on.Goals.{in-Some+else-not-passes, in_default}

module _ (top : Bool) (e : Option Extreme) (h : Share) where
  other : (h.class ≡ 1 → ⊥) → e ≡ extreme_on top e h
  unfolding extreme_on
  other n = rw (ne_eqb h.class 1 n) refl

  module _ (c : h.class ≡ 1) where
    keeps : stays top e h.pattern ≡ true → e ≡ extreme_on top e h
    unfolding extreme_on
    keeps s = rw (eq-eqb h.class 1 c, s) refl

    takes : stays top e h.pattern ≡ false → Some (record { pattern = h.pattern; sheet = h.sheet; row = h.row }) ≡ extreme_on top e h
    unfolding extreme_on
    takes s = rw (eq-eqb h.class 1 c, s) refl

pub returns-then-share-ne-FINITE : goal.returns-then-share-ne-FINITE
returns-then-share-ne-FINITE g c = λ top f. other top c.args.extreme c.args.share c.if-share-ne-FINITE.true

pub returns-then-not-passes : goal.returns-then-not-passes
returns-then-not-passes g c = λ top f.
    rw (← c.in-Some.is)
    (keeps top c.args.extreme c.args.share c.if-share-ne-FINITE.false
    (ap (λ e. stays top e c.args.share.pattern) c.in-Some.is ∙ ap not (sym (f _ _ _ (rw (c.from_pattern.ensures, c.from_pattern-next.ensures) at c.passes.ensures)) ∙ c.if-not-passes.true)))

pub returns : goal.returns
returns g c = λ top f. elim c.match-extreme.branch [
  | in-Some+else-not-passes w ↦
      takes top c.args.extreme c.args.share c.if-share-ne-FINITE.false
      (ap (λ e. stays top e c.args.share.pattern) w.in-Some.is ∙ ap not (sym (f _ _ _ (rw (w.from_pattern.ensures, w.from_pattern-next.ensures) at w.passes.ensures)) ∙ w.if-not-passes.false))
  | in_default w ↦ takes top c.args.extreme c.args.share c.if-share-ne-FINITE.false (ap (λ e. stays top e c.args.share.pattern) w.in_default.is)
]
