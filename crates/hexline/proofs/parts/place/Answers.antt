-- Part by part.
use mathlib.Core.Path.{◌≡◌, refl, ap, ◌∙◌}
use Prim.Native.Nat.{ℕ, ◌+◌}
use native.Mathlib.Numerals.{add-one}
use native.Mathlib.Omega.{arith}
use mathlib.Core.List.{List}
use Rattle.hexline.specs.Parts.{next_of, place_of}
use Rattle.hexline.proofs.parts.place.Goals as goal

-- one part more
one_more_lem : (e : ℕ) (s : List ℕ) (i at r : ℕ) → at ≡ place_of e s i → r ≡ next_of e s at → r ≡ place_of e s (i + 1)
unfolding place_of
one_more_lem e s i at r p q = rw add-one (q ∙ ap (next_of e s) p)

pub loop-init : goal.loop-init
unfolding place_of
loop-init c = refl

pub loop-preserved : goal.loop-preserved
loop-preserved c =
    let l = c.loop in
    one_more_lem c.args.e c.args.s.now l.counter l.at _ l.invariant c.next-at.ensures

pub returns : goal.returns
returns c =
    let all : c.loop.counter ≡ c.args.j = omega arith in
    c.loop.invariant ∙ ap (place_of c.args.e c.args.s.now) all
