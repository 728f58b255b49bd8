-- `fused` meets its contract: the finite case by its parts, the others as they are (`Values`).
use Rattle.std.proofs.Common.{◌≡◌, ◌^◌, Bool, ◌&&◌, true, false, refl, sym, ap, ◌∙◌}
use lib.Ieee.{binary64, sum}
use lib.Ieee.Scale.{finite}
use Rattle.bits.specs.laws.Found.{found, none_found}
use Rattle.fused.proofs.Values.{fused_finite, fused_addend, fused_factor}
use Rattle.fused.proofs.fused.Goals as goal
use Rattle.fused.proofs.fused.Goals.{in_default-via-in-Some+in_default, in_default-via-in_default}

pub returns-in-Some-Some-Some : goal.returns-in-Some-Some-Some
returns-in-Some-Some-Some c =
    let a = c.args in
    let s = c.in-Some-Some-Some in
    let p = found a.x _ s.a s.is-0 c.parts.ensures in
    let q = found a.y _ s.b s.is-1 c.parts-2.ensures in
    let r = found a.z _ s.c s.is-2 c.parts-3.ensures in
    let u = c.place_product.ensures in
    let v = c.place_addend.ensures in
    c.sum_of.ensures
    ∙ (λ i. sum binary64 (u.0 i) (u.1 i) (v.0 i) (v.1 i) (2 ^ 2340))
    ∙ fused_finite a.x a.y a.z s.a.negative s.b.negative s.c.negative s.a.digits s.a.exponent s.b.digits s.b.exponent s.c.digits s.c.exponent (p.decoded (sym p.kind)).value (q.decoded (sym q.kind)).value (r.decoded (sym r.kind)).value

pub returns-in-Some-Some-None : goal.returns-in-Some-Some-None
returns-in-Some-Some-None c =
    let a = c.args in
    let s = c.in-Some-Some-None in
    fused_addend a.x a.y a.z (sym (found a.x _ s.field-0-0 s.is-0 c.parts.ensures).kind) (sym (found a.y _ s.field-0-1 s.is-1 c.parts-2.ensures).kind) (sym (none_found a.z _ s.is-2 c.parts-3.ensures).kind)

pub returns-in_default : goal.returns-in_default
returns-in_default c =
    let a = c.args in
    fused_factor a.x a.y a.z
    (elim c.in_default.branch [
      | in_default-via-in-Some+in_default w ↦ ap (λ (b : Bool). finite a.x && b) (sym (none_found a.y _ w.in_default.is-1 c.parts-2.ensures).kind) ∙ none (finite a.x)
      | in_default-via-in_default w ↦ ap (λ (b : Bool). b && finite a.y) (sym (none_found a.x _ w.in_default.is-0 c.parts.ensures).kind)
    ])
  where
    none : (b : Bool) → (b && false) ≡ false
    none true = refl
    none false = refl
