-- The limbs go through the total and back.
use mathlib.Core.Path.{ap, ◌∙◌}
use Prim.Native.Nat.{ℕ}
use Rattle.total.specs.Total.{val, limbs_of, add_of, take_of}
use Rattle.ledger.proofs.totals.moved.Goals as goal

pub returns : goal.returns
returns c =
    let a = c.args in
    let v = ap val c.of-total.ensures ∙ c.read_total.ensures in
    c.limbs.ensures ∙ c.add.ensures.1
    ∙ ap (λ (t : ℕ). limbs_of (add_of t a.new.times a.new.value)) (c.take.ensures.0 ∙ ap (λ (t : ℕ). take_of t a.old.times a.old.value) v)
