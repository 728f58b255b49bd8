-- `nearest_half` meets its contract: a 1 at the half place goes up by 1 where more follows, else by the last digit.
use Rattle.std.proofs.Common.{◌≡◌, ℕ, zero, suc, ◌+◌, ◌*◌, ◌/◌, ◌%◌, ◌<◌, Bool, true, false, arith}
use lib.Ieee.{nearest}
use Rattle.bits.specs.Steps.{ord_of}
use Rattle.bits.proofs.rounding.nearest_half.Goals as goal
use Rattle.bits.proofs.rounding.nearest_half.Goals.{then-more, else-more}

with_more : (q half up : ℕ) (more : Bool) → half < 2 → more ≡ true → up ≡ 1 → q + half * up ≡ nearest q (ord_of half more)
unfolding ord_of
with_more q half up false h m e = absurd (let y : ⊥ = cc in y)
with_more q zero up true h m e = omega arith
with_more q (suc zero) up true h m e = omega arith
with_more q (suc (suc n)) up true h m e = absurd (omega arith)

with_none : (q half up : ℕ) (more : Bool) → half < 2 → more ≡ false → up ≡ q % 2 → q + half * up ≡ nearest q (ord_of half more)
unfolding ord_of
with_none q half up true h m e = absurd (let y : ⊥ = cc in y)
with_none q zero up false h m e = omega arith
with_none q (suc zero) up false h m e = omega arith
with_none q (suc (suc n)) up false h m e = absurd (omega arith)

pub returns : goal.returns
returns c =
    let w = c.args.w in
    elim c.if-more.branch [
      | then-more y ↦ with_more (w / 2) (w % 2) c.if-more.up c.args.more (omega arith) y.if-more.true y.up-is
      | else-more y ↦ with_none (w / 2) (w % 2) c.if-more.up c.args.more (omega arith) y.if-more.false y.up-is
    ]
