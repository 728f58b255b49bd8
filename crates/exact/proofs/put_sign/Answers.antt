-- A sign, or nothing.
use Rattle.std.proofs.Common.{[], ◌∷◌, arith}
use Rattle.placing.specs.laws.Placing.{nothing, piece}
use Rattle.exact.specs.Exact.{sign_of}
use Rattle.exact.proofs.put_sign.Goals as goal

pub returns-then-negative : goal.returns-then-negative
unfolding sign_of
returns-then-negative c =
    let a = c.args in
    simp c.if-negative.true (piece a.out.now a.at 1 (45 ∷ []) (omega arith) c.requires c.put_bytes.ensures)

pub returns-else-negative : goal.returns-else-negative
unfolding sign_of
returns-else-negative c = simp c.if-negative.false (nothing c.args.out.now c.args.at 1)
