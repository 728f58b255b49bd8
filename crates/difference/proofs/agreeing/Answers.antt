-- The rows' own bytes are compared.
use Rattle.std.specs.Prelude.{nat_eq}
use Rattle.std.specs.Cmp.Lexicographic.{pointwise}
use Rattle.std.proofs.Common.{◌≡◌, ◌∙◌, length, take_all, arith}
use Rattle.ledger.specs.Calls.{equal}
use Rattle.difference.specs.Difference.{agree}
use Rattle.difference.proofs.Equality.{pointwise_is}
use Rattle.difference.proofs.agreeing.Goals as goal

pub returns : goal.returns
unfolding agree
returns c =
    let a = c.read_row-before in
    let b = c.read_row-after in
    let e : c.eq.result ≡ pointwise nat_eq a.result.now b.result.now = grind (arith, take_all (length a.result.now) a.result.now (omega arith), take_all (length b.result.now) b.result.now (omega arith)) in
    e ∙ pointwise_is _ _ ∙ (λ i. equal (a.ensures i) (b.ensures i))
