-- The chain's sum is that of the definition.
use Rattle.std.proofs.Common.{◌≡◌, ◌+◌, ◌∙◌, ℕ, List, [], ◌∷◌, arith, rules}
use Rattle.std.specs.List.{sum_by, fold}
use Rattle.ledger.specs.Calls.{plus}
use Rattle.ledger.proofs.totals.sum.Goals as goal

added : (a : ℕ) (l : List ℕ) → fold ◌+◌ a l ≡ a + plus l
unfolding plus
added a [] = omega arith
added a (x ∷ l) = added (a + x) l ∙ (omega arith)

pub returns : goal.returns
returns c =
    let h : c.sum.result ≡ sum_by (λ x. x) c.args.counts.now = search rules in
    h ∙ added 0 c.args.counts.now ∙ (omega arith)
