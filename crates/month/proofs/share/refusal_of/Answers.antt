-- A row that can't be read is empty, and says 0.
use Rattle.std.proofs.Common.{ℕ, List, get_or, ap, ◌∙◌, rules, ◌≡◌}
use Rattle.ledger.specs.Sheet.{refusal_in}
use Rattle.month.proofs.share.refusal_of.Goals as goal

pub returns : goal.returns
unfolding refusal_in
returns c =
    let e : c.unwrap_or.result ≡ get_or c.read_row.result.now 1 0 = search rules in
    e ∙ ap (λ (l : List ℕ). get_or l 1 0) c.read_row.ensures
