-- Its 48 bytes.
use Rattle.std.proofs.Common.{ap, ◌∙◌, ℕ, take, drop}
use Rattle.ledger.specs.Calls.{row_in}
use Rattle.ledger.proofs.row.row_in.Goals as goal

pub returns : goal.returns
unfolding row_in
returns c = c.part.ensures ∙ ap (λ (n : ℕ). take 48 (drop n c.args.sheet.now)) c.row_place.ensures
