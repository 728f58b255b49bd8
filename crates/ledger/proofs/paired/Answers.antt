-- Word by word.
use borrow.Author.Rules.{elem_Fits}
use mir.Syntax.{w32}
use Rattle.ledger.proofs.Counts.{eight_words}
use Rattle.ledger.proofs.paired.Goals as goal

pub returns : goal.returns
returns c =
    let l = c.args.xs in
    let g = c.well_formed.0 in
    eight_words l _ _ _ _ g.1.0.1 (λ i. (elem_Fits w32 w32 l g.0 i g.1.1 tt).fits) c.pair.ensures c.pair-2.ensures c.pair-3.ensures c.pair-4.ensures
