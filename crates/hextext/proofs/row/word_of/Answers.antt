-- Eight bytes of the row.
use mathlib.Core.Path.{◌≡◌, sym}
use native.Mathlib.Omega.{arith}
use lib.ListN.{length}
use borrow.Author.Rules.{elem_Fits}
use mir.Syntax.{w64}
use Rattle.hextext.specs.laws.Words.{pattern_words}
use Rattle.hextext.proofs.row.word_of.Goals as goal

pub returns : goal.returns
returns c =
    let l = c.args.words in
    let g = c.well_formed.0 in
    let six : length l ≡ 6 = g.1.0.1 in
    sym (pattern_words l c.args.k (omega (arith, six, c.requires)) (elem_Fits w64 w64 l g.0 c.args.k g.1.1 tt).fits)
