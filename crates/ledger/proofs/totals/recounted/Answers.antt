-- The old class counts at least one, and no count is above 1,024.
use mathlib.Core.Path.{◌∙◌}
use mathlib.Core.List.{[], ◌∷◌, ◌++◌}
use Prim.Native.Nat.{◌+◌, ◌-◌, ◌≤◌}
use native.Mathlib.Omega.{arith}
use lib.ListN.{get_or, set, length-set}
use Rattle.ledger.specs.Bytes.{fields}
use Rattle.ledger.specs.Calls.{recount}
use Rattle.ledger.specs.laws.Classes.{number_small}
use Rattle.ledger.proofs.Counts.{counts_words, part_le, plus_less, set-le}
use Rattle.ledger.proofs.totals.recounted.Goals as goal

pub offset_bounds-c-index-2 : goal.offset_bounds-c-index-2
offset_bounds-c-index-2 c = omega (arith, c.index-2.ensures, number_small c.args.new)

pub bounds-c-index-3 : goal.bounds-c-index-3
bounds-c-index-3 c = omega (arith, c.index-2.ensures, number_small c.args.new)

pub bounds-c-index-4 : goal.bounds-c-index-4
bounds-c-index-4 c = omega (arith, c.index-2.ensures, number_small c.args.new)

pub overflow_add-c : goal.overflow_add-c
overflow_add-c c =
    let l = c.args.counts in
    let o = c.index.result in
    let p = plus_less l o (get_or l o 0 - 1) (let h : get_or l o 0 - 1 ≤ get_or l o 0 = omega arith in h) in
    omega (arith, c.requires.1, part_le (set l o (get_or l o 0 - 1)) c.index-2.result)

pub returns : goal.returns
unfolding recount
returns c =
    let l = c.args.counts in
    let o = c.index.result in
    let n = c.index-2.result in
    let less = set l o (get_or l o 0 - 1) in
    let p = plus_less l o (get_or l o 0 - 1) (let h : get_or l o 0 - 1 ≤ get_or l o 0 = omega arith in h) in
    let g = c.well_formed.0 in
    counts_words (set less n (get_or less n 0 + 1)) _ _ _ (length-set less n (get_or less n 0 + 1) ∙ length-set l o (get_or l o 0 - 1) ∙ g.1.0.1)
    (λ i. set-le less n i (get_or less n 0 + 1) 1025 (λ j. omega (arith, c.requires.1, part_le less j)) (omega (arith, c.requires.1, part_le less n)))
    c.pair.ensures c.pair-2.ensures c.pair-3.ensures
    ∙ (λ i. fields 4 (recount l (c.index.ensures i) (c.index-2.ensures i) ++ (0 ∷ [])))
