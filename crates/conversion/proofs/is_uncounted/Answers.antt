-- The five counts, added up.
use Rattle.std.proofs.Common.{◌+◌, ◌∙◌, ap, not, ℕ, List, [], ◌∷◌, zero-add, eqb, arith, rules, tests}
use Rattle.std.proofs.lemmas.Iterator.{YieldsList-from_slice, YieldsList-from_map}
use Rattle.std.proofs.lemmas.Iterator.Consumers.{sum_by_from_yields_List}
use Rattle.std.proofs.lemmas.Iterator.Adapters.{fits_from_length, at_most_from_yields_List}
use Rattle.ledger.specs.Calls.{rows_in, count_of}
use Rattle.conversion.specs.Conversion.{uncounted}
use Rattle.conversion.proofs.is_uncounted.Goals as goal

abbrev classes : List ℕ
classes = 0 ∷ 1 ∷ 2 ∷ 3 ∷ 4 ∷ []

pub sum-all-requires-clause-fits : goal.sum-all-requires-clause-fits
sum-all-requires-clause-fits c = fits_from_length _ _ 5 _ (at_most_from_yields_List {all = classes} (YieldsList-from_slice classes cc) (omega arith)) c.map.ensures.closure (omega arith) (λ x r q k. search (rules, tests))

pub returns : goal.returns
unfolding uncounted
returns c =
    let count = count_of c.args.sheet.now in
    let h = sum_by_from_yields_List count classes c.map.result c.sum-all.result c.sum-all.ensures.ran (YieldsList-from_map _ count (YieldsList-from_slice classes cc) c.map.ensures.closure (λ x r q k. search (rules, tests))) in
    (λ i. not (eqb (h i) (c.rows_in.ensures i)))
    ∙ ap (λ (n : ℕ). not (eqb (n + count 1 + count 2 + count 3 + count 4) (rows_in c.args.sheet.now))) (zero-add (count 0))
