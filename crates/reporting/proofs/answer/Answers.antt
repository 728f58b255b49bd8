-- The page and then the lines, of what the files came to.
use Rattle.std.proofs.Common.{◌≡◌, refl, ap, ◌∙◌, ◌+◌, suc, List, [], ◌∷◌, length, Ok, Err, rules, tests, arith}
use Rattle.std.specs.List.{filter}
use Rattle.std.specs.Result.{is_err}
use Rattle.std.proofs.lemmas.Iterator.{YieldsList-from_slice}
use Rattle.std.proofs.lemmas.Iterator.Consumers.{YieldsList-from_filter, count_from_yields_List}
use Rattle.reporting.specs.Reporting.{Fate, apart_of}
use Rattle.reporting.proofs.Files.{reported}
use Rattle.reporting.proofs.answer.Goals as goal

-- those that are not taken, counted
counted : (fs : List Fate) → length (filter is_err fs) ≡ apart_of fs
unfolding apart_of
counted [] = refl
counted (Ok x ∷ fs) = counted fs ∙ (let z : apart_of fs ≡ 0 + apart_of fs = omega arith in z)
counted (Err e ∷ fs) = ap suc (counted fs) ∙ (let z : suc (apart_of fs) ≡ 1 + apart_of fs = omega arith in z)

pub returns : goal.returns
returns c =
    let fs = c.gather-report.new.fates in
    let n : length fs ≡ c.args.files = (let k = c.gather-report.auto.fates in search rules) in
    let apart : c.count-apart.result ≡ apart_of fs =
    count_from_yields_List c.filter.result _ c.count-apart.ensures.ran (YieldsList-from_filter _ is_err (YieldsList-from_slice fs (cc)) c.filter.ensures.closure (λ x b q k. search (rules, tests))) ∙ counted fs in
    reported (rw n at c.gather-report.ensures) apart (rw c.begin.ensures at c.put_page-page.ensures) (rw n at c.put_files-end.ensures)
