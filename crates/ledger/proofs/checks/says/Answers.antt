-- Test by test.
use mathlib.Core.Path.{ap, ◌∙◌}
use Rattle.ledger.specs.Bytes.{read}
use Rattle.ledger.specs.Calls.{equal}
use Rattle.ledger.proofs.Tested.{too_many, odd_length, by_contents}
use Rattle.ledger.proofs.checks.says.Goals as goal

pub returns-then-rows-gt-MOST_ROWS : goal.returns-then-rows-gt-MOST_ROWS
returns-then-rows-gt-MOST_ROWS c = let e = c.rows_in-rows.ensures in too_many c.args.kind c.args.sheet.now (rw (← e) c.if-rows-gt-MOST_ROWS.true)

pub returns-then-sheet-size_for : goal.returns-then-sheet-size_for
returns-then-sheet-size_for c =
    let a = c.args in
    let e = c.rows_in-rows.ensures in
    odd_length a.kind a.sheet.now (rw (← e) c.if-rows-gt-MOST_ROWS.false) (λ h. c.if-sheet-size_for.true (rw (c.size_for.ensures, e) h))

pub returns : goal.returns
returns c =
    let a = c.args in
    let s = a.sheet.now in
    let e = c.rows_in-rows.ensures in
    c.starts_with.ensures ∙ ap (equal (read 4 8 s)) c.contents.ensures ∙ rw e (by_contents a.kind s (rw (← e) c.if-rows-gt-MOST_ROWS.false) (rw (← e, ← c.size_for.ensures) c.if-sheet-size_for.false))
