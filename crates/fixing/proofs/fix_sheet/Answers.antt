-- A run from the sheet, or it is none.
use Rattle.ledger.specs.laws.Refusals.{sheet_taken, sheet_refused}
use Rattle.runner.specs.Done.{begun_of}
use Rattle.fixing.specs.Fixed.{unfit, fixed}
use Rattle.fixing.proofs.fix_sheet.Goals as goal

pub returns-then-is_ok : goal.returns-then-is_ok
unfolding begun_of
returns-then-is_ok c =
    let bytes = c.args.bytes.now in
    let q = c.total_refusal in
    let sheet = sheet_taken bytes q.result q.ensures c.if-is_ok.ensures.negation in
    fixed bytes c.requires sheet (rw sheet at c.run.ensures)

pub returns : goal.returns
returns c =
    let bytes = c.args.bytes.now in
    let q = c.total_refusal in
    unfit bytes c.refused_7-out.result c.requires (sheet_refused bytes q.result q.ensures c.if-is_ok.ensures.negation) (rw c.begin.ensures at c.refused_7-out.ensures)
