-- No sheet, or one at the front of the memory.
use Rattle.std.proofs.Common.{sym}
use Rattle.ledger.specs.laws.Refusals.{sheet_taken, sheet_refused}
use Rattle.runner.proofs.Runs.{begins_without, begins_with}
use Rattle.runner.proofs.begin.Goals as goal

pub returns-then-is_err : goal.returns-then-is_err
returns-then-is_err c =
    let q = c.total_refusal in
    let from = c.args.from.now in
    rw c.start.ensures (begins_without from _ (sheet_refused from q.result q.ensures (sym c.if-is_err.ensures.value)) c.requires)

pub returns : goal.returns
returns c =
    let put = c.put_bytes in
    let q = c.total_refusal in
    let from = c.args.from.now in
    rw c.between.ensures (begins_with from _ _ put.result (sheet_taken from q.result q.ensures (sym c.if-is_err.ensures.value)) c.requires put.ensures)
