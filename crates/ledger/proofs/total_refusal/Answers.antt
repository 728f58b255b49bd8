-- A sheet, or refusal 7.
use mathlib.Core.Path.{◌∙◌, sym}
use Rattle.answer.specs.Answer.{refusal_of}
use Rattle.ledger.proofs.Tested.{total_7, total_0}
use Rattle.ledger.proofs.total_refusal.Goals as goal

pub returns-then-is_sheet : goal.returns-then-is_sheet
unfolding refusal_of
returns-then-is_sheet c = total_0 c.args.sheet.now (sym c.is_sheet.ensures ∙ c.if-is_sheet.true)

pub returns-else-is_sheet : goal.returns-else-is_sheet
unfolding refusal_of
returns-else-is_sheet c = total_7 c.args.sheet.now (sym c.is_sheet.ensures ∙ c.if-is_sheet.false)
