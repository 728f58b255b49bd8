-- Each call on the row tells one field.
use Rattle.std.proofs.Common.{ap, ◌∙◌}
use Rattle.ledger.specs.Class.{class_number}
use Rattle.inspection.specs.laws.Class.{class_known}
use Rattle.month.specs.Month.{leg_at, share_of}
use Rattle.month.specs.laws.Taken.{class-read, value_read, refusal_read, pattern-read}
use Rattle.month.proofs.share.share_of.Goals as goal

pub returns : goal.returns
unfolding share_of leg_at
returns c = let s = c.args.sheet.now in
    let n = c.args.number in
    let i = c.args.row in
    let h = c.requires in
    let class = c.class_number.ensures ∙ ap class_number c.row_class.ensures ∙ class_known s i ∙ class-read s i h in
    let refusal = c.refusal_of.ensures ∙ refusal_read s i h in
    let times = c.row_times.ensures in
    let value = c.row_value.ensures ∙ value_read s i h in
    let pattern = c.row_word.ensures ∙ pattern-read s i h in
    (λ j. record { class = class j; refusal = refusal j; times = times j; value = value j; pattern = pattern j; sheet = n; row = i })
