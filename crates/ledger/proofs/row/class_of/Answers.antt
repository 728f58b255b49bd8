-- Blank, refused, or what the first answer decides.
use Rattle.std.proofs.Common.{ap, ◌∙◌}
use Rattle.ledger.specs.Sheet.{kind_of, function_in, refusal_in}
use Rattle.ledger.specs.Class.{class_at}
use Rattle.ledger.proofs.Shares.{class_blank, class_refused, class_kind}
use Rattle.ledger.proofs.row.class_of.Goals as goal

pub returns-then-row-eq0 : goal.returns-then-row-eq0
unfolding class_at function_in
returns-then-row-eq0 c = ap class_at (class_blank c.args.row.now c.if-row-eq0.true)

pub returns-then-row-gt0 : goal.returns-then-row-gt0
unfolding class_at function_in refusal_in
returns-then-row-gt0 c = ap class_at (class_refused c.args.row.now c.if-row-eq0.false c.if-row-gt0.true)

pub returns : goal.returns
unfolding function_in refusal_in
returns c = c.kind.ensures ∙ ap class_at (ap kind_of c.first.ensures ∙ class_kind c.args.row.now c.if-row-eq0.false c.if-row-gt0.false)
