-- A blank row never is; any other by its times.
use Rattle.std.proofs.Common.{◌≡◌, Some, sym, ap, ◌∙◌, not, ℕ, rules}
use lib.Dec.{eqb}
use Rattle.ledger.specs.declared.row.Class.TheVariants.{Blank}
use Rattle.ledger.specs.Class.{number_of, class_at}
use Rattle.ledger.specs.laws.Classes.{class_back}
use Rattle.conversion.proofs.Refused.{blank_not, times-not}
use Rattle.conversion.proofs.is_oftener.Goals as goal

pub returns-then-ne : goal.returns-then-ne
unfolding class_at
returns-then-ne c =
    let a = c.args in
    let other : c.row_class.result ≡ Some Blank → ⊥ = search rules in
    ap (λ (n : ℕ). not (eqb n 1)) c.row_times.ensures ∙ times-not a.sheet.now a.row (λ z. other (c.row_class.ensures ∙ ap class_at z))

pub returns-else-ne : goal.returns-else-ne
unfolding number_of
returns-else-ne c =
    let blank : c.row_class.result ≡ Some Blank = search rules in
    c.if-ne.false ∙ blank_not _ _ (sym (class_back _ Blank (sym c.row_class.ensures ∙ blank)))
