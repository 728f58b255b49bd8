-- The sum of the counts, then the one of the row's class.
use Rattle.std.proofs.Common.{◌≡◌, sym, ap, ◌∙◌, arith, length, get_or}
use lib.Dec.{eqb}
use Rattle.ledger.specs.Sheet.{class_of}
use Rattle.ledger.specs.Class.{class_at}
use Rattle.ledger.specs.Calls.{row_in, counts_in, plus}
use Rattle.ledger.specs.laws.Refusals.{row_room, length-row}
use Rattle.ledger.specs.laws.Classes.{number_small}
use Rattle.ledger.proofs.Shares.{shared, has_class, its_number}
use Rattle.ledger.proofs.Tested.{miscounted-sum, miscounted-class}
use Rattle.ledger.proofs.checks.is_miscounted.Goals as goal
use Rattle.ledger.proofs.checks.is_miscounted.Goals.{After-share_of}

pub row_in-requires : goal.row_in-requires
row_in-requires c = row_room c.args.s.now c.requires.0 c.args.row c.requires.1

class_is : (c : After-share_of) → c.share_of.result.class ≡ class_at (class_of (row_in c.args.s.now c.args.row))
class_is c =
    let a = c.args in
    let e = c.row_in.ensures in
    (shared c.row_in.result (ap length e ∙ length-row a.s.now c.requires.0 a.row c.requires.1) _ c.share_of.ensures).0 ∙ ap (λ w. class_at (class_of w)) e

pub unwrap-class-requires : goal.unwrap-class-requires
unwrap-class-requires c = has_class _ c.requires.2 _ (class_is c)

pub returns-then-sum-rows_in : goal.returns-then-sum-rows_in
returns-then-sum-rows_in c =
    let n : c.sum.result ≡ plus (counts_in c.args.s.now) = c.sum.ensures ∙ ap plus c.read_counts-counts.ensures in
    miscounted-sum c.args.s.now c.args.row (λ e. c.if-sum-rows_in.true (n ∙ e ∙ sym c.rows_in.ensures))

pub offset_bounds-counts-index : goal.offset_bounds-counts-index
offset_bounds-counts-index c = omega (arith, c.index.ensures, number_small c.unwrap-class.result)

pub bounds-counts-index : goal.bounds-counts-index
bounds-counts-index c = omega (arith, c.index.ensures, number_small c.unwrap-class.result)

pub returns : goal.returns
returns c =
    let k = c.index.ensures ∙ its_number _ c.requires.2 _ (class_is (goal.at.returns c).After-share_of) _ c.unwrap-class.ensures in
    (λ i. eqb (get_or (c.read_counts-counts.ensures i) (k i) 0) 0)
    ∙ miscounted-class c.args.s.now c.args.row (sym (c.sum.ensures ∙ ap plus c.read_counts-counts.ensures) ∙ c.if-sum-rows_in.false ∙ c.rows_in.ensures)
