-- What the rows from here on make of what is held is what all rows make of the report.
use Rattle.std.proofs.Common.{◌≡◌, ℕ, suc, ◌-◌, ◌<◌, ◌≤◌, List, sym, refl, ap, ◌∙◌, add-one, arith}
use Rattle.std.proofs.Math.Nat.{sub-zero}
use Rattle.ledger.specs.laws.Refusals.{sheet_few}
use Rattle.month.specs.declared.parts.Report.{Report}
use Rattle.month.specs.declared.parts.Share.{Share}
use Rattle.month.specs.Month.{leg_at, legs_from, legs_of, share_of, share_on, leg_on, legs_on, fold}
use Rattle.month.specs.laws.Taken.{row_there}
use Rattle.month.proofs.parts.Report.add_rows.Goals as goal

-- one row more, and no row left
one-row : (n : ℕ) (s : List ℕ) (i rows : ℕ) (r : Report) (h : Share) (more : Report) → i < rows → h ≡ share_of (leg_at n s i) → more ≡ share_on r h
    → legs_on more (legs_from n s (suc i) (rows - suc i)) ≡ legs_on r (legs_from n s i (rows - i))
unfolding legs_on legs_from leg_on fold
one-row n s i rows r h more t d e =
    let k : rows - i ≡ suc (rows - suc i) = omega arith in
    rw (k, e ∙ ap (share_on r) d) refl

no_row : (n : ℕ) (s : List ℕ) (i rows : ℕ) (r : Report) → rows ≤ i → r ≡ legs_on r (legs_from n s i (rows - i))
unfolding legs_on legs_from fold
no_row n s i rows r t = let k : rows - i ≡ 0 = omega arith in rw k refl

pub overflow_cast-rows : goal.overflow_cast-rows
overflow_cast-rows c = omega (arith, c.rows_in-rows.ensures, sheet_few _ c.requires)

pub loop-i-init : goal.loop-i-init
loop-i-init c = rw (sub-zero c.rows_in-rows.result) refl

pub share_of-requires : goal.share_of-requires
share_of-requires c = row_there _ _ c.requires (rw (sym c.rows_in-rows.ensures) c.loop-i-test.true)

pub loop-i-preserved : goal.loop-i-preserved
loop-i-preserved c =
    let a = c.args in
    let l = c.loop-i in
    rw (add-one l.i) (one-row a.number a.sheet.now l.i _ l.self c.share_of.result _ c.loop-i-test.true c.share_of.ensures c.add_share.ensures ∙ l.invariant)

pub returns : goal.returns
unfolding legs_of
returns c =
    let a = c.args in
    let l = c.loop-i in
    let r = c.rows_in-rows in
    no_row a.number a.sheet.now l.i r.result l.self (omega (arith, c.loop-i-test.false)) ∙ l.invariant ∙ ap (λ (n : ℕ). legs_on a.self.now (legs_from a.number a.sheet.now 0 n)) r.ensures
