-- A row of 48 bytes has its line, any other none.
use Rattle.std.proofs.Common.{◌≡◌, eq-eqb, ne_eqb, length, rules}
use Rattle.placing.specs.laws.Placing.{nothing}
use Rattle.page.specs.Page.{row_line}
use Rattle.page.proofs.row.put_row.Goals as goal

pub returns-in_default : goal.returns-in_default
unfolding row_line
returns-in_default c =
    let a = c.args in
    let w = c.read_row.ensures in
    let other : length c.read_row.result.now ≡ 48 → ⊥ = c.in_default.ensures.cases in
    simp (ne_eqb _ 48 (rw w at other)) (nothing a.out.now a.at 54)

pub returns : goal.returns
unfolding row_line
returns c =
    let w = c.read_row.ensures in
    let k = c.row_times.ensures in
    let same : c.in-Some.row.now ≡ c.read_row.result.now = search rules in
    let whole : length c.read_row.result.now ≡ 48 = search rules in
    simp (eq-eqb _ 48 (rw w at whole)) (rw (same, w, k) at c.put_text.ensures)
