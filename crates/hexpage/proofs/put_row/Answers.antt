-- A row of 48 bytes has its line, any other none.
use Rattle.std.proofs.Common.{◌≡◌, eq-eqb, ne_eqb, length, arith, rules}
use Rattle.text.specs.laws.Writing.{put_none}
use Rattle.placing.specs.laws.Placing.{join}
use Rattle.hexpage.specs.HexPage.{row_text, row_line}
use Rattle.hexpage.proofs.put_row.Goals as goal

pub returns-in_default : goal.returns-in_default
unfolding row_line
returns-in_default c =
    let w = c.read_row.ensures in
    let other : length c.read_row.result.now ≡ 48 → ⊥ = c.in_default.ensures.cases in
    record { put = simp (ne_eqb _ 48 (rw w at other)) (put_none c.args.out.now 0); upper_bound = omega arith }

pub returns : goal.returns
unfolding row_line row_text
returns c =
    let s = c.args.out.now in
    let w = c.read_row.ensures in
    let k = c.row_times.ensures in
    let same : c.in-Some.row.now ≡ c.read_row.result.now = search rules in
    let long : length c.read_row.result.now ≡ 48 = search rules in
    let whole = join s 0 165 103 _ _ (omega arith) c.put_entered-at.ensures c.put_worked.ensures in
    record { put = simp (eq-eqb _ 48 (rw w at long)) (rw (same, w, k) at whole.put); upper_bound = omega (arith, whole.short, whole.same) }
