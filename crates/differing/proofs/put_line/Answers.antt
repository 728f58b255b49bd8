-- Nothing, or the row's text.
use mathlib.Core.Path.{◌∙◌, sym}
use native.Mathlib.Omega.{arith}
use Rattle.text.specs.laws.Writing.{put_none, put_length}
use Rattle.differing.specs.Differing.{row_text, line_of}
use Rattle.differing.proofs.put_line.Goals as goal

pub returns-then-agreeing : goal.returns-then-agreeing
unfolding line_of
returns-then-agreeing c =
    let a = c.args in
    rw (sym c.agreeing.ensures ∙ c.if-agreeing.true) record { put = put_none a.out.now 0; upper_bound = omega arith }

pub returns : goal.returns
unfolding line_of
returns c =
    let a = c.args in
    let p = c.put_text.ensures in
    let e = put_length a.out.now 0 (row_text a.old.now a.new.now a.row) p.put (omega (arith, p.upper_bound)) in
    rw (sym c.agreeing.ensures ∙ c.if-agreeing.false) record { put = p.put; upper_bound = omega (arith, p.upper_bound, e) }
