-- The word, then the pattern of the rounded total.
use mathlib.Core.Path.{ap, ◌∙◌}
use mathlib.Core.List.{◌++◌, append_assoc}
use native.Mathlib.Omega.{arith}
use lib.Ieee.{binary64, to_bits}
use Rattle.laws.specs.Ascii.{ascii}
use Rattle.total.specs.Total.{val, round_total}
use Rattle.text.specs.Text.{pattern, end}
use Rattle.text.specs.laws.Digits.{pattern-most}
use Rattle.monthly.specs.Monthly.{total_text}
use Rattle.placing.specs.laws.Placing.{piece, follow}
use Rattle.monthly.proofs.lines.put_total.Goals as goal

pub returns : goal.returns
unfolding total_text
returns c = let a = c.args in
    let s = a.out.now in
    let v = to_bits binary64 (round_total (val a.total.limbs)) in
    let e = c.to_pattern-rounded.ensures ∙ ap (to_bits binary64) c.rounded.ensures in
    let p = piece s a.at 6 (ascii "total ") (omega arith) (omega arith) c.put_bytes-a.ensures in
    let q = follow s a.at 6 17 (ascii "total ") (pattern v ++ end) (pattern-most v 10) (omega arith) p (rw e at c.put_pattern.ensures) in
    simp append_assoc q
