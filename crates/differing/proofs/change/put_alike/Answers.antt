-- A class, and the line's end.
use native.Mathlib.Omega.{arith}
use Rattle.laws.specs.Ascii.{ascii}
use Rattle.text.specs.Text.{end}
use Rattle.differing.specs.Differing.{named_class, change_text}
use Rattle.differing.proofs.Pieces.{words_put, two_put}
use Rattle.differing.proofs.change.put_alike.Goals as goal

pub returns : goal.returns
unfolding change_text
returns c =
    let a = c.args in
    let p = c.put_named-a.ensures in
    let r = words_put _ _ 1 end (omega arith) (omega arith) c.put_bytes.ensures in
    let w = two_put a.out.now a.at 12 1 (named_class (ascii "same ") a.class) end (omega arith) p.put (omega (arith, p.upper_bound)) r.0 r.1 in
    record { put = w.0; upper_bound = omega (arith, w.1) }
