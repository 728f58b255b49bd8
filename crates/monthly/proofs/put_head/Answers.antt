-- Two notes, then the counts.
use native.Mathlib.Omega.{arith}
use mathlib.Core.List.{◌++◌, append_assoc}
use Rattle.laws.specs.Ascii.{ascii}
use Rattle.text.specs.Text.{end}
use Rattle.monthly.specs.Monthly.{note, counts_text, head_text}
use Rattle.placing.specs.laws.Placing.{join}
use Rattle.monthly.proofs.put_head.Goals as goal

pub returns : goal.returns
unfolding head_text
returns c = let a = c.args in
    let s = a.out.now in
    let x = note (ascii "sheets ") a.sheets ++ end in
    let y = note (ascii "apart ") a.apart ++ end in
    let both = join s 0 28 27 x y (omega arith) c.put_note-a.ensures c.put_note-b.ensures in
    let all = join s 0 55 112 (x ++ y) (counts_text a.counts) (omega arith) both c.put_counts.ensures in
    simp append_assoc (simp append_assoc at all)
