-- Two notes.
use native.Mathlib.Omega.{arith}
use mathlib.Core.List.{◌++◌, append_assoc}
use Rattle.laws.specs.Ascii.{ascii}
use Rattle.text.specs.Text.{space, end}
use Rattle.monthly.specs.Monthly.{note, place_text}
use Rattle.placing.specs.laws.Placing.{join}
use Rattle.monthly.proofs.lines.put_place.Goals as goal

pub returns : goal.returns
unfolding place_text
returns c = let a = c.args in
    let both = join a.out.now a.at 27 25 (note (ascii "sheet ") a.place.sheet ++ space) (note (ascii "row ") a.place.row ++ end) (omega arith) c.put_note-a.ensures c.put_note.ensures in
    simp append_assoc (simp append_assoc at both)
