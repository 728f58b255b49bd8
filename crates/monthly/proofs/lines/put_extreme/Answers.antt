-- The words, then none, or the pattern and its place.
use Rattle.std.proofs.Common.{◌≡◌, Some, None, ◌+◌, ◌++◌, append_assoc, length, arith}
use Rattle.laws.specs.Ascii.{ascii}
use Rattle.text.specs.Text.{pattern, space}
use Rattle.text.specs.laws.Digits.{pattern-most}
use Rattle.monthly.specs.Monthly.{place_text, extreme_text}
use Rattle.placing.specs.laws.Placing.{piece, follow, join, looser}
use Rattle.monthly.proofs.lines.put_extreme.Goals as goal

pub returns-in_default : goal.returns-in_default
unfolding extreme_text
returns-in_default c =
    let a = c.args in
    let s = a.out.now in
    let w = a.words.now in
    let first = piece s a.at (length w) w (omega arith) (omega arith) c.put_bytes-a.ensures in
    let none : a.extreme ≡ None = grind arith in
    rw none
    (looser s a.at (length w + 5) (length w + 69) (w ++ ascii "none\n") (omega arith) (follow s a.at (length w) 5 w (ascii "none\n") (omega arith) (omega arith) first c.put_bytes.ensures))

pub put_place-requires : goal.put_place-requires
put_place-requires c =
    let a = c.args in
    let s = a.out.now in
    let w = a.words.now in
    let e = c.in-Some.held in
    let first = piece s a.at (length w) w (omega arith) (omega arith) c.put_bytes-a.ensures in
    let both = follow s a.at (length w) 17 w (pattern e.pattern ++ space) (pattern-most e.pattern 32) (omega arith) first c.put_pattern-b.ensures in
    omega (arith, both.short, both.same)

pub returns : goal.returns
unfolding extreme_text
returns c =
    let a = c.args in
    let s = a.out.now in
    let w = a.words.now in
    let e = c.in-Some.held in
    let x = pattern e.pattern ++ space in
    let place = place_text e.sheet e.row in
    let first = piece s a.at (length w) w (omega arith) (omega arith) c.put_bytes-a.ensures in
    let both = follow s a.at (length w) 17 w x (pattern-most e.pattern 32) (omega arith) first c.put_pattern-b.ensures in
    let all = looser s a.at (length w + 17 + 52) (length w + 69) (w ++ x ++ place) (omega arith) (join s a.at (length w + 17) 52 (w ++ x) place (omega arith) both c.put_place.ensures) in
    let some : a.extreme ≡ Some e = grind arith in
    rw some (simp append_assoc (simp append_assoc at all))
