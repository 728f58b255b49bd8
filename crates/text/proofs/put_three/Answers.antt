-- Three numbers of at most 21 bytes each.
use native.Mathlib.Omega.{arith}
use mathlib.Core.List.{[], ◌∷◌, ◌++◌, append_assoc}
use lib.ListN.{length}
use Rattle.text.specs.Text.{decimal, three, space}
use Rattle.text.specs.laws.Digits.{field-most}
use Rattle.text.specs.laws.Writing.{placed_three, puts_all}
use Rattle.text.specs.laws.Room.{has}
use Rattle.text.proofs.put_three.Goals as goal

pub returns : goal.returns
unfolding three
returns c =
    let a = c.args in
    let room = has _ (length a.out.now) a.at 63 c.lacks.ensures c.if-lacks.false in
    let p = c.put_decimal-a.ensures in
    let q = c.put_decimal-b.ensures in
    let r = c.put_decimal.ensures in
    let whole = placed_three a.out.now a.at 21 21 21 21 21 21 (decimal a.first ++ space) (decimal a.second ++ space) (decimal a.third ++ (a.after ∷ []))
    (field-most a.first 32, field-most a.second 32, field-most a.third a.after) (omega arith, omega arith, omega arith) (omega arith, omega arith, omega arith) p q r in
    puts_all a.out.now a.at 63 (three a.first a.second a.third ++ (a.after ∷ [])) room (simp append_assoc (simp append_assoc at whole.0))
