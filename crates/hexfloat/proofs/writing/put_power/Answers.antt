-- Two bytes and a number of at most four digits.
use native.Mathlib.Omega.{arith}
use mathlib.Core.List.{◌∷◌, ◌++◌, []}
use Rattle.text.specs.Text.{decimal}
use Rattle.text.specs.laws.Digits.{field-length}
use Rattle.text.specs.laws.Writing.{placed_both}
use Rattle.hexfloat.proofs.writing.put_power.Goals as goal

pub returns : goal.returns
returns c =
    let a = c.args in
    let room = c.requires.1 in
    let whole = placed_both a.out.now a.at 2 21 2 5 (112 ∷ (a.sign ∷ [])) (decimal a.n ++ (a.after ∷ [])) (omega arith, field-length a.n a.after 4 (omega arith) (omega arith) c.requires.0) (omega arith, omega arith)
    (omega (arith, room), omega (arith, room)) c.put_bytes-next.ensures c.put_decimal.ensures in
    record { put = whole.0; upper_bound = omega (arith, whole.1) }
