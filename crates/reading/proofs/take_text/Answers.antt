-- A part of the zeros is lent.
use native.Mathlib.Nat.{sub-zero}
use Rattle.page.specs.Page.{largest}
use Rattle.reading.specs.laws.Zeros.{take-zeros}
use Rattle.reading.proofs.take_text.Goals as goal

pub settle-requires : goal.settle-requires
settle-requires c =
    let n = c.lent-n in
    rw (sub-zero n.result, ← n.ensures.0) (take-zeros n.result largest n.ensures.1)
