-- What is left to read, from where it stands, is all of it.
use mathlib.Core.Path.{◌≡◌}
use Prim.Native.Nat.{◌-◌}
use Rattle.hextext.specs.HexText.{rows_into}
use Rattle.hextext.proofs.read_rows.Given as goal

abbrev pub invariant-loop-i : goal.invariant-loop-i
invariant-loop-i l = rows_into l.text (l.rows - l.i) l.sheet l.i l.at ≡ rows_into l.text l.rows l.initial.sheet 0 l.initial.at
