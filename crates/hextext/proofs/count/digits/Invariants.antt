-- The digits left after those read spell, from the number so far, what all of them spell, cut at 1,025.
use mathlib.Core.Path.{◌≡◌}
use Prim.Native.Nat.{◌≤◌}
use lib.ListN.{drop}
use Rattle.line.specs.Line.{spell_of}
use Rattle.hextext.specs.HexText.{capped}
use Rattle.hextext.proofs.count.digits.Given as goal

abbrev pub invariant-loop-b : goal.invariant-loop-b
invariant-loop-b l = (capped (spell_of 10 l.n (drop l.b-index l.s)) ≡ capped (spell_of 10 0 l.s)) × (l.n ≤ 1025)
