-- The digits left after those read spell, from the number so far, what all of them spell; i digits stay below 16 ^ i.
use mathlib.Core.Path.{◌≡◌}
use Prim.Native.Nat.{◌^◌, ◌<◌}
use lib.ListN.{drop}
use Rattle.line.specs.Line.{spell_of, few_of}
use Rattle.line.proofs.digits.read_digits.Given as goal

abbrev pub invariant-loop-b : goal.invariant-loop-b
invariant-loop-b l = (spell_of l.base l.n (drop l.b-index l.s) ≡ few_of l.base l.s) × (l.n < 16 ^ l.b-index)
