-- `five` meets its contract: each step goes on from where the one before ends.
use mathlib.Core.Path.{◌≡◌, ap, ◌∙◌}
use Prim.Native.Nat.{ℕ, ◌+◌}
use native.Mathlib.Omega.{arith}
use Rattle.angle.specs.Alternating.{tail_of}
use Rattle.angle.specs.declared.series.Balance.{Balance}
use Rattle.angle.proofs.series.five.Goals as goal

module _ (b : Balance) (t n : ℕ) where
  from : (i : ℕ) → b ≡ tail_of t (n + (i + 2)) → b ≡ tail_of t (n + i + 2)
  from i e = e ∙ ap (tail_of t) (go n i)
    where
      go : (n i : ℕ) → n + (i + 2) ≡ n + i + 2
      go n i = omega arith

pub step-b-requires : goal.step-b-requires
step-b-requires c = (omega arith, c.requires.1, from c.args.b c.args.t c.args.n 8 c.requires.2)

pub step-b-requires-2 : goal.step-b-requires-2
step-b-requires-2 c = (omega arith, c.requires.1, from c.step-b.result c.args.t c.args.n 6 c.step-b.ensures)

pub step-b-requires-3 : goal.step-b-requires-3
step-b-requires-3 c = (omega arith, c.requires.1, from c.step-b-2.result c.args.t c.args.n 4 c.step-b-2.ensures)

pub step-b-requires-4 : goal.step-b-requires-4
step-b-requires-4 c = (omega arith, c.requires.1, from c.step-b-3.result c.args.t c.args.n 2 c.step-b-3.ensures)
