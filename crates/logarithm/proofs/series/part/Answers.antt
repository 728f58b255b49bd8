-- `part` meets its contract: each call is a step of `part_of`, and a fraction of at most 1/5 keeps the square small.
use mathlib.Core.Path.{sym, ◌∙◌, ap, subst}
use Prim.Native.Nat.{ℕ, ◌+◌, ◌-◌, ◌*◌, ◌/◌, ◌^◌, ◌≤◌}
use native.Mathlib.Omega.{arith}
use lib.Dec.{lit<}
use Rattle.logarithm.proofs.Odds.{w_le}
use Rattle.logarithm.proofs.Loops.{run_odds}
use Rattle.logarithm.proofs.Factoring.{part_none, is_part}
use Rattle.logarithm.proofs.series.part.Goals as goal

pub returns-then-a-b : goal.returns-then-a-b
returns-then-a-b c = let a = c.args in part_none a.a a.b (a.a + a.b) c.if-a-b.true

pub run-requires : goal.run-requires
run-requires c =
    let a = c.args.a in
    let b = c.args.b in
    (subst (λ (w : ℕ). w ≤ 2 ^ 60) (sym (c.upper.ensures ∙ ap (λ (t : ℕ). t * t / 2 ^ 64) c.quotient-t.ensures)) (w_le (a - b) (a + b) (omega (arith, c.if-a-b.false)) (fifth a b c.requires.0)), lit< tt, lit< tt)
  where
    fifth : (a b : ℕ) → 2 * a ≤ 3 * b → 5 * (a - b) ≤ a + b
    fifth a b h = omega arith

pub returns : goal.returns
returns c =
    is_part (c.args.a - c.args.b) (c.args.a + c.args.b) c.quotient-t.result c.upper.result c.run.result c.upper-2.result c.quotient-t.ensures c.upper.ensures (c.run.ensures ∙ run_odds c.upper.result 1 21) c.upper-2.ensures
