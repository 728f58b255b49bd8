-- `run` meets its contract: each turn puts one term before the others (`Runs`), and the sum is at most 9/8.
use Rattle.std.proofs.Common.{◌≡◌, ℕ, zero, suc, ◌+◌, ◌-◌, ◌*◌, ◌/◌, ◌^◌, ◌≤◌, sym, ap, ap₂, ◌∙◌, subst, Fits-le, Fits-lit, arith}
use Rattle.bits.specs.Runs.{run_of}
use Rattle.bits.specs.laws.Runs.{run-le, run_turn}
use Rattle.bits.proofs.fractions.run.Goals as goal
use Rattle.bits.proofs.fractions.run.Goals.{After-upper}

pub loop-i-init : goal.loop-i-init
unfolding run_of
loop-i-init c = let a = c.args in ap (λ (x : ℕ). run_of a.u (a.n + a.d * a.k) a.d x) (sym (none a.k))
  where
    none : (k : ℕ) → k - k ≡ 0
    none k = omega arith

-- the next sum
next : (c : After-upper) → let a = c.args in 2 ^ 63 / (a.n + a.d * (c.loop-i.i - 1)) + c.upper.result ≡ run_of a.u (a.n + a.d * (c.loop-i.i - 1)) a.d (a.k - (c.loop-i.i - 1))
next c = let a = c.args in let l = c.loop-i in run_turn a.u a.n a.d a.k l.i l.h c.upper.result c.loop-i-test.true l.auto.i l.invariant c.upper.ensures

pub overflow_add-h-in-loop-i : goal.overflow_add-h-in-loop-i
overflow_add-h-in-loop-i c =
    let a = c.args in
    let i = c.loop-i.i - 1 in
    Fits-le (subst (λ (z : ℕ). z ≤ 9 * 2 ^ 60) (sym (next (goal.at.overflow_add-h-in-loop-i c).After-upper)) (run-le a.u (a.n + a.d * i) a.d (a.k - i) c.requires.0)) (Fits-lit tt)

pub loop-i-preserved : goal.loop-i-preserved
loop-i-preserved c = next (goal.at.loop-i-preserved c).After-upper

pub returns : goal.returns
returns c =
    let a = c.args in
    c.loop-i.invariant ∙ ap₂ (λ (x y : ℕ). run_of a.u x a.d y) (start a.n a.d c.loop-i.i c.loop-i-test.false) (all a.k c.loop-i.i c.loop-i-test.false)
  where
    start : (n d i : ℕ) → i ≤ 0 → n + d * i ≡ n
    start n d zero h = omega arith
    start n d (suc i) h = absurd (omega arith)

    all : (k i : ℕ) → i ≤ 0 → k - i ≡ k
    all k i h = omega arith
