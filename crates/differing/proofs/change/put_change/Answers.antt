-- One piece for each way to differ.
use native.Mathlib.Omega.{arith}
use Rattle.text.specs.laws.Writing.{put_none}
use Rattle.differing.specs.Differing.{change_text}
use Rattle.differing.proofs.change.put_change.Goals as goal

pub returns-in-Same : goal.returns-in-Same
unfolding change_text
returns-in-Same c = let a = c.args in rw c.in-Same.is record { put = put_none a.out.now a.at; upper_bound = omega arith }

pub returns-in-Moved : goal.returns-in-Moved
returns-in-Moved c = let p = c.put_moved.ensures in rw c.in-Moved.is record { put = p.put; upper_bound = omega (arith, p.upper_bound) }

pub returns-in-Alike : goal.returns-in-Alike
returns-in-Alike c = let p = c.put_alike.ensures in rw c.in-Alike.is record { put = p.put; upper_bound = omega (arith, p.upper_bound) }

pub returns-in-First : goal.returns-in-First
returns-in-First c = let p = c.put_first.ensures in rw c.in-First.is record { put = p.put; upper_bound = omega (arith, p.upper_bound) }

pub returns-in-Steps : goal.returns-in-Steps
returns-in-Steps c = let p = c.put_steps.ensures in rw c.in-Steps.is record { put = p.put; upper_bound = omega (arith, p.upper_bound) }
