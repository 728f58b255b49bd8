-- The words so far are there.
use Rattle.std.proofs.Common.{ℕ, ◌<◌, true}
use Rattle.files.specs.Calls.{has, Called}
use Rattle.files.proofs.calling.word_count.Given as goal

abbrev pub invariant-loop-n : goal.invariant-loop-n
invariant-loop-n l = (k : ℕ) → k < l.n → Called (has k true)
