-- What the call brought, and nothing where it failed.
use Rattle.std.proofs.Common.{ℕ, List, take, subst, arith}
use Rattle.std.specs.Result.{result_unwrap_or}
use Rattle.files.specs.Calls.{Called, called, words}
use Rattle.files.proofs.calling.word.Goals as goal

pub returns-clause-called : goal.returns-clause-called
returns-clause-called c = subst (λ (t : List ℕ). Called (words c.args.i t)) (grind arith) (called (words _ (take (result_unwrap_or c.arg.result 0) c.arg.new.buf)))
