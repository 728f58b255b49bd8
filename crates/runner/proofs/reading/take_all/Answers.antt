-- A read failed, or the end of the input ends its last line.
use Rattle.std.proofs.Common.{◌≡◌, true, false, refl, List, ℕ, ℤ}
use Rattle.std.specs.Prelude.{Result, Ok, Err, IsErrAnd}
use Rattle.std.specs.Result.{is_err}
use Rattle.ending.specs.declared.outcome.State.{State}
use Rattle.ending.specs.Outcome.{state_of}
use Rattle.runner.specs.Machine.{Room}
use Rattle.runner.specs.Done.{Took}
use Rattle.runner.proofs.Runs.{took_failed, took_all}
use Rattle.runner.proofs.reading.take_all.Goals as goal

-- the state goes on as the Err
failed_at : (input : ℤ) (w : Room) (m : List ℕ) (st : State) (r : Result State State) → IsErrAnd r (λ e. e ≡ st) → Took input w st m true → Took input w (state_of r) m (is_err r)
failed_at input w m st (Ok x) h t = absurd h
failed_at input w m st (Err e) h t = rw h t

pub returns-in_err-st : goal.returns-in_err-st
returns-in_err-st c = failed_at _ _ _ _ c.from_residual.result c.from_residual.ensures.1 (took_failed true refl c.in_err-st.ensures)

pub returns : goal.returns
returns c = took_all false refl c.in_ok-st.ensures c.finish.result _ _ c.finish.ensures
