-- Filled or not, synced or not.
use Rattle.std.proofs.Common.{Bool, true, false, ℤ, List, ℕ}
use Rattle.std.specs.Result.{is_ok}
use Rattle.files.specs.Calls.{Called, fills, syncs, closes}
use Rattle.files.specs.Save.{Written, unfilled, unsynced, synced}
use Rattle.files.proofs.saving.write_new.Goals as goal

came : {file : ℤ} {bytes : List ℕ} (s : Bool) → Called (fills file bytes true) → Called (syncs file bytes s) → Called (closes file) → Written file bytes s
came true f s c = synced f s c
came false f s c = unsynced f s c

pub returns-then-is_err : goal.returns-then-is_err
returns-then-is_err c = rw c.if-is_err.ensures.negation (unfilled (rw c.if-is_err.ensures.negation at c.fill-filled.ensures) c.close.ensures)

pub returns : goal.returns
returns c = came (is_ok c.sync-synced.result) (rw c.if-is_err.ensures.negation at c.fill-filled.ensures) c.sync-synced.ensures c.close-2.ensures
