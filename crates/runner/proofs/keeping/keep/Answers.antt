-- The sheet may be saved, or nothing is.
use Rattle.std.proofs.Common.{◌≡◌, Ok, Err, true, false, refl, arith}
use Rattle.runner.specs.Done.{saves, none, kept}
use Rattle.runner.proofs.Runs.{savable, unsaved, is_saved}
use Rattle.runner.proofs.keeping.keep.Goals as goal
use Rattle.runner.proofs.keeping.keep.Goals.{In-Ok}

-- the run went to the end of its input
ended : (c : In-Ok) → c.args.end ≡ Ok c.in-Ok.st
ended c = grind arith

pub returns-in_default-clause-keeps : goal.returns-in_default-clause-keeps
unfolding saves
returns-in_default-clause-keeps c = rw c.in_default.is (none refl)

pub returns-in_default-end-clause-keeps : goal.returns-in_default-end-clause-keeps
unfolding saves
returns-in_default-end-clause-keeps c =
    let e : c.args.end ≡ Err c.in_default-end.field-0 = grind arith in
    rw (c.in-Some.is, e) (none refl)

pub returns-then-st-clause-keeps : goal.returns-then-st-clause-keeps
unfolding saves
returns-then-st-clause-keeps c =
    let e = ended (goal.at.returns-then-st-clause-keeps c).In-Ok in
    rw (c.in-Some.is, e) (none (unsaved _ _ c.if-st.true))

pub save_sheet-requires : goal.save_sheet-requires
unfolding saves
save_sheet-requires c =
    let e = ended (goal.at.save_sheet-requires c).In-Ok in
    rw c.bytes.ensures (savable true false c.in-Ok.st c.args.sheet.now (is_saved _ _ c.if-st.false) (rw e at c.requires))

pub returns-then-is_err-clause-keeps : goal.returns-then-is_err-clause-keeps
unfolding saves
returns-then-is_err-clause-keeps c =
    let e = ended (goal.at.returns-then-is_err-clause-keeps c).In-Ok in
    rw (c.in-Some.is, e) (kept (is_saved _ _ c.if-st.false) (rw (c.bytes.ensures, c.if-is_err.ensures.negation) at c.save_sheet.ensures))

pub returns-clause-keeps : goal.returns-clause-keeps
unfolding saves
returns-clause-keeps c =
    let e = ended (goal.at.returns-clause-keeps c).In-Ok in
    rw (c.in-Some.is, e) (kept (is_saved _ _ c.if-st.false) (rw (c.bytes.ensures, c.if-is_err.ensures.negation) at c.save_sheet.ensures))
