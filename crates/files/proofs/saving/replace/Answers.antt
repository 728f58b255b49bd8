-- Written or not, named or not.
use Rattle.files.specs.Save.{unwritten, unnamed, saved}
use Rattle.files.proofs.saving.replace.Goals as goal

pub returns-then-is_err : goal.returns-then-is_err
returns-then-is_err c =
    unwritten c.args.new.now _ _ c.requires (rw c.if-is_err.ensures.negation at c.write_new.ensures) c.remove.ensures

pub returns-then-is_ok : goal.returns-then-is_ok
returns-then-is_ok c =
    saved c.args.new.now _ c.requires (rw c.if-is_err.ensures.negation at c.write_new.ensures) (rw (← c.if-is_ok.ensures.value) at c.rename.ensures)

pub returns : goal.returns
returns c =
    unnamed c.args.new.now _ _ c.requires (rw c.if-is_err.ensures.negation at c.write_new.ensures) (rw (← c.if-is_ok.ensures.value) at c.rename.ensures)
    c.remove-2.ensures
