-- The part that begins at the field's place.
use Rattle.hexline.specs.Fields.{says_of}
use Rattle.hexline.proofs.fields.says.Goals as goal

pub returns : goal.returns
unfolding says_of
returns c = rw (c.part.ensures, c.place.ensures) at c.field.ensures
