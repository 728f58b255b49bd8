-- What stands before the first e, of what is left.
use Rattle.hexline.specs.Parts.{part_at}
use Rattle.hexline.proofs.parts.part.Goals as goal

pub returns : goal.returns
unfolding part_at
returns c = rw (c.find.ensures.0, c.after-rest.ensures) at c.front.ensures
