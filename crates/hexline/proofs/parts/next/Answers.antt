-- The smaller of the place and the length, and the e behind it.
use Rattle.std.proofs.Common.{arith}
use Rattle.hexline.specs.Parts.{next_of}
use Rattle.hexline.proofs.parts.next.Goals as goal

pub returns : goal.returns
unfolding next_of
returns c = grind arith
