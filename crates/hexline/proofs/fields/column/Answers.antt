-- The smaller of the place and the length, from 1.
use Rattle.std.proofs.Common.{arith}
use Rattle.hexline.specs.Fields.{column_of}
use Rattle.hexline.proofs.fields.column.Goals as goal

pub returns : goal.returns
unfolding column_of
returns c = grind arith
