-- Two bytes as a number.
use Rattle.std.proofs.Common.{arith}
use Rattle.ledger.specs.Sheet.{times_in}
use Rattle.ledger.proofs.Words.{part_2}
use Rattle.ledger.proofs.row.times.Goals as goal

pub returns : goal.returns
unfolding times_in
returns c = part_2 c.args.row.now 2 _ _ (omega (arith, c.told-row)) c.part.ensures c.from_le_bytes.ensures
