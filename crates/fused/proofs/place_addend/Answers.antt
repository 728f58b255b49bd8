-- `place_addend` meets its contract (`Places`).
use Rattle.std.proofs.Common.{refl}
use Rattle.fused.proofs.Places.{addend_same}
use Rattle.fused.proofs.place_addend.Goals as goal

pub returns : goal.returns
returns c = let z = c.args.z in let r = c.lifted-c.result in (refl, addend_same z.digits z.exponent r.digits r.exponent c.from.result c.lifted-c.ensures c.from.ensures)
