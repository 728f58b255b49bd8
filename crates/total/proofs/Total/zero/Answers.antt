use Rattle.std.proofs.Common.{refl}
use Rattle.total.specs.Total.{val, limbs_of, lowest}
use Rattle.total.proofs.Total.zero.Goals as goal

pub returns : goal.returns
unfolding val limbs_of lowest
returns c = (refl, refl)
