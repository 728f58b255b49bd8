-- std's test for an infinity tells it apart as the definition does. Assumes nothing.
use Rattle.std.specs.Prelude.{◌≡◌, refl, Float}
use Rattle.std.specs.Float.{nan, inf, fin, float_is_infinite}
use Rattle.answer.specs.Settle.{infinite_of}

pub infinite_kinds : (v : Float) → float_is_infinite v ≡ infinite_of v
unfolding float_is_infinite infinite_of
infinite_kinds nan = refl
infinite_kinds (inf s) = refl
infinite_kinds (fin s m e) = refl
