-- A file that was read, or was not. Assumes nothing.
use Rattle.std.specs.Prelude.{◌≡◌, Bool, List, ℕ}
use Rattle.std.proofs.Common.{subst}
use Rattle.loading.specs.Load.{Load}

pub loaded_as : {name bytes : List ℕ} {ok was : Bool} → ok ≡ was → Load name bytes ok → Load name bytes was
loaded_as {name} {bytes} e l = subst (Load name bytes) e l
