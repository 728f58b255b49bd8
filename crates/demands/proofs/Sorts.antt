-- Each function reads the sorts that it is said to read. Assumes nothing.
use Rattle.std.specs.Prelude.{refl, ℕ}
use Rattle.ellippi.specs.Ellippi.{ellippi_of}
use Rattle.ellipeinc.specs.Ellipeinc.{ellipeinc_of}
use Rattle.ellipf.specs.Ellipf.{ellipf_of}
use Rattle.sheet.specs.Functions.{counted_of, evaluate_of}
use Rattle.demands.specs.laws.Sorts.{Sorts}

pub sorts : (a b c : ℕ) → Sorts a b c
unfolding evaluate_of counted_of ellippi_of ellipeinc_of ellipf_of
sorts a b c = record { first = refl; second = refl; both = refl; third = refl; incomplete = refl; incomplete_first = refl }
