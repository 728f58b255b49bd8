-- Which kind of value a float is, from the tests that a program makes. Assumes nothing.
use Rattle.std.specs.Prelude.{◌≡◌, refl, ◌*◌, Bool, true, false, not, ◌&&◌, T, eqb, Float}
use Rattle.std.proofs.Common.{true≢false}
use Rattle.std.proofs.Math.Dec.{eqb_refl}
use Rattle.std.specs.Float.{nan, inf, fin}
use Rattle.std.specs.Float.Ieee.{up, down, is_nan, ne, eq}
use Rattle.std.specs.Float.Ieee.Compare.{differs_from_itself}
use Rattle.laws.specs.laws.Flags.{holds}

-- `x != x`
pub nan_of_lem : (x : Float) → ne x x ≡ true → x ≡ nan
nan_of_lem x e = differs_from_itself x (holds e)

pub not-nan : (x : Float) → ne x x ≡ false → T (not (is_nan x))
unfolding is_nan ne eq
not-nan nan e = absurd (true≢false e)
not-nan (inf s) e = tt
not-nan (fin s m e) h = tt

-- `v != v` holds of NaN alone
level_own : (b : Bool) → T b → not (b && true) ≡ false
level_own true h = refl
level_own false h = elim h [ ]

pub differs_is : (v : Float) → ne v v ≡ is_nan v
unfolding ne eq is_nan
differs_is nan = refl
differs_is (inf true) = refl
differs_is (inf false) = refl
differs_is (fin true m e) = level_own (eqb (m * up e * down e) (m * up e * down e)) (eqb_refl (m * up e * down e))
differs_is (fin false m e) = level_own (eqb (m * up e * down e) (m * up e * down e)) (eqb_refl (m * up e * down e))
