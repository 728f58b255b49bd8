-- Where m ≥ 1 ellipf asks for sine before the reduction, of |φ| < π/2: at most 4 in size, so refusal 12 can't arise. Assumes nothing.
use Rattle.std.specs.Prelude.{◌≡◌, false, T, Float}
use Rattle.std.proofs.Common.{sym, subst}
use Rattle.std.specs.Float.{nan, inf, fin}
use Rattle.std.specs.Float.Ieee.Scale.{finite}
use Rattle.laws.specs.Arithmetic.{◌≤·◌, ◌≠·◌, π/2, 4·0}
use Rattle.whole.specs.Whole.{magnitude_of}
use Rattle.identities.specs.laws.Magnitude.{magnitude_fin}
use Rattle.identities.specs.laws.Angles.{quarter_small, quarter_finite}

-- sine is asked before the reduction
pub before_reduction : (φ : Float) → (φ ≠· φ) ≡ false → (π/2 ≤· magnitude_of φ) ≡ false → T (magnitude_of φ ≤· 4·0)
before_reduction φ k h = go φ (quarter_finite φ k h) h
  where
    go : (φ : Float) → T (finite φ) → (π/2 ≤· magnitude_of φ) ≡ false → T (magnitude_of φ ≤· 4·0)
    go (fin s m e) f h = subst (λ (a : Float). T (a ≤· 4·0)) (sym (magnitude_fin s m e)) (quarter_small m e (subst (λ (a : Float). (π/2 ≤· a) ≡ false) (magnitude_fin s m e) h))
    go nan f h = elim f [ ]
    go (inf _) f h = elim f [ ]
