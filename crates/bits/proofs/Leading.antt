-- What a number rounds to, from its leading 64 digits: d of them are dropped (`Drop`). Assumes nothing.
use Rattle.std.proofs.Common.{◌≡◌, ℕ, suc, ◌+◌, ◌-◌, ◌/◌, ◌%◌, ◌^◌, ◌<◌, ◌≤◌, Bool, ◌||◌, ltb, ◌⊎◌, sym, ap, ◌∙◌, subst, inl, inr, lt_of_lt_of_le, eq-or-lt_of_le, le-div_iff_mul-le, arith, lit<, pow_pos, pow_mono, shr_lt}
use Prim.Native.Nat.{Ordering}
use native.Mathlib.Nat.{div-eq_of_lt}
use lib.Ieee.{binary64, nearest, units, round}
use lib.Ieee.Fits.{nearest-le}
use lib.Ieee.Nearest.{nearest-ge}
use Rattle.laws.specs.laws.Digits.{size_exact}
use Rattle.bits.specs.Rounded.{Kept}
use Rattle.bits.specs.Steps.{ord_of, Drop, spare}
use Rattle.bits.specs.laws.Once.{kept-round}

only_11 : (d t : ℕ) → 11 ≤ d → (11 < d → t ≡ spare) → (d ≡ 11) ⊎ (t ≡ spare)
only_11 d t a h = pick (eq-or-lt_of_le a)
  where
    pick : (11 ≡ d) ⊎ (11 < d) → (d ≡ 11) ⊎ (t ≡ spare)
    pick (inl e) = inl (sym e)
    pick (inr g) = inr (h g)

dropped : (e d : ℕ) → Drop e d → 64 + e - spare - 53 ≡ d + e - spare
dropped e d g = go (only_11 d (d + e) g.some g.less)
  where
    go : (d ≡ 11) ⊎ (d + e ≡ spare) → 64 + e - spare - 53 ≡ d + e - spare
    go (inl q) = omega arith
    go (inr q) = let a = g.some in omega arith

module _ (s : Bool) (n w e d : ℕ) (m : Bool) (k : Kept n w e m) (a : 2 ^ 63 ≤ w) (b : w < 2 ^ 64) (g : Drop e d) where
  pub full_is : units binary64 s (nearest (w / 2 ^ (d - 1) / 2) (ord_of (w / 2 ^ (d - 1) % 2) (m || ltb 0 (w % 2 ^ (d - 1))))) (d + e - spare) ≡ round binary64 s n (2 ^ (spare + 1074))
  full_is =
      let x = g.some in
      let y = g.reaches in
      sym (kept-round binary64 s n w e spare (d - 1) (d + e - spare) m k (lt_of_lt_of_le (lit< tt) a)
      (ap (λ (z : ℕ). z + e - spare - 53) (size_exact w 63 a b) ∙ dropped e d g)
      (let z : spare + (d + e - spare) ≡ suc (d - 1 + e) = omega arith in z))

  -- where all 64 are dropped, and the digit that decides is above them
  pub full_zero : 64 < d → units binary64 s 0 0 ≡ round binary64 s n (2 ^ (spare + 1074))
  unfolding ord_of
  full_zero h =
      let z : w / 2 ^ (d - 1) ≡ 0 = div-eq_of_lt (lt_of_lt_of_le b (pow_mono (let y : 64 ≤ d - 1 = omega arith in y))) in
      let q : d + e - spare ≡ 0 = let y = g.less (let v : 11 < d = omega arith in v) in omega arith in
      sym (λ i. units binary64 s (nearest (z i / 2) (ord_of (z i % 2) (m || ltb 0 (w % 2 ^ (d - 1))))) (q i)) ∙ full_is

-- what `packed` asks
pub full_bounds : (w e d q : ℕ) (o : Ordering) → q ≡ nearest (w / 2 ^ (d - 1) / 2) o → 2 ^ 63 ≤ w → w < 2 ^ 64 → Drop e d → (q ≤ 2 ^ 53) × (0 < d + e - spare → 2 ^ 52 ≤ q)
full_bounds w e d q o z a b g =
    let c = w / 2 ^ (d - 1) in
    let d1 = g.some in
    let hi : c < 2 ^ 54 = shr_lt 54 (d - 1) (lt_of_lt_of_le b (pow_mono (let y : 64 ≤ 54 + (d - 1) = omega arith in y))) in
    let x = nearest-le (c / 2) o in
    (omega arith, λ h. low_bound h (only_11 d (d + e) d1 g.less))
  where
    low_bound : 0 < d + e - spare → (d ≡ 11) ⊎ (d + e ≡ spare) → 2 ^ 52 ≤ q
    low_bound h (inl v) =
        let lo : 2 ^ 53 ≤ w / 2 ^ 10 = (le-div_iff_mul-le (pow_pos 10)).1 a in
        let lo' : 2 ^ 53 ≤ w / 2 ^ (d - 1) = subst (λ (x : ℕ). 2 ^ 53 ≤ w / 2 ^ (x - 1)) (sym v) lo in
        let y = nearest-ge (w / 2 ^ (d - 1) / 2) o in
        omega arith
    low_bound h (inr v) = absurd (let y : ⊥ = omega arith in y)
