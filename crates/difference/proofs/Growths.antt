-- The difference of two totals, from that of the raised ones. Assumes nothing.
use mathlib.Core.Path.{◌≡◌, ap, ◌∙◌, sym}
use mathlib.Core.Bool.{true, false}
use mathlib.Core.List.{List}
use Prim.Native.Nat.{ℕ, suc, ◌+◌, ◌-◌, ◌≤◌, ◌<◌}
use native.Mathlib.Omega.{arith}
use lib.IntN.{nat_abs, sub_ℕ, ◌-ℤ◌}
use Rattle.total.specs.Total.{N}
use Rattle.ledger.specs.Calls.{exact_of}
use Rattle.difference.specs.Difference.{signed_of, growth_of, below_zero}
use Rattle.difference.specs.Limbs.{raised_of}
use Rattle.difference.specs.laws.Whole.{sub_up, sub_down}
use Rattle.difference.specs.laws.Growth.{apart-raised}

-- the totals a and b raised are x and y
module _ (s t : List ℕ) (a b x y : ℕ) (f : a ≡ exact_of s) (g : b ≡ exact_of t) (h : a < N) (k : b < N) (p : x ≡ raised_of a) (q : y ≡ raised_of b) where
  growth_is : growth_of s t ≡ sub_ℕ y x
  unfolding growth_of
  growth_is = (λ i. signed_of (sym g i) -ℤ signed_of (sym f i)) ∙ apart-raised a b h k ∙ (λ i. sub_ℕ (sym q i) (sym p i))

  -- d is left of the new one less the old one, or of the old one less the new one
  pub grows : (d : ℕ) → d + x ≡ y → (false ≡ below_zero (growth_of s t)) × (d ≡ nat_abs (growth_of s t))
  grows d e =
      let z = growth_is ∙ sub_up y x (let m : x ≤ y = omega arith in m) in
      (sym (ap below_zero z), (let m : d ≡ y - x = omega arith in m) ∙ sym (ap nat_abs z))

  pub shrinks : (d : ℕ) → y < x → d + y ≡ x → (true ≡ below_zero (growth_of s t)) × (d ≡ nat_abs (growth_of s t))
  shrinks d l e =
      let z = growth_is ∙ sub_down y x l in
      (sym (ap below_zero z), (let m : d ≡ suc (x - suc y) = omega arith in m) ∙ sym (ap nat_abs z))
