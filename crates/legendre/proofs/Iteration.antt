-- The loop of either mean, argued once: what holds at its head, and what follows where it ends. Assumes nothing.
use mathlib.Core.Path.{◌≡◌, refl, sym, ◌∙◌}
use mathlib.Core.Bool.{Bool, true, false}
use Prim.Native.Nat.{ℕ, zero, suc, ◌≤◌, ◌<◌, ◌-◌, ◌+◌}
use native.Mathlib.Omega.{arith}
use Rattle.legendre.specs.Mean.{iterate, iterated}

module _ {S : Type 0} (goes : S → Bool) (round : S → S) (first : S) where
  -- the rest of the run, from s after k rounds, is the whole run's
  abbrev pub Holds : S → ℕ → Type 0
  Holds s k = (k ≤ 32) × (iterated goes round (32 - k) s ≡ iterated goes round 32 first)

  pub at_start : (s : S) → s ≡ first → Holds s 0
  at_start s h = (omega arith, rw h)

  pub at_next : (s t : S) (k : ℕ) (b : Bool) → k < 32 → b ≡ goes s → b ≡ true → t ≡ round s → Holds s k → Holds t (k + 1)
  unfolding iterate
  at_next s t k b below e on h (_, inv) =
      let q : goes s ≡ true = sym e ∙ on in
      let n : 32 - k ≡ suc (32 - (k + 1)) = omega arith in
      (omega arith, rw h (rw (n, q) at inv))

  -- the test fails
  pub where_met : (s : S) (k : ℕ) (b : Bool) → b ≡ goes s → b ≡ false → Holds s k → s ≡ iterated goes round 32 first
  unfolding iterate
  where_met s k b e off (_, inv) =
      let q : goes s ≡ false = sym e ∙ off in
      stay (32 - k) ∙ (rw q at inv)
    where
      stay : (n : ℕ) → s ≡ iterate goes round n false s
      stay zero = refl
      stay (suc n) = refl

  -- no round is left
  pub where_spent : (s : S) (k : ℕ) → 32 ≤ k → Holds s k → s ≡ iterated goes round 32 first
  unfolding iterate
  where_spent s k over (_, inv) =
      let n : 32 - k ≡ 0 = omega arith in
      rw n at inv
