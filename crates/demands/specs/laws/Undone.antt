-- A value taken from the running total undoes adding it. Assumes nothing.
use Rattle.std.specs.Prelude.{◌≡◌, ℕ, ◌+◌, ◌^◌, ◌%◌, ◌<◌, T, Float}
use Rattle.std.proofs.Common.{ap, ◌∙◌, sym, add_assoc, add-zero}
use Rattle.std.proofs.Math.Nat.{mod-add-mod, add-mod-mod}
use Rattle.std.specs.Float.Ieee.{neg, fits}
use Rattle.std.specs.Float.{binary64}
use Rattle.total.specs.Total.{N, units_of, add_of, take_of}
use Rattle.total.specs.laws.Units.{opposite}

-- and undoes adding it
pub undone : (t k : ℕ) (x : Float) → k < 2 ^ 16 → T (fits binary64 x) → take_of (add_of t k x) k x ≡ t % N
unfolding add_of take_of
undone t k x b h =
    mod-add-mod (t + units_of k x) N (units_of k (neg x))
    ∙ ap (λ (n : ℕ). n % N) (add_assoc t (units_of k x) (units_of k (neg x)))
    ∙ sym (add-mod-mod t (units_of k x + units_of k (neg x)) N)
    ∙ ap (λ (n : ℕ). (t + n) % N) (opposite k x b h)
    ∙ ap (λ (n : ℕ). n % N) (add-zero t)
