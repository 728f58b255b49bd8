-- A part of zeros is zeros. Assumes nothing.
use Rattle.std.specs.Prelude.{◌≡◌, refl, ℕ, zero, suc, ◌≤◌, List, ◌∷◌, take, replicate}
use Rattle.std.proofs.Common.{ap, arith}

pub take-zeros : (n m : ℕ) → n ≤ m → take {A = ℕ} n (replicate m 0) ≡ replicate n 0
take-zeros zero m h = refl
take-zeros (suc n) zero h = absurd (omega arith)
take-zeros (suc n) (suc m) h = ap (λ (s : List ℕ). 0 ∷ s) (take-zeros n m (omega arith))
