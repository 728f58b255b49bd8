-- Powers by degrees: the first, and two degrees more. Assumes nothing.
use Rattle.std.specs.Prelude.{◌≡◌, ℕ, ◌+◌, ◌*◌, ◌^◌}
use Rattle.std.proofs.Common.{ap, ◌∙◌, mul_assoc, mul_comm, pow-suc, one-mul}
use Rattle.std.proofs.Math.Nat.{pow-zero}
use Rattle.std.proofs.Math.Numerals.{add-two}

pub pow-one : (x : ℕ) → x ^ 1 ≡ x
pow-one x = pow-suc x 0 ∙ ap (λ (z : ℕ). z * x) (pow-zero x) ∙ one-mul x

pub pow-two_more : (x n : ℕ) → x ^ (n + 2) ≡ x ^ n * (x * x)
pow-two_more x n = ap (λ (k : ℕ). x ^ k) (add-two n) ∙ simp (pow-suc, mul_assoc, mul_comm)
