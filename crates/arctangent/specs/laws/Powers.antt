-- The second power. Assumes nothing.
use Rattle.std.specs.Prelude.{◌≡◌, ℕ, ◌*◌, ◌^◌}
use Rattle.std.proofs.Common.{ap, ◌∙◌, one-mul}
use Rattle.bounds.specs.laws.Powers.{pow-two_more}
use Rattle.std.proofs.Math.Nat.{pow-zero}

pub pow-two : (x : ℕ) → x ^ 2 ≡ x * x
pow-two x = pow-two_more x 0 ∙ ap (λ (z : ℕ). z * (x * x)) (pow-zero x) ∙ one-mul (x * x)
