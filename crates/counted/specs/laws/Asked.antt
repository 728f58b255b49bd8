-- Answers with their rounds, down a list of tests: rounds are made only below those that ask no recipe. Assumes nothing.
use Rattle.std.specs.Prelude.{◌≡◌, refl, Bool, true, false, cond, ℕ, zero, suc, ◌<◌, Result}
use Rattle.std.proofs.Common.{arith}
use Rattle.answer.specs.declared.Answer.{Answer}
use Rattle.answer.specs.declared.Refusal.{Refusal}
use Rattle.answer.specs.declared.Counted.{Counted}
use Rattle.answer.specs.Settle.{unasked_of}

pub asked : (t : Bool) (a : Result Answer Refusal) (c : Counted) → 0 < (cond t (unasked_of a) c).rounds → (t ≡ false) × (0 < c.rounds)
asked true a c h = absurd (let z : ⊥ = omega arith in z)
asked false a c h = (refl, h)

pub none : (k : ℕ) → (0 < k → ⊥) → k ≡ 0
none zero h = refl
none (suc k) h = absurd (h (omega arith))

-- so a test that leaves no rounds failed where some were made
pub failed : {n : ℕ} (t : Bool) → 0 < n → (t ≡ true → n ≡ 0) → t ≡ false
failed true h e = let z = e refl in absurd (let z : ⊥ = omega arith in z)
failed false h e = refl
