-- Where there is an answer: the logarithm of every finite x > 0; that of 1 is +0. Assumes nothing.
use Rattle.std.specs.Prelude.{◌≡◌, refl, Bool, true, false, not, cond, ℕ, suc, ℤ, T, eqb, Ok, Err}
use Rattle.std.proofs.Common.{ap, arith, eqb→eq}
use Rattle.std.specs.Float.{fin}
use Rattle.std.specs.Float.Ieee.{round, of_bits}
use Rattle.std.specs.Float.Ieee.Bits.{is_false}
use Rattle.laws.specs.Arithmetic.{+0, 1·0}
use Rattle.answer.specs.declared.Answer.TheVariants.{One}
use Rattle.answer.specs.declared.Refusal.TheVariants.{OutOfRange}
use Rattle.logarithm.specs.Series.{units_of, places}
use Rattle.logarithm.specs.Logarithm.{odds_of, part_of, logarithm_at, logarithm_of}

pub logarithm_answers : (m : ℕ) (e : ℤ) → logarithm_of (fin false (suc m) e) ≡ Ok (One (logarithm_at (units_of (fin false (suc m) e))))
unfolding logarithm_of
logarithm_answers m e =
    ap (λ (b : Bool). cond b (Err OutOfRange) (Ok (One (logarithm_at (units_of (fin false (suc m) e)))))) (is_false (eqb (suc m) 0) (none (eqb (suc m) 0) (eqb→eq (suc m) 0)))
  where
    none : (b : Bool) → (T b → suc m ≡ 0) → T (not b)
    none true k = absurd (let z = k tt in omega arith)
    none false k = tt

pub logarithm_one : logarithm_of 1·0 ≡ Ok (One +0)
unfolding logarithm_of logarithm_at units_of places part_of odds_of round of_bits
logarithm_one = refl
