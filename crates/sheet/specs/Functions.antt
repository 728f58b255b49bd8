-- The functions by their numbers (01, "The leg sheet", and 02). Definitions only.
use Rattle.std.specs.Prelude.{ℕ, cond, leb, eqb, Result, Ok, Err}
use Rattle.laws.specs.Arithmetic.{float, +0}
use Rattle.laws.specs.Ladder.{when◌gives◌else◌}
use Rattle.answer.specs.declared.Answer.{Answer}
use Rattle.answer.specs.declared.Refusal.{Refusal}
use Rattle.answer.specs.declared.Answer.TheVariants.{One}
use Rattle.answer.specs.declared.Refusal.TheVariants.{NoSuchFunction}
use Rattle.answer.specs.declared.Counted.{Counted}
use Rattle.answer.specs.Settle.{unasked_of}
use Rattle.legendre.specs.Ellipk.{ellipk_of}
use Rattle.legendre.specs.Ellipe.{ellipe_of}
use Rattle.legendre.specs.Ellipke.{ellipke_of}
use Rattle.ellippi.specs.Ellippi as Ellippi
use Rattle.ellipeinc.specs.Ellipeinc as Ellipeinc
use Rattle.ellipf.specs.Ellipf as Ellipf

-- how many of the three arguments a function reads
unfoldable pub used_of : ℕ → ℕ
used_of f = cond (eqb f 0) 0 (cond (leb f 3) 1 2)

-- the function of this number at its arguments' bit patterns, in the Rust's order, and the rounds of all recipes asked for it (02, [3]); 0 is a blank row
unfoldable pub counted_of : ℕ → ℕ → ℕ → ℕ → Counted
counted_of f a b c =
    when eqb f 0 gives unasked_of (Ok (One +0)) else
    when eqb f 1 gives unasked_of (ellipk_of (float a)) else
    when eqb f 2 gives unasked_of (ellipe_of (float a)) else
    when eqb f 3 gives unasked_of (ellipke_of (float a)) else
    when eqb f 4 gives Ellippi.counted_of (float a) (float b) else
    when eqb f 5 gives Ellipeinc.counted_of (float a) (float b) else
    when eqb f 6 gives Ellipf.counted_of (float a) (float b) else
    unasked_of (Err NoSuchFunction)

unfoldable pub evaluate_of : ℕ → ℕ → ℕ → ℕ → Result Answer Refusal
evaluate_of f a b c = (counted_of f a b c).answer
