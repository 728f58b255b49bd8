-- What an answer reads out as (01, "Refusal numbers" and "How to write each place"): its number and its two values. Definitions only.
use Rattle.std.specs.Prelude.{ℕ, Result, Ok, Err, Float}
use Rattle.std.specs.Float.{nan, inf}
use Rattle.laws.specs.Arithmetic.{+0}
use Rattle.answer.specs.declared.Answer.{Answer}
use Rattle.answer.specs.declared.Answer.TheVariants.{One, Pair, Infinite}
use Rattle.answer.specs.declared.Refusal.{Refusal}
use Rattle.answer.specs.Numbers.{number}

-- the value, or the first of a pair
abbrev pub first : Answer → Float
first (One x) = x
first (Pair x y) = x
first (Infinite s) = inf s

-- the second of a pair; +0 where there is none
abbrev pub second : Answer → Float
second (One x) = +0
second (Pair x y) = y
second (Infinite s) = +0

-- the refusal number; 0: no refusal
unfoldable pub refusal_of : {A : Type 0} → Result A Refusal → ℕ
refusal_of (Ok a) = 0
refusal_of (Err r) = number r

-- the first value; a refusal reads out as +0
unfoldable pub first_of : Result Answer Refusal → Float
first_of (Ok a) = first a
first_of (Err r) = +0

-- the second value; +0 where there is none
unfoldable pub second_of : Result Answer Refusal → Float
second_of (Ok a) = second a
second_of (Err r) = +0

-- the first value, or NaN: what a formula that calls another integral goes on with
unfoldable pub value_of : Result Answer Refusal → Float
value_of (Ok a) = first a
value_of (Err r) = nan

-- the answer is one float, and P holds of it
unfoldable pub OneThat : (Float → Type 0) → Result Answer Refusal → Type 0
OneThat P (Ok (One x)) = P x
OneThat P (Ok (Pair x y)) = ⊥
OneThat P (Ok (Infinite s)) = ⊥
OneThat P (Err r) = ⊥
