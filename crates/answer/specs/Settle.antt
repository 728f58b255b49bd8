-- What a computed value is handed out as (01, refusals 5 and 6). Definitions only.
use Rattle.std.specs.Prelude.{Bool, true, false, not, Result, Ok, Err, Float}
use Rattle.std.specs.Float.{nan, inf, fin}
use Rattle.laws.specs.Ladder.{when◌gives◌else◌}
use Rattle.answer.specs.declared.Answer.{Answer}
use Rattle.answer.specs.declared.Answer.TheVariants.{One, Infinite}
use Rattle.answer.specs.declared.Refusal.{Refusal}
use Rattle.answer.specs.declared.Refusal.TheVariants.{Unmet, NotFinite}
use Rattle.answer.specs.declared.Counted.{Counted}

unfoldable pub infinite_of : Float → Bool
infinite_of nan = false
infinite_of (inf s) = true
infinite_of (fin s m e) = false

-- where an infinity is no answer: it and NaN are 6
unfoldable pub finite_of : Float → Result Answer Refusal
finite_of nan = Err NotFinite
finite_of (inf s) = Err NotFinite
finite_of (fin s m e) = Ok (One (fin s m e))

-- and 5, a recipe that was not met, comes before 6
unfoldable pub settled_of : Bool → Float → Result Answer Refusal
settled_of met v =
    when not met gives Err Unmet else
    finite_of v

-- where an infinity is an answer: NaN is 6
unfoldable pub handed_of : Float → Result Answer Refusal
handed_of nan = Err NotFinite
handed_of (inf s) = Ok (Infinite s)
handed_of (fin s m e) = Ok (One (fin s m e))

-- no recipe is asked: 0 rounds (02, [3])
abbrev pub unasked_of : Result Answer Refusal → Counted
unasked_of a = record { answer = a; rounds = 0 }
