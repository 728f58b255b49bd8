-- An answer with its sign turned, which an odd function has for -φ. Definitions only.
use Rattle.std.specs.Prelude.{not, Result, Ok, Err}
use Rattle.std.specs.Float.Ieee.{neg}
use Rattle.answer.specs.declared.Answer.{Answer}
use Rattle.answer.specs.declared.Refusal.{Refusal}
use Rattle.answer.specs.declared.Answer.TheVariants.{One, Pair, Infinite}
use Rattle.answer.specs.declared.Counted.{Counted}

-- the answer with its sign turned; a refusal stays
unfoldable pub turn_of : Result Answer Refusal → Result Answer Refusal
turn_of (Ok (One x)) = Ok (One (neg x))
turn_of (Ok (Pair x y)) = Ok (Pair (neg x) (neg y))
turn_of (Ok (Infinite s)) = Ok (Infinite (not s))
turn_of (Err n) = Err n

-- after as many rounds
abbrev pub turned_of : Counted → Counted
turned_of c = record { answer = turn_of c.answer; rounds = c.rounds }
