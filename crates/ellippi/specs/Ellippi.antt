-- ellippi (01, "ellippi, in this order"); each arm has the operations of ellippi.rs, in its order, and the rounds of the recipes that it asks (02, [3]). Definitions only.
use Rattle.std.specs.Prelude.{◌+◌, true, cond, ◌||◌, ◌&&◌, Float, Result, Ok, Err}
use Rattle.std.specs.Float.Ieee.{neg}
use Rattle.laws.specs.Arithmetic.{◌⊕◌, ◌⊖◌, ◌⊗◌, ◌⊘◌, ◌<·◌, ◌=·◌, ◌≠·◌, float, +0, -∞, π/2, 1·0, 3·0}
use Rattle.laws.specs.Ladder.{when◌gives◌else◌}
use Rattle.answer.specs.Answer.{value_of}
use Rattle.answer.specs.declared.Answer.{Answer}
use Rattle.answer.specs.declared.Refusal.{Refusal}
use Rattle.answer.specs.declared.Answer.TheVariants.{One, Infinite}
use Rattle.answer.specs.declared.Refusal.TheVariants.{NotANumber, AboveOne, CharacteristicOne}
use Rattle.legendre.specs.Ellipk.{ellipk_of}
use Rattle.legendre.specs.Ellipe.{ellipe_of}
use Rattle.rf.specs.Rf.{rf_of}
use Rattle.rj.specs.Rj.{rj_of}
use Rattle.answer.specs.Settle.{settled_of, unasked_of}
use Rattle.answer.specs.declared.Counted.{Counted}
use Rattle.answer.specs.declared.Term.{Term}

-- a formula that asks no recipe
abbrev pub plain_term : Float → Term
plain_term v = record { value = v; met = true; rounds = 0 }

-- the file's `ellippi_vc`, rest being 1 - n (DLMF 19.25.2)
unfoldable pub from_rest_of : Float → Float → Float → Term
from_rest_of n m rest =
    let f = rf_of +0 (1·0 ⊖ m) 1·0 in
    let j = rj_of +0 (1·0 ⊖ m) 1·0 rest in
    record { value = f.value ⊕ n ⊗ j.value ⊘ 3·0; met = f.met && j.met; rounds = f.rounds + j.rounds + j.inside }

-- n > 1: Cauchy's principal value (DLMF 19.25.4)
unfoldable pub principal_of : Float → Float → Term
principal_of n m =
    let j = rj_of +0 (1·0 ⊖ m) 1·0 (1·0 ⊖ m ⊘ n) in
    record { value = neg (1·0 ⊘ 3·0) ⊗ m ⊘ n ⊗ j.value; met = j.met; rounds = j.rounds + j.inside }

-- 2^500
abbrev pub far : Float
far = float 0x5f30_0000_0000_0000

-- the factor of RJ for n < 0, m < 0: -n (1 - m) / (3 (1 - n)²); from 1 - n above 2^500 on, where that square is no f64, the quotients come first
unfoldable pub weight_of : Float → Float → Float → Float
weight_of n rn rm = cond (far <· rn) (neg n ⊘ rn ⊗ (rm ⊘ 3·0 ⊘ rn)) (neg n ⊗ rm ⊘ (3·0 ⊗ rn ⊗ rn))

-- n < 0, m < 0: DLMF 19.6.2 where n = m, else the file's form without m - n
unfoldable pub both_below_of : Float → Float → Term
both_below_of n m =
    let rn = 1·0 ⊖ n in
    let rm = 1·0 ⊖ m in
    let j = rj_of +0 rm 1·0 (rm ⊘ rn) in
    when m =· n gives plain_term (value_of (ellipe_of m) ⊘ (1·0 ⊖ m)) else
    record { value = value_of (ellipk_of m) ⊘ rn ⊕ weight_of n rn rm ⊗ j.value; met = j.met; rounds = j.rounds + j.inside }

-- n < 0, m ≥ 0 (A&S 17.7.17)
unfoldable pub first_below_of : Float → Float → Term
first_below_of n m =
    let t = from_rest_of ((m ⊖ n) ⊘ (1·0 ⊖ n)) m ((1·0 ⊖ m) ⊘ (1·0 ⊖ n)) in
    let a = t.value ⊗ neg n ⊘ (1·0 ⊖ n) in
    let b = a ⊗ (1·0 ⊖ m) ⊘ (m ⊖ n) in
    record { value = b ⊕ value_of (ellipk_of m) ⊗ m ⊘ (m ⊖ n); met = t.met; rounds = t.rounds }

-- n = 0
unfoldable pub first_zero_of : Float → Term
first_zero_of m =
    when m =· +0 gives plain_term π/2 else
    plain_term (value_of (ellipk_of m))

-- n = m > 0 (DLMF 19.6.2)
unfoldable pub diagonal_of : Float → Term
diagonal_of m = plain_term (1·0 ⊘ (1·0 ⊖ m) ⊗ value_of (ellipe_of m))

-- the file's arms; the last is 0 < n < 1
unfoldable pub arms_of : Float → Float → Term
arms_of n m =
    when 1·0 <· n gives principal_of n m else
    when n <· +0 && m <· +0 gives both_below_of n m else
    when n <· +0 gives first_below_of n m else
    when n =· +0 gives first_zero_of m else
    when m =· n gives diagonal_of m else
    from_rest_of n m (1·0 ⊖ n)

-- the answer, and the rounds of all recipes asked for it
unfoldable pub counted_of : Float → Float → Counted
counted_of n m =
    let t = arms_of n m in
    when n ≠· n || m ≠· m gives unasked_of (Err NotANumber) else
    when 1·0 <· m gives unasked_of (Err AboveOne) else
    when n =· 1·0 gives unasked_of (Err CharacteristicOne) else
    when m =· 1·0 gives unasked_of (Ok (Infinite (1·0 ⊖ n <· +0))) else
    when n =· -∞ || m =· -∞ gives unasked_of (Ok (One +0)) else
    record { answer = settled_of t.met t.value; rounds = t.rounds }

unfoldable pub ellippi_of : Float → Float → Result Answer Refusal
ellippi_of n m = (counted_of n m).answer
