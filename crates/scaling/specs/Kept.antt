-- RJ as it was before a value below 2^-960 became NaN, ellippi as it was made of it, and how what is answered now compares. Definitions only.
use Rattle.std.specs.Prelude.{ℕ, ◌+◌, ◌≡◌, ◌⊎◌, false, ◌||◌, ◌&&◌, T, Float, Result, Ok, Err}
use Rattle.std.specs.Float.{binary64, nan}
use Rattle.std.specs.Float.Ieee.{fits, neg}
use Rattle.std.specs.Float.Ieee.Scale.{finite}
use Rattle.laws.specs.Arithmetic.{◌⊕◌, ◌⊖◌, ◌⊗◌, ◌⊘◌, ◌<·◌, ◌=·◌, ◌≠·◌, +0, -∞, 1·0, 3·0, 6·0}
use Rattle.laws.specs.Ladder.{when◌gives◌else◌}
use Rattle.root.specs.Root.{root_of}
use Rattle.carlson.specs.Loop.{duplicated}
use Rattle.carlson.specs.declared.Outcome.{Outcome}
use Rattle.rj.specs.declared.State as RjState
use Rattle.rj.specs.Rj as Rj
use Rattle.answer.specs.Answer.{refusal_of, value_of}
use Rattle.answer.specs.Settle.{settled_of, unasked_of}
use Rattle.answer.specs.declared.Answer.{Answer}
use Rattle.answer.specs.declared.Refusal.{Refusal}
use Rattle.answer.specs.declared.Answer.TheVariants.{One, Infinite}
use Rattle.answer.specs.declared.Refusal.TheVariants.{NotANumber, AboveOne, CharacteristicOne, NotFinite}
use Rattle.answer.specs.declared.Counted.{Counted}
use Rattle.answer.specs.declared.Term.{Term}
use Rattle.legendre.specs.Ellipk.{ellipk_of}
use Rattle.legendre.specs.Ellipe.{ellipe_of}
use Rattle.ellippi.specs.Ellippi as Ellippi
use Rattle.scaling.specs.Before.{rf_before}

-- ---- before and now

-- the bits from before, or no number
abbrev pub KeptValue : Float → Float → Type 0
KeptValue before now = (now ≡ before) ⊎ (now ≡ nan)

-- the answer from before, or refusal 6
abbrev pub KeptAnswer : Result Answer Refusal → Result Answer Refusal → Type 0
KeptAnswer before now = (now ≡ before) ⊎ (now ≡ Err NotFinite)

pub record KeptOutcome (before now : Outcome) : Type 0 where
  pub value : KeptValue before.value now.value
  pub met : now.met ≡ before.met
  pub rounds : now.rounds ≡ before.rounds
  pub inside : now.inside ≡ before.inside

pub record KeptTerm (before now : Term) : Type 0 where
  pub value : KeptValue before.value now.value
  pub met : now.met ≡ before.met
  pub rounds : now.rounds ≡ before.rounds

pub record KeptCounted (before now : Counted) : Type 0 where
  pub answer : KeptAnswer before.answer now.answer
  pub rounds : now.rounds ≡ before.rounds

-- ---- RJ: the same rounds, the value closed without the last test

unfoldable pub rj_closed : RjState.State → ℕ → Outcome
rj_closed s rounds = record { value = s.scale ⊗ Rj.series_of s ⊘ (s.mean ⊗ root_of s.mean) ⊕ 6·0 ⊗ s.sum; met = Rj.stops_of s && s.inner; rounds = rounds; inside = s.inside }

unfoldable pub rj_before : Float → Float → Float → Float → Outcome
rj_before x y z p = duplicated Rj.stops_of Rj.round_of rj_closed (Rj.start_of x y z p)

-- ---- ellippi, with the rounds of 02's [3]

-- of what RF and RJ gave (DLMF 19.25.2)
abbrev pub from_rest_from : Float → Outcome → Outcome → Term
from_rest_from n f j = record { value = f.value ⊕ n ⊗ j.value ⊘ 3·0; met = f.met && j.met; rounds = f.rounds + j.rounds + j.inside }

unfoldable pub from_rest_before : Float → Float → Float → Term
from_rest_before n m rest = from_rest_from n (rf_before +0 (1·0 ⊖ m) 1·0) (rj_before +0 (1·0 ⊖ m) 1·0 rest)

-- n > 1, of what RJ gave (DLMF 19.25.4)
abbrev pub principal_from : Float → Float → Outcome → Term
principal_from n m j = record { value = neg (1·0 ⊘ 3·0) ⊗ m ⊘ n ⊗ j.value; met = j.met; rounds = j.rounds + j.inside }

unfoldable pub principal_before : Float → Float → Term
principal_before n m = principal_from n m (rj_before +0 (1·0 ⊖ m) 1·0 (1·0 ⊖ m ⊘ n))

-- n < 0, m < 0, n and m not equal: of RJ's weight and of what it gave
abbrev pub weighed_from : Float → Float → Float → Outcome → Term
weighed_from n m weight j = record { value = value_of (ellipk_of m) ⊘ (1·0 ⊖ n) ⊕ weight ⊗ j.value; met = j.met; rounds = j.rounds + j.inside }

-- the weight had one form: -n (1 - m) / (3 (1 - n)²)
abbrev pub weight_before : Float → Float → Float → Float
weight_before n rn rm = neg n ⊗ rm ⊘ (3·0 ⊗ rn ⊗ rn)

unfoldable pub both_below_before : Float → Float → Term
both_below_before n m =
    when m =· n gives Ellippi.plain_term (value_of (ellipe_of m) ⊘ (1·0 ⊖ m)) else
    weighed_from n m (weight_before n (1·0 ⊖ n) (1·0 ⊖ m)) (rj_before +0 (1·0 ⊖ m) 1·0 ((1·0 ⊖ m) ⊘ (1·0 ⊖ n)))

-- n < 0, m ≥ 0 (A&S 17.7.17)
abbrev pub first_below_from : Float → Float → Term → Term
first_below_from n m t = record { value = t.value ⊗ neg n ⊘ (1·0 ⊖ n) ⊗ (1·0 ⊖ m) ⊘ (m ⊖ n) ⊕ value_of (ellipk_of m) ⊗ m ⊘ (m ⊖ n); met = t.met; rounds = t.rounds }

unfoldable pub first_below_before : Float → Float → Term
first_below_before n m = first_below_from n m (from_rest_before ((m ⊖ n) ⊘ (1·0 ⊖ n)) m ((1·0 ⊖ m) ⊘ (1·0 ⊖ n)))

unfoldable pub arms_before : Float → Float → Term
arms_before n m =
    when 1·0 <· n gives principal_before n m else
    when n <· +0 && m <· +0 gives both_below_before n m else
    when n <· +0 gives first_below_before n m else
    when n =· +0 gives Ellippi.first_zero_of m else
    when m =· n gives Ellippi.diagonal_of m else
    from_rest_before n m (1·0 ⊖ n)

unfoldable pub ellippi_before : Float → Float → Counted
ellippi_before n m =
    let t = arms_before n m in
    when n ≠· n || m ≠· m gives unasked_of (Err NotANumber) else
    when 1·0 <· m gives unasked_of (Err AboveOne) else
    when n =· 1·0 gives unasked_of (Err CharacteristicOne) else
    when m =· 1·0 gives unasked_of (Ok (Infinite (1·0 ⊖ n <· +0))) else
    when n =· -∞ || m =· -∞ gives unasked_of (Ok (One +0)) else
    record { answer = settled_of t.met t.value; rounds = t.rounds }

-- ---- where the weight is formed as before, a number that is handed out has the bits from before

-- ellippi's weight is formed as before: not m < 0 with 1 - n above 2^500
abbrev pub Near : Float → Float → Type 0
Near n m = (m <· +0 && Ellippi.far <· 1·0 ⊖ n) ≡ false

pub record KeptOrRefused : Type 0 where
  -- the recipe, at all arguments
  pub rj : (x y z p : Float) → KeptOutcome (rj_before x y z p) (Rj.rj_of x y z p)
  -- the terms of every arm
  pub arms : (n m : Float) → T (fits binary64 m) → T (finite m) → Near n m → KeptTerm (arms_before n m) (Ellippi.arms_of n m)
  -- the answer, with its rounds
  pub ellippi : (n m : Float) → T (fits binary64 m) → Near n m → KeptCounted (ellippi_before n m) (Ellippi.counted_of n m)
  -- one that is no refusal
  pub ellippi_answered : (n m : Float) → T (fits binary64 m) → Near n m → refusal_of (Ellippi.ellippi_of n m) ≡ 0 → Ellippi.ellippi_of n m ≡ (ellippi_before n m).answer
