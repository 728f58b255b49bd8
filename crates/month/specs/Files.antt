-- A month's files, one after the other, and what their report must say (02, [2]). Definitions only.
use Rattle.std.specs.Prelude.{◌≡◌, ℕ, ◌+◌, ◌*◌, ◌<◌, Bool, true, false, cond, ◌⊎◌, List, [], ◌∷◌, ◌++◌, length, slice_index, Option, Some, None}
use Rattle.std.specs.Float.Ieee.{eq}
use Rattle.std.specs.Result.{is_ok}
use Rattle.laws.specs.Arithmetic.{float}
use Rattle.laws.specs.Ladder.{when◌gives◌else◌}
use Rattle.total.specs.Total.{val, limbs_of, negative, size_of}
use Rattle.ledger.specs.Sheet.{refused_class, finite_class, class_of, value_of}
use Rattle.ledger.specs.Calls.{plus}
use Rattle.month.specs.declared.parts.Extreme.{Extreme}
use Rattle.month.specs.declared.parts.Report.{Report}
use Rattle.month.specs.Month.{Leg, legs_of, pattern_in, stop_of, count_of, refused_of, total_of, extreme_of, beyond, added_of}

-- ---- files

-- a file as it is given: its number and its bytes
pub record File : Type 0 where
  pub number : ℕ
  pub bytes : List ℕ

-- the most files of a month
abbrev pub most_files : ℕ
most_files = 400

abbrev pub taken : List ℕ → Bool
taken s = is_ok (stop_of s)

-- the report after these files, from one that stands
unfoldable pub month_on : Report → List File → Report
month_on r [] = r
month_on r (f ∷ fs) = month_on (added_of r f.number f.bytes) fs

-- the legs of a file; one that is not taken has none
unfoldable pub legs_in : File → List Leg
legs_in f = when taken f.bytes gives legs_of f.number f.bytes else []

-- of all of them, in order
unfoldable pub all_legs : List File → List Leg
all_legs [] = []
all_legs (f ∷ fs) = legs_in f ++ all_legs fs

-- how many are taken
unfoldable pub sheets_in : List File → ℕ
sheets_in [] = 0
sheets_in (f ∷ fs) = cond (taken f.bytes) 1 0 + sheets_in fs

-- ---- what a report of them says

pub record Meaning (fs : List File) (r : Report) : Type 0 where
  pub sheets : r.sheets ≡ sheets_in fs
  pub counts : (k : ℕ) → k < 5 → slice_index r.counts k ≡ count_of k (all_legs fs)
  pub refusals : (q : ℕ) → q < 32 → slice_index r.refusals q ≡ refused_of q (all_legs fs)
  pub total : val r.total.limbs ≡ total_of (all_legs fs)
  pub limbs : r.total.limbs ≡ limbs_of (total_of (all_legs fs))
  pub largest : r.largest ≡ extreme_of true (all_legs fs)
  pub smallest : r.smallest ≡ extreme_of false (all_legs fs)
  -- the five counts add up to the rows, and the refusal numbers to the fifth count
  pub rows : plus r.counts ≡ length (all_legs fs)
  pub refused : plus r.refusals ≡ slice_index r.counts refused_class

-- ---- the extremes

-- all of a list are such
abbrev pub Each : {A : Type 0} → (A → Type 0) → List A → Type 0
Each P [] = Unit {0}
Each P (a ∷ l) = P a × Each P l

-- a leg with a finite first answer
abbrev pub Finite : Leg → Type 0
Finite l = class_of l.bytes ≡ finite_class

-- an extreme that shows a leg
abbrev pub shows : Leg → Option Extreme
shows l = Some (record { pattern = pattern_in l.bytes; sheet = l.sheet; row = l.row })

-- the earliest of the legs beyond which no other lies: it is strictly beyond those before it, and none after it is strictly beyond it
pub record First (top : Bool) (ls : List Leg) (e : Option Extreme) : Type 0 where
  pub before : List Leg
  pub leg : Leg
  pub after : List Leg
  pub split : ls ≡ before ++ (leg ∷ after)
  pub finite : Finite leg
  pub is : e ≡ shows leg
  pub past : Each (λ (l : Leg). Finite l → beyond top (pattern_in l.bytes) (pattern_in leg.bytes) ≡ true) before
  pub kept : Each (λ (l : Leg). Finite l → beyond top (pattern_in leg.bytes) (pattern_in l.bytes) ≡ false) after

-- none where no first answer is finite
abbrev pub Shown : Bool → List Leg → Option Extreme → Type 0
Shown top ls e = ((e ≡ None) × Each (λ (l : Leg). Finite l → ⊥) ls) ⊎ First top ls e

-- ---- the total as a whole number: times by first answers above zero, and below, in units of 2^-1074

unfoldable pub above : List Leg → ℕ
above [] = 0
above (l ∷ ls) = cond (negative (value_of l.bytes)) 0 (l.times * size_of (value_of l.bytes)) + above ls

unfoldable pub below : List Leg → ℕ
below [] = 0
below (l ∷ ls) = cond (negative (value_of l.bytes)) (l.times * size_of (value_of l.bytes)) 0 + below ls

-- ---- another order

-- the same things, reordered: nothing; the same head; two heads exchanged; one reordering after the other
pub data Reordered : List (List ℕ) → List (List ℕ) → Type 0 where
  nothing : Reordered [] []
  same : {a : List ℕ} {l m : List (List ℕ)} → Reordered l m → Reordered (a ∷ l) (a ∷ m)
  exchanged : {a b : List ℕ} {l : List (List ℕ)} → Reordered (a ∷ b ∷ l) (b ∷ a ∷ l)
  then : {l m k : List (List ℕ)} → Reordered l m → Reordered m k → Reordered l k

-- the bytes of files, without their numbers
unfoldable pub contents : List File → List (List ℕ)
contents [] = []
contents (f ∷ fs) = f.bytes ∷ contents fs

-- equal as numbers, or none on both sides; the sheet, the row and which of several equal patterns may differ
abbrev pub Alike : Option Extreme → Option Extreme → Type 0
Alike None None = Unit {0}
Alike None (Some f) = ⊥
Alike (Some e) None = ⊥
Alike (Some e) (Some f) = eq (float e.pattern) (float f.pattern) ≡ true

-- two reports that differ in no more than that
pub record SameReport (r q : Report) : Type 0 where
  pub sheets : r.sheets ≡ q.sheets
  pub counts : r.counts ≡ q.counts
  pub refusals : r.refusals ≡ q.refusals
  pub total : r.total ≡ q.total
  pub largest : Alike r.largest q.largest
  pub smallest : Alike r.smallest q.smallest
