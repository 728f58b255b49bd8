-- Shuffled edits (02, [14]): two lists of edits in which the edits of each row stand in the same order. Definitions only.
use Rattle.std.specs.Prelude.{◌≡◌, cond, List, [], ◌∷◌, ℕ, eqb}
use Rattle.demands.specs.Edits.{Edit, answer, after, run}

-- the edits of row i, in their order
unfoldable pub own : ℕ → List Edit → List Edit
own i [] = []
own i (e ∷ es) = cond (eqb e.row i) (e ∷ own i es) (own i es)

-- for every row number, of a row that the sheet has or not, the same edits in the same order
abbrev pub Shuffle : List Edit → List Edit → Type 0
Shuffle es fs = (i : ℕ) → own i es ≡ own i fs

-- the numbers that the edits of row i get, in their order, as the whole list is run: 0 accepted, else the refusal
unfoldable pub told : ℕ → List ℕ → List Edit → List ℕ
told i s [] = []
told i s (e ∷ es) = cond (eqb e.row i) (answer s e ∷ told i (after s e) es) (told i (after s e) es)

-- one list is the other in another order, every edit as often
pub data Reordered : List Edit → List Edit → Type 0 where
  none : Reordered [] []
  same : {es fs : List Edit} (e : Edit) → Reordered es fs → Reordered (e ∷ es) (e ∷ fs)
  swap : {es : List Edit} (e f : Edit) → Reordered (e ∷ f ∷ es) (f ∷ e ∷ es)
  then : {es fs gs : List Edit} → Reordered es fs → Reordered fs gs → Reordered es gs

-- what is demanded of a shuffle, from the sheet s
pub record Shuffled (s : List ℕ) (es fs : List Edit) : Type 0 where
  -- both lists leave the same bytes
  pub bytes : run s es ≡ run s fs
  -- the k-th edit of each row gets the same acceptance or refusal number in both
  pub numbers : (i : ℕ) → told i s es ≡ told i s fs
  -- and they hold the same edits
  pub edits : Reordered es fs
