-- Which answers a function may give, and that what is handed out is fair: one law for each way of making an answer. Assumes nothing.
use Rattle.std.specs.Prelude.{◌≡◌, ℕ, ◌≤◌, List, [], ◌∷◌, Bool, true, false, cond, ◌&&◌, ◌||◌, T, leb, eqb, Float, Result, Ok, Err}
use Rattle.std.proofs.Common.{subst, leb→le, eqb→eq}
use Rattle.std.specs.Float.{nan, inf, fin, binary64}
use Rattle.std.specs.Float.Ieee.{fits}
use Rattle.std.specs.Float.Ieee.Fits.{and_l, and_r}
use Rattle.std.specs.Float.Ieee.Scale.{finite}
use Rattle.answer.specs.Numbers.{number, stored}
use Rattle.answer.specs.Sound.{Number, Sound}
use Rattle.answer.specs.declared.Answer.{Answer}
use Rattle.answer.specs.declared.Refusal.{Refusal}
use Rattle.answer.specs.declared.Answer.TheVariants.{One, Pair, Infinite}
use Rattle.answer.specs.declared.Refusal.TheVariants.{Unmet, NotFinite}
use Rattle.answer.specs.declared.Counted.{Counted}
use Rattle.answer.specs.Settle.{finite_of, settled_of, handed_of}

-- what a function may answer besides one finite value: the refusals that its tests give, and an infinity or not. 5 and 6, where a formula has no answer, come with any
pub record May : Type 0 where
  pub tests : List ℕ
  pub infinite : Bool

unfoldable pub among : List ℕ → ℕ → Bool
among [] n = false
among (x ∷ xs) n = eqb x n || among xs n

-- a sound answer that is no pair, and an infinity or a refusal only where it may be one
unfoldable pub Fair : May → Result Answer Refusal → Type 0
Fair may (Ok (One x)) = Number x
Fair may (Ok (Pair x y)) = ⊥
Fair may (Ok (Infinite s)) = T may.infinite
Fair may (Err r) = let n = number r in T (eqb 5 n || eqb 6 n || among may.tests n)

-- every number of the list is one that a row may store
unfoldable pub numeric : List ℕ → Bool
numeric [] = true
numeric (x ∷ xs) = leb 1 x && stored x && numeric xs

listed : (xs : List ℕ) (n : ℕ) → T (numeric xs) → T (among xs n) → (1 ≤ n) × T (stored n)
unfolding numeric among
listed [] n h k = absurd k
listed (x ∷ xs) n h k = go (listed xs n (and_r (leb 1 x && stored x) (numeric xs) h)) (eqb x n) (eqb→eq x n) k
  where
    both : T (leb 1 x && stored x)
    both = and_l (leb 1 x && stored x) (numeric xs) h

    bounds : (1 ≤ x) × T (stored x)
    bounds = (leb→le 1 x (and_l (leb 1 x) (stored x) both), and_r (leb 1 x) (stored x) both)

    go : (T (among xs n) → (1 ≤ n) × T (stored n)) → (b : Bool) → (T b → x ≡ n) → T (b || among xs n) → (1 ≤ n) × T (stored n)
    go rest true e k = subst (λ (n : ℕ). (1 ≤ n) × T (stored n)) (e tt) bounds
    go rest false e k = rest k

pub fair_sound : (may : May) (a : Result Answer Refusal) → T (numeric may.tests) → Fair may a → Sound a
unfolding Fair Sound numeric among stored
fair_sound may (Ok (One x)) l h = h
fair_sound may (Ok (Infinite s)) l h = tt
fair_sound may (Err r) l h = let n = number r in listed (5 ∷ 6 ∷ may.tests) n l (regroup (eqb 5 n) (eqb 6 n) (among may.tests n) h)
  where
    regroup : (a b c : Bool) → T (a || b || c) → T (a || (b || c))
    regroup true b c t = tt
    regroup false b c t = t
fair_sound may (Ok (Pair _ _)) l h = elim h [ ]

-- ---- how answers are made
pub refused : (may : May) (r : Refusal) → T (eqb 5 (number r) || eqb 6 (number r) || among may.tests (number r)) → Fair may (Err r)
unfolding Fair
refused may r h = h

pub answered : (may : May) (v : Float) → T (finite v && fits binary64 v) → Fair may (Ok (One v))
unfolding Fair
answered may v h = record { bounded = and_l (finite v) (fits binary64 v) h; fit = and_r (finite v) (fits binary64 v) h }

-- down the tests: whatever holds of each arm
pub rung : {A : Type 0} (P : A → Type 0) (t : Bool) (a b : A) → P a → P b → P (cond t a b)
rung P true a b p q = p
rung P false a b p q = q

-- of an answer that comes with its rounds
abbrev pub FairOf : May → Counted → Type 0
FairOf may c = Fair may c.answer

pub finite_fair : (may : May) (v : Float) → T (fits binary64 v) → Fair may (finite_of v)
unfolding finite_of
finite_fair may nan h = refused may NotFinite tt
finite_fair may (inf s) h = refused may NotFinite tt
finite_fair may (fin s m e) h = answered may (fin s m e) h

pub settled_fair : (may : May) (met : Bool) (v : Float) → T (fits binary64 v) → Fair may (settled_of met v)
unfolding settled_of
settled_fair may true v h = finite_fair may v h
settled_fair may false v h = refused may Unmet tt

pub handed_fair : (may : May) (v : Float) → T may.infinite → T (fits binary64 v) → Fair may (handed_of v)
unfolding handed_of Fair
handed_fair may nan i h = refused may NotFinite tt
handed_fair may (inf s) i h = i
handed_fair may (fin s m e) i h = answered may (fin s m e) h
