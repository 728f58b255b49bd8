-- ANOTHER ORDER (02, [2]). Take the month's files in any other order, under any numbers: the report differs at most in the sheet and row shown with an extreme and in which
-- of several equal extremes that is. Weights are added up file by file, and what lies beyond no leg lies beyond none in any order. Assumes nothing.
use Rattle.std.specs.Prelude.{◌≡◌, ℕ, zero, suc, ◌+◌, ◌%◌, ◌≤◌, Bool, true, false, cond, ◌&&◌, List, [], ◌∷◌, ◌++◌, ◌==◌, ◌≢◌, refl}
use Rattle.std.proofs.Common.{Option, sym, ap, ◌∙◌, subst, inl, inr, arith, ext_get_or}
use Rattle.total.specs.Total.{N, limbs_of}
use Rattle.ledger.specs.Sheet.{Row, class_of, refusal_in, refused_class, finite_class}
use Rattle.ledger.specs.Calls.{rows_in}
use Rattle.month.specs.declared.parts.Extreme.{Extreme}
use Rattle.month.specs.Month.{Leg, leg_at, legs_from, legs_of, pattern_in, beyond, count_of, refused_of, total_of, extreme_of, start_of}
use Rattle.month.specs.Files.{File, most_files, taken, month_on, legs_in, all_legs, sheets_in, Each, Finite, First, Reordered, nothing, same, exchanged, then, contents, Alike, SameReport}
use Rattle.month.specs.laws.Lists.{each_append, each_left, each_right}
use Rattle.month.specs.laws.Order.{neither_beyond}
use Rattle.month.specs.laws.Extremes.{finite_number, shown, nothing_beyond}
use Rattle.month.specs.laws.Sums.{sum_of, sum-append, units, total_sum}
use Rattle.month.specs.laws.Month.{month, counts_tally, refusals_tally}

-- ---- the way back
turned : {l m : List (List ℕ)} → Reordered l m → Reordered m l
turned nothing = nothing
turned (same r) = same (turned r)
turned exchanged = exchanged
turned (then r q) = then (turned q) (turned r)

-- ---- sums
sum_files : (List ℕ → ℕ) → List (List ℕ) → ℕ
sum_files f [] = 0
sum_files f (s ∷ l) = f s + sum_files f l

sum_reordered : (f : List ℕ → ℕ) {l m : List (List ℕ)} → Reordered l m → sum_files f l ≡ sum_files f m
unfolding sum_files
sum_reordered f nothing = refl
sum_reordered f (same {a = a} r) = ap (λ (n : ℕ). f a + n) (sum_reordered f r)
sum_reordered f (exchanged {a = a} {b = b} {l = l}) = swap (f a) (f b) (sum_files f l)
  where
    swap : (x y z : ℕ) → x + (y + z) ≡ y + (x + z)
    swap x y z = omega arith
sum_reordered f (then r q) = sum_reordered f r ∙ sum_reordered f q

-- what a file's legs weigh, whatever its number
unnumbered : (w : ℕ → Row → ℕ) (n m : ℕ) (s : List ℕ) (i k : ℕ) → sum_of w (legs_from n s i k) ≡ sum_of w (legs_from m s i k)
unfolding sum_of legs_from leg_at
unnumbered w n m s i zero = refl
unnumbered w n m s i (suc k) = ap (λ (x : ℕ). w (leg_at n s i).times (leg_at n s i).bytes + x) (unnumbered w n m s (suc i) k)

file_sum : (ℕ → Row → ℕ) → List ℕ → ℕ
file_sum w s = cond (taken s) (sum_of w (legs_from 0 s 0 (rows_in s))) 0

files_sum : (w : ℕ → Row → ℕ) (fs : List File) → sum_of w (all_legs fs) ≡ sum_files (file_sum w) (contents fs)
unfolding sum_files file_sum all_legs legs_in legs_of contents sum_of
files_sum w [] = refl
files_sum w (f ∷ fs) = sum-append w (legs_in f) (all_legs fs) ∙ (λ i. go (taken f.bytes) i + files_sum w fs i)
  where
    go : (b : Bool) → sum_of w (cond b (legs_from f.number f.bytes 0 (rows_in f.bytes)) []) ≡ cond b (sum_of w (legs_from 0 f.bytes 0 (rows_in f.bytes))) 0
    go true = unnumbered w f.number 0 f.bytes 0 (rows_in f.bytes)
    go false = refl

sheets_sum : (fs : List File) → sheets_in fs ≡ sum_files (λ (s : List ℕ). cond (taken s) 1 0) (contents fs)
unfolding sum_files sheets_in contents
sheets_sum [] = refl
sheets_sum (f ∷ fs) = ap (λ (n : ℕ). cond (taken f.bytes) 1 0 + n) (sheets_sum fs)

count-sum : (k : ℕ) (ls : List Leg) → count_of k ls ≡ sum_of (λ (t : ℕ) (w : Row). cond (k == class_of w) 1 0) ls
unfolding count_of sum_of
count-sum k [] = refl
count-sum k (l ∷ ls) = ap (λ (n : ℕ). cond (k == class_of l.bytes) 1 0 + n) (count-sum k ls)

refused_sum : (q : ℕ) (ls : List Leg) → refused_of q ls ≡ sum_of (λ (t : ℕ) (w : Row). cond (refused_class == class_of w && q == refusal_in w) 1 0) ls
unfolding refused_of sum_of
refused_sum q [] = refl
refused_sum q (l ∷ ls) = ap (λ (n : ℕ). cond (refused_class == class_of l.bytes && q == refusal_in l.bytes) 1 0 + n) (refused_sum q ls)

-- ---- what holds of every row
each_reordered : (P : List ℕ → Type 0) {l m : List (List ℕ)} → Reordered l m → Each P l → Each P m
each_reordered P nothing x = x
each_reordered P (same r) x = (x.0, each_reordered P r x.1)
each_reordered P exchanged x = (x.1.0, (x.0, x.1.1))
each_reordered P (then r q) x = each_reordered P q (each_reordered P r x)

module _ (Q : Row → Type 0) where
  abbrev Rows : Leg → Type 0
  Rows l = Q l.bytes

  InFile : List ℕ → Type 0
  InFile s = Each Rows (cond (taken s) (legs_from 0 s 0 (rows_in s)) [])

  renumbered : (n m : ℕ) (s : List ℕ) (i k : ℕ) → Each Rows (legs_from n s i k) → Each Rows (legs_from m s i k)
  unfolding legs_from leg_at
  renumbered n m s i zero x = tt
  renumbered n m s i (suc k) x = (x.0, renumbered n m s (suc i) k x.1)

  into : (fs : List File) → Each Rows (all_legs fs) → Each InFile (contents fs)
  unfolding InFile all_legs legs_in legs_of contents
  into [] x = tt
  into (f ∷ fs) x = (go (taken f.bytes) (each_left Rows (legs_in f) (all_legs fs) x), into fs (each_right Rows (legs_in f) (all_legs fs) x))
    where
      go : (b : Bool) → Each Rows (cond b (legs_from f.number f.bytes 0 (rows_in f.bytes)) []) → Each Rows (cond b (legs_from 0 f.bytes 0 (rows_in f.bytes)) [])
      go true y = renumbered f.number 0 f.bytes 0 (rows_in f.bytes) y
      go false y = tt

  outof : (fs : List File) → Each InFile (contents fs) → Each Rows (all_legs fs)
  unfolding InFile all_legs legs_in legs_of contents
  outof [] x = tt
  outof (f ∷ fs) x = each_append Rows (legs_in f) (all_legs fs) (go (taken f.bytes) x.0) (outof fs x.1)
    where
      go : (b : Bool) → Each Rows (cond b (legs_from 0 f.bytes 0 (rows_in f.bytes)) []) → Each Rows (cond b (legs_from f.number f.bytes 0 (rows_in f.bytes)) [])
      go true y = renumbered 0 f.number f.bytes 0 (rows_in f.bytes) y
      go false y = tt

  carried : (fs gs : List File) → Reordered (contents fs) (contents gs) → Each Rows (all_legs fs) → Each Rows (all_legs gs)
  carried fs gs r x = outof gs (each_reordered InFile r (into fs x))

-- ---- the extremes
at_leg : (P : Leg → Type 0) (ls before : List Leg) (leg : Leg) (after : List Leg) → ls ≡ before ++ (leg ∷ after) → Each P ls → P leg
at_leg P ls before leg after e x = (each_right P before (leg ∷ after) (subst (Each P) e x)).0

-- an extreme of one order meets no leg beyond it in the other
met : (top : Bool) (fs gs : List File) → Reordered (contents fs) (contents gs) → (e d : Option Extreme) (f : First top (all_legs fs) e) (g : First top (all_legs gs) d)
    → beyond top (pattern_in f.leg.bytes) (pattern_in g.leg.bytes) ≡ false
met top fs gs r e d f g =
    at_leg (λ (l : Leg). Finite l → beyond top (pattern_in f.leg.bytes) (pattern_in l.bytes) ≡ false) (all_legs gs) g.before g.leg g.after g.split
    (carried (λ (w : Row). class_of w ≡ finite_class → beyond top (pattern_in f.leg.bytes) (pattern_in w) ≡ false) fs gs r (nothing_beyond top (all_legs fs) e f))
    g.finite

never : (top : Bool) (fs gs : List File) → Reordered (contents fs) (contents gs) → (d : Option Extreme) → Each (λ (l : Leg). Finite l → ⊥) (all_legs fs) → First top (all_legs gs) d → ⊥
never top fs gs r d x g =
    at_leg (λ (l : Leg). Finite l → ⊥) (all_legs gs) g.before g.leg g.after g.split (carried (λ (w : Row). class_of w ≢ finite_class) fs gs r x) g.finite

pub extremes_alike : (top : Bool) (fs gs : List File) → Reordered (contents fs) (contents gs) → Alike (extreme_of top (all_legs fs)) (extreme_of top (all_legs gs))
extremes_alike top fs gs r = elim (shown top (all_legs fs)) [
  | inl a ↦
      elim (shown top (all_legs gs)) [
        | inl b ↦ rw (a.0, b.0) tt
        | inr g ↦ absurd (never top fs gs r (extreme_of top (all_legs gs)) a.1 g)
      ]
  | inr f ↦
      elim (shown top (all_legs gs)) [
        | inl b ↦ absurd (never top gs fs (turned r) (extreme_of top (all_legs fs)) b.1 f)
        | inr g ↦ both f g
      ]
]
  where
    both : First top (all_legs fs) (extreme_of top (all_legs fs)) → First top (all_legs gs) (extreme_of top (all_legs gs)) → Alike (extreme_of top (all_legs fs)) (extreme_of top (all_legs gs))
    both f g =
        let e = neither_beyond top (pattern_in f.leg.bytes) (pattern_in g.leg.bytes) (finite_number f.leg.bytes f.finite) (finite_number g.leg.bytes g.finite)
        (met top fs gs r (extreme_of top (all_legs fs)) (extreme_of top (all_legs gs)) f g) (met top gs fs (turned r) (extreme_of top (all_legs gs)) (extreme_of top (all_legs fs)) g f) in
        rw (f.is, g.is) e

-- ---- the reports
module _ (fs gs : List File) (r : Reordered (contents fs) (contents gs)) where
  sums : (w : ℕ → Row → ℕ) → sum_of w (all_legs fs) ≡ sum_of w (all_legs gs)
  sums w = files_sum w fs ∙ sum_reordered (file_sum w) r ∙ sym (files_sum w gs)

  pub sheets_same : sheets_in fs ≡ sheets_in gs
  sheets_same = sheets_sum fs ∙ sum_reordered (λ (s : List ℕ). cond (taken s) 1 0) r ∙ sym (sheets_sum gs)

  total_same : total_of (all_legs fs) ≡ total_of (all_legs gs)
  total_same = total_sum (all_legs fs) ∙ ap (λ (n : ℕ). n % N) (sums units) ∙ sym (total_sum (all_legs gs))

  pub reordered : sheets_in fs ≤ most_files → SameReport (month_on start_of fs) (month_on start_of gs)
  reordered few =
      let few' : sheets_in gs ≤ most_files = subst (λ (n : ℕ). n ≤ most_files) sheets_same few in
      let a = month fs few in
      let b = month gs few' in
      let ca = counts_tally fs few in
      let cb = counts_tally gs few' in
      let ra = refusals_tally fs few in
      let rb = refusals_tally gs few' in
      record {
        sheets = a.sheets ∙ sheets_same ∙ sym b.sheets;
        counts =
            ext_get_or 0 (month_on start_of fs).counts (month_on start_of gs).counts (ca.size ∙ sym cb.size)
            (λ k h. a.counts k (omega (arith, ca.size)) ∙ count-sum k (all_legs fs) ∙ sums (λ (t : ℕ) (w : Row). cond (k == class_of w) 1 0) ∙ sym (count-sum k (all_legs gs)) ∙ sym (b.counts k (omega (arith, ca.size))));
        refusals =
            ext_get_or 0 (month_on start_of fs).refusals (month_on start_of gs).refusals (ra.size ∙ sym rb.size)
            (λ q h. a.refusals q (omega (arith, ra.size)) ∙ refused_sum q (all_legs fs) ∙ sums (λ (t : ℕ) (w : Row). cond (refused_class == class_of w && q == refusal_in w) 1 0) ∙ sym (refused_sum q (all_legs gs)) ∙ sym (b.refusals q (omega (arith, ra.size))));
        total = ap (λ (l : List ℕ). record { limbs = l }) (a.limbs ∙ ap limbs_of total_same ∙ sym b.limbs);
        largest = rw (a.largest, b.largest) (extremes_alike true fs gs r);
        smallest = rw (a.smallest, b.smallest) (extremes_alike false fs gs r);
      }
