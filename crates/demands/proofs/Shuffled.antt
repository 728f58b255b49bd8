-- Why shuffles come to the same: a row's last accepted edit, and each edit's number, depend on the edits of its own row alone. Assumes nothing.
use Rattle.std.specs.Prelude.{◌≡◌, Bool, ◌&&◌, ℕ, suc, eqb, length}
use Rattle.std.proofs.Math.Path.{refl}
use Rattle.std.proofs.Common.{ap, ◌∙◌, sym, arith, eq-eqb, eqb-true}
use Rattle.std.proofs.Math.Bool.{true, false, cond}
use mathlib.Core.List.{List, [], ◌∷◌, ◌++◌}
use Rattle.ledger.specs.Sheet.{Row}
use Rattle.demands.specs.Edits.{Edit, answer, after, run, answer_in, accepted, worked, last_row, fresh_from}
use Rattle.demands.specs.Shuffles.{own, Shuffle, told, Reordered, none, same, swap, then}

-- ---- bytes

and_false : (p : Bool) (w v : Row) → cond (p && false) w v ≡ v
and_false true w v = refl
and_false false w v = refl

last-own : (r i : ℕ) (w : Row) (es : List Edit) → last_row r i w es ≡ last_row r i w (own i es)
unfolding last_row own
last-own r i w [] = refl
last-own r i w (e ∷ es) = go (eqb e.row i) refl (λ x. last-own r i x es)
  where
    go : (t : Bool) → eqb e.row i ≡ t → ((x : Row) → last_row r i x es ≡ last_row r i x (own i es))
        → last_row r i (cond (accepted r e && t) (worked e) w) es ≡ last_row r i w (cond t (e ∷ own i es) (own i es))
    go true h ih = ih (cond (accepted r e && true) (worked e) w) ∙ ap (λ (b : Bool). last_row r i (cond (accepted r e && b) (worked e) w) (own i es)) (sym h)
    go false h ih = ap (λ (x : Row). last_row r i x es) (and_false (accepted r e) (worked e) w) ∙ ih w

pub fresh-same : (r i : ℕ) (ws : List Row) (es fs : List Edit) → Shuffle es fs → fresh_from r i ws es ≡ fresh_from r i ws fs
unfolding fresh_from
fresh-same r i [] es fs h = refl
fresh-same r i (w ∷ ws) es fs h =
    let p : last_row r i w es ≡ last_row r i w fs = last-own r i w es ∙ ap (last_row r i w) (h i) ∙ sym (last-own r i w fs) in
    (λ j. p j ∷ fresh-same r (suc i) ws es fs h j)

-- ---- numbers

-- those that the edits' rows and functions alone say
unfoldable pub told_in : ℕ → List Edit → List ℕ
told_in r [] = []
told_in r (e ∷ es) = answer_in r e ∷ told_in r es

run_more : (s : List ℕ) (ds : List Edit) (e : Edit) → run s (ds ++ (e ∷ [])) ≡ after (run s ds) e
unfolding run
run_more s [] e = refl
run_more s (d ∷ ds) e = run_more (after s d) ds e

module _ (s : List ℕ) (r : ℕ) (answers : (es : List Edit) (e : Edit) → answer (run s es) e ≡ answer_in r e) where
  told_from : (i : ℕ) (ds es : List Edit) → told i (run s ds) es ≡ told_in r (own i es)
  unfolding told told_in own
  told_from i ds [] = refl
  told_from i ds (e ∷ es) = go (eqb e.row i) (ap (λ (t : List ℕ). told i t es) (sym (run_more s ds e)) ∙ told_from i (ds ++ (e ∷ [])) es)
    where
      go : (t : Bool) → told i (after (run s ds) e) es ≡ told_in r (own i es)
          → cond t (answer (run s ds) e ∷ told i (after (run s ds) e) es) (told i (after (run s ds) e) es) ≡ told_in r (cond t (e ∷ own i es) (own i es))
      go true q = λ j. answers ds e j ∷ q j
      go false q = q

  pub told-own : (i : ℕ) (es : List Edit) → told i s es ≡ told_in r (own i es)
  unfolding run
  told-own i es = told_from i [] es

-- ---- the same edits

first : Edit → List Edit → Edit
first d [] = d
first d (e ∷ es) = e

others : List Edit → List Edit
others [] = []
others (e ∷ es) = es

own-append : (i : ℕ) (xs ys : List Edit) → own i (xs ++ ys) ≡ own i xs ++ own i ys
unfolding own
own-append i [] ys = refl
own-append i (x ∷ xs) ys = go (eqb x.row i) (own-append i xs ys)
  where
    go : (t : Bool) → own i (xs ++ ys) ≡ own i xs ++ own i ys → cond t (x ∷ own i (xs ++ ys)) (own i (xs ++ ys)) ≡ cond t (x ∷ own i xs) (own i xs) ++ own i ys
    go true q = ap (λ (l : List Edit). x ∷ l) q
    go false q = q

own_self : (e : Edit) (es : List Edit) → own e.row (e ∷ es) ≡ e ∷ own e.row es
unfolding own
own_self e es = rw (eq-eqb e.row e.row refl)

-- where the first edit of row i stands
record Found (i : ℕ) (e : Edit) (fs : List Edit) : Type 0 where
  before : List Edit
  behind : List Edit
  is : fs ≡ before ++ (e ∷ behind)
  none_before : own i before ≡ []

find : (i : ℕ) (e : Edit) (rest fs : List Edit) → own i fs ≡ e ∷ rest → Found i e fs
unfolding own first
find i e rest [] h = absurd (let z : ⊥ = omega (arith, ap length h) in z)
find i e rest (f ∷ fs) h = go (eqb f.row i) refl h (find i e rest fs)
  where
    go : (t : Bool) → eqb f.row i ≡ t → cond t (f ∷ own i fs) (own i fs) ≡ e ∷ rest → (own i fs ≡ e ∷ rest → Found i e fs) → Found i e (f ∷ fs)
    go true q g later = record { before = []; behind = fs; is = ap (λ (x : Edit). x ∷ fs) (ap (first f) g); none_before = refl }
    go false q g later =
        let l = later g in
        record { before = f ∷ l.before; behind = l.behind; is = ap (λ (x : List Edit). f ∷ x) l.is; none_before = rw q l.none_before }

itself : (es : List Edit) → Reordered es es
itself [] = none
itself (e ∷ es) = same e (itself es)

moved : (e : Edit) (before behind : List Edit) → Reordered (e ∷ (before ++ behind)) (before ++ (e ∷ behind))
moved e [] behind = itself (e ∷ behind)
moved e (d ∷ before) behind = then (swap e d) (same d (moved e before behind))

-- the first edit taken out of both
left : (e : Edit) (es before behind : List Edit) → own e.row before ≡ [] → Shuffle (e ∷ es) (before ++ (e ∷ behind)) → Shuffle es (before ++ behind)
unfolding own others
left e es before behind n h j = go (eqb e.row j) refl (h j ∙ own-append j before (e ∷ behind)) ∙ sym (own-append j before behind)
  where
    go : (t : Bool) → eqb e.row j ≡ t → cond t (e ∷ own j es) (own j es) ≡ own j before ++ cond t (e ∷ own j behind) (own j behind) → own j es ≡ own j before ++ own j behind
    go true q g =
        let m : own j before ≡ [] = ap (λ (k : ℕ). own k before) (sym (eqb-true e.row j q)) ∙ n in
        ap others (g ∙ ap (λ (l : List Edit). l ++ (e ∷ own j behind)) m) ∙ ap (λ (l : List Edit). l ++ own j behind) (sym m)
    go false q g = g

pub reordered : (es fs : List Edit) → Shuffle es fs → Reordered es fs
unfolding own
reordered [] [] h = none
reordered [] (f ∷ fs) h = absurd (let z : ⊥ = omega (arith, ap length (h f.row ∙ own_self f fs)) in z)
reordered (e ∷ es) fs h =
    let f = find e.row e (own e.row es) fs (sym (h e.row) ∙ own_self e es) in
    let g : Shuffle (e ∷ es) (f.before ++ (e ∷ f.behind)) = λ j. h j ∙ ap (own j) f.is in
    rw f.is (then (same e (reordered es (f.before ++ f.behind) (left e es f.before f.behind f.none_before g))) (moved e f.before f.behind))
