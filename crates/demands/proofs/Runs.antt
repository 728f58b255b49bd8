-- A list of edits of a sheet of rows is the sheet of the rows that they come to. Assumes nothing.
use Rattle.std.specs.Prelude.{◌≡◌, refl, ◌≢◌, Bool, true, false, cond, ◌&&◌, List, [], ◌∷◌, ℕ, zero, suc, ◌+◌, ◌≤◌, ◌<◌, eqb, length, get_or, set}
use Rattle.std.proofs.Common.{ap, ◌∙◌, sym, zero-le, le_of_suc-le-suc, not-suc-le-zero, add-zero, zero-add, suc-add, add-suc, arith, eqb-true, length-set, get_or-set_same, get_or-set_other, ext_get_or}
use Rattle.std.proofs.lemmas.Bool.{eqb-false}
use Rattle.std.proofs.lemmas.List.{set_comm}
use Rattle.answer.specs.Numbers.{last}
use Rattle.ledger.specs.Sheet.{Row, most_rows, encode}
use Rattle.ledger.specs.Calls.{edited}
use Rattle.ledger.specs.laws.Refusals.{past_rungs}
use Rattle.sheet.specs.declared.Entry.{Entry}
use Rattle.sheet.specs.Edit.{row_of, edit_of}
use Rattle.sheet.specs.laws.Stored.{length_row_of, sound_row_of}
use Rattle.demands.specs.laws.Stored.{times_row_of}
use Rattle.demands.specs.Edits.{Edit, after, run, accepted, worked, last_row, fresh_from, fresh, blanks, AllWorked}
use Rattle.demands.specs.laws.Rows.{Good, Rows, none, more, rows_set}
use Rattle.demands.specs.laws.Encoded.{answers, edit_rows}

-- ---- an accepted edit
record In (r : ℕ) (e : Edit) : Type 0 where
  row : e.row < r
  function : e.entry.function ≤ last

in_of : (r : ℕ) (e : Edit) → accepted r e ≡ true → In r e
unfolding accepted
in_of r e h = let t = past_rungs r e.row e.entry.function 0 (eqb-true _ _ h) in record { row = t.0; function = t.1 }

good_row : (e : Entry) → e.function ≤ last → Good (row_of e)
good_row e h = record { bytes = length_row_of e; whole = sound_row_of e h; times = times_row_of e }

good_worked : (r : ℕ) (e : Edit) → accepted r e ≡ true → Good (worked e)
good_worked r e h = good_row e.entry (in_of r e h).function

-- ---- one edit, on rows
abbrev step : List Row → Edit → List Row
step ws e = cond (accepted (length ws) e) (set ws e.row (worked e)) ws

cond_length : (t : Bool) (ws : List Row) (i : ℕ) (x : Row) → length (cond t (set ws i x) ws) ≡ length ws
cond_length true ws i x = length-set ws i x
cond_length false ws i x = refl

step-length : (ws : List Row) (e : Edit) → length (step ws e) ≡ length ws
step-length ws e = cond_length (accepted (length ws) e) ws e.row (worked e)

step_rows : (ws : List Row) (r : Rows ws) (e : Edit) → Rows (step ws e)
step_rows ws r e = go (accepted (length ws) e) refl
  where
    go : (t : Bool) → accepted (length ws) e ≡ t → Rows (cond t (set ws e.row (worked e)) ws)
    go true h = rows_set r e.row (worked e) (good_worked (length ws) e h)
    go false h = r

pub step_law : (ws : List Row) (r : Rows ws) (few : length ws ≤ most_rows) (e : Edit) → after (encode ws) e ≡ encode (step ws e)
unfolding edit_of accepted
step_law ws r few e =
    ap (λ (k : ℕ). cond (eqb k 0) (edited (encode ws) e.row (worked e)) (encode ws)) (answers ws r few e)
    ∙ go (accepted (length ws) e) refl
  where
    go : (t : Bool) → accepted (length ws) e ≡ t → cond t (edited (encode ws) e.row (worked e)) (encode ws) ≡ encode (cond t (set ws e.row (worked e)) ws)
    go true h = edit_rows ws r few e.row (worked e) (in_of (length ws) e h).row (good_worked (length ws) e h)
    go false h = refl

-- ---- a list of edits, on rows
steps : List Row → List Edit → List Row
steps ws [] = ws
steps ws (e ∷ es) = steps (step ws e) es

steps_length : (ws : List Row) (es : List Edit) → length (steps ws es) ≡ length ws
unfolding steps
steps_length ws [] = refl
steps_length ws (e ∷ es) = steps_length (step ws e) es ∙ step-length ws e

steps_rows : (ws : List Row) (r : Rows ws) (es : List Edit) → Rows (steps ws es)
unfolding steps
steps_rows ws r [] = r
steps_rows ws r (e ∷ es) = steps_rows (step ws e) (step_rows ws r e) es

run_rows : (ws : List Row) (r : Rows ws) (few : length ws ≤ most_rows) (es : List Edit) → run (encode ws) es ≡ encode (steps ws es)
unfolding run steps
run_rows ws r few [] = refl
run_rows ws r few (e ∷ es) =
    ap (λ (s : List ℕ). run s es) (step_law ws r few e)
    ∙ run_rows (step ws e) (step_rows ws r e) (omega (arith, step-length ws e)) es

-- ---- row by row: the last accepted edit
get_d_step : (ws : List Row) (i j : ℕ) (x : Row) (p t : Bool) → (p ≡ true → j < length ws) → eqb j i ≡ t
    → get_or (cond p (set ws j x) ws) i [] ≡ cond (p && t) x (get_or ws i [])
get_d_step ws i j x true true hp ht = rw (← eqb-true j i ht) (get_or-set_same ws j x [] (hp refl))
get_d_step ws i j x true false hp ht = get_or-set_other ws j i x [] (λ h. eqb-false j i ht (sym h))
get_d_step ws i j x false t hp ht = refl

get_d_steps : (ws : List Row) (es : List Edit) (i : ℕ) → get_or (steps ws es) i [] ≡ last_row (length ws) i (get_or ws i []) es
unfolding steps last_row
get_d_steps ws [] i = refl
get_d_steps ws (e ∷ es) i =
    let n = length ws in
    get_d_steps (step ws e) es i
    ∙ ap (λ (m : ℕ). last_row m i (get_or (step ws e) i []) es) (step-length ws e)
    ∙ ap (λ (w : Row). last_row n i w es) (get_d_step ws i e.row (worked e) (accepted n e) (eqb e.row i) (λ a. (in_of n e a).row) refl)

length-fresh : (r i : ℕ) (ws : List Row) (es : List Edit) → length (fresh_from r i ws es) ≡ length ws
unfolding fresh_from
length-fresh r i [] es = refl
length-fresh r i (w ∷ ws) es = ap suc (length-fresh r (suc i) ws es)

get_d_fresh : (r i : ℕ) (ws : List Row) (j : ℕ) (es : List Edit) → j < length ws → get_or (fresh_from r i ws es) j [] ≡ last_row r (i + j) (get_or ws j []) es
unfolding fresh_from
get_d_fresh r i [] j es h = absurd (not-suc-le-zero h)
get_d_fresh r i (w ∷ ws) zero es h = ap (λ (m : ℕ). last_row r m w es) (sym (add-zero i))
get_d_fresh r i (w ∷ ws) (suc j) es h = get_d_fresh r (suc i) ws j es (le_of_suc-le-suc h) ∙ ap (λ (m : ℕ). last_row r m (get_or ws j []) es) (suc-add i j ∙ sym (add-suc i j))

pub fresh-length : (ws : List Row) (es : List Edit) → length (fresh ws es) ≡ length ws
fresh-length ws es = length-fresh (length ws) 0 ws es

module _ (ws : List Row) (r : Rows ws) where
  steps_fresh : (es : List Edit) → steps ws es ≡ fresh ws es
  steps_fresh es =
      ext_get_or [] (steps ws es) (fresh ws es) (steps_length ws es ∙ sym (fresh-length ws es))
      (λ i h. get_d_steps ws es i ∙ sym (get_d_fresh (length ws) 0 ws i es (omega (arith, steps_length ws es)) ∙ ap (λ (m : ℕ). last_row (length ws) m (get_or ws i []) es) (zero-add i)))

  pub fresh_rows : (es : List Edit) → Rows (fresh ws es)
  fresh_rows es = rw (← steps_fresh es) (steps_rows ws r es)

  pub run-fresh : length ws ≤ most_rows → (es : List Edit) → run (encode ws) es ≡ encode (fresh ws es)
  run-fresh few es = run_rows ws r few es ∙ ap encode (steps_fresh es)

-- ---- the rows to start with
pub rows_worked : (ws : List Row) → AllWorked ws → Rows ws
rows_worked [] h = none
rows_worked (w ∷ ws) (x, xs) =
    more {w = w} (rw x.is (good_row x.entry x.known)) (rows_worked ws xs)

pub blanks-worked : (r : ℕ) → AllWorked (blanks r)
unfolding row_of
blanks-worked zero = tt
blanks-worked (suc r) = (record { entry = record { function = 0; a = 0; b = 0; c = 0; times = 0 }; known = zero-le; is = refl }, blanks-worked r)

-- ---- two edits to different rows
cond_comm : (ws : List Row) (p q : Bool) (i j : ℕ) (x y : Row) → i ≢ j
    → cond q (set (cond p (set ws i x) ws) j y) (cond p (set ws i x) ws) ≡ cond p (set (cond q (set ws j y) ws) i x) (cond q (set ws j y) ws)
cond_comm ws true true i j x y h = set_comm ws i j x y h
cond_comm ws true false i j x y h = refl
cond_comm ws false true i j x y h = refl
cond_comm ws false false i j x y h = refl

step_comm : (ws : List Row) (e f : Edit) → e.row ≢ f.row → step (step ws e) f ≡ step (step ws f) e
step_comm ws e f h =
    rw (step-length ws e, step-length ws f) (cond_comm ws (accepted (length ws) e) (accepted (length ws) f) e.row f.row (worked e) (worked f) h)

two_steps : (ws : List Row) (r : Rows ws) (few : length ws ≤ most_rows) (e f : Edit) → after (after (encode ws) e) f ≡ encode (step (step ws e) f)
two_steps ws r few e f =
    ap (λ (s : List ℕ). after s f) (step_law ws r few e) ∙ step_law (step ws e) (step_rows ws r e) (omega (arith, step-length ws e)) f

pub either_order : (ws : List Row) (r : Rows ws) (few : length ws ≤ most_rows) (e f : Edit) → e.row ≢ f.row → after (after (encode ws) e) f ≡ after (after (encode ws) f) e
either_order ws r few e f h = two_steps ws r few e f ∙ ap encode (step_comm ws e f h) ∙ sym (two_steps ws r few f e)
