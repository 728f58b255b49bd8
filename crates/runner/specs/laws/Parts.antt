-- Why the machine makes the run: its parts come to the whole, and each byte keeps what Holding says. Assumes nothing.
use Rattle.std.specs.Prelude.{◌≡◌, ℕ, suc, ◌+◌, ◌^◌, ◌<◌, Bool, true, false, cond, ◌&&◌, List, [], ◌∷◌, ◌++◌, length, ◌==◌, ◌≢◌}
use Rattle.std.proofs.Math.Path.{refl, sym, ap}
use Rattle.std.proofs.Common.{◌∙◌, add-zero, add-one, arith, append_assoc, append-nil, length-append, eq-eqb, ne_eqb, eqb-true}
use Rattle.std.proofs.Math.Nat.{zero-add}
use Rattle.std.proofs.lemmas.Bool.{eqb-false}
use Rattle.line.specs.Line.{decimal_of, onto, cut}
use Rattle.line.specs.laws.Long.{below}
use Rattle.ending.specs.Outcome.{Outcome, Start, Sheet, Bad}
use Rattle.runner.specs.Run.{joined, count_on, line_on, lines_on, lines_of, closed, ran_of}
use Rattle.runner.specs.Machine.{longest, Room, step_of, feed_of, feed_all, finish_of, outcome_of, Begins}
use Rattle.runner.specs.laws.Steps.{step_idle}
use Rattle.runner.specs.laws.Holding.{Holds, begins, ended, more, comes_to}

-- ---- parts

pub feed_append : (w : Room) (s t : List ℕ) → feed_of w (s ++ t) ≡ feed_of (feed_of w s) t
unfolding feed_of
feed_append w [] t = refl
feed_append w (x ∷ s) t = feed_append (step_of w x) s t

-- parts come to what the whole does
pub in_parts : (w : Room) (ps : List (List ℕ)) → feed_all w ps ≡ feed_of w (joined ps)
unfolding feed_all joined feed_of
in_parts w [] = refl
in_parts w (p ∷ ps) = in_parts (feed_of w p) ps ∙ sym (feed_append w p (joined ps))

-- a bad line is the last that is read
feed_idle : (s : List ℕ) (w : Room) → w.st.bad ≡ true → feed_of w s ≡ w
unfolding feed_of
feed_idle [] w bad = refl
feed_idle (x ∷ s) w bad = rw (← step_idle w.st w.line w.sheet x bad) (feed_idle s w bad)

-- ---- the lines ahead, where the part p of the first was read

last : List ℕ → List (List ℕ)
last [] = []
last (x ∷ p) = (x ∷ p) ∷ []

ahead : List ℕ → List ℕ → List (List ℕ)
ahead p [] = last p
ahead p (x ∷ xs) = cond (x == 10) (p ∷ ahead [] xs) (ahead (p ++ (x ∷ [])) xs)

-- p in front of the first line
front : List ℕ → List (List ℕ) → List (List ℕ)
front p [] = last p
front p (q ∷ qs) = (p ++ q) ∷ qs

front_none : (qs : List (List ℕ)) → front [] qs ≡ qs
unfolding front last
front_none [] = refl
front_none (q ∷ qs) = refl

last_snoc : (p : List ℕ) (x : ℕ) → last (p ++ (x ∷ [])) ≡ (p ++ (x ∷ [])) ∷ []
unfolding last
last_snoc [] x = refl
last_snoc (y ∷ p) x = refl

front_onto : (p : List ℕ) (x : ℕ) (qs : List (List ℕ)) → front (p ++ (x ∷ [])) qs ≡ front p (onto x qs)
unfolding front onto
front_onto p x [] = last_snoc p x
front_onto p x (q ∷ qs) = rw (append_assoc p (x ∷ []) q) refl

ahead_cut : (p xs : List ℕ) → ahead p xs ≡ front p (cut 10 [] xs)
unfolding ahead front cut
ahead_cut p [] = refl
ahead_cut p (x ∷ xs) = by (x == 10) (ahead_cut [] xs) (ahead_cut (p ++ (x ∷ [])) xs) where
  by : (t : Bool) → ahead [] xs ≡ front [] (cut 10 [] xs) → ahead (p ++ (x ∷ [])) xs ≡ front (p ++ (x ∷ [])) (cut 10 [] xs)
      → cond t (p ∷ ahead [] xs) (ahead (p ++ (x ∷ [])) xs) ≡ front p (cond t ([] ∷ cut 10 [] xs) (onto x (cut 10 [] xs)))
  by true e f = ap (λ (ls : List (List ℕ)). p ∷ ls) (e ∙ front_none (cut 10 [] xs)) ∙ rw append-nil refl
  by false e f = f ∙ front_onto p x (cut 10 [] xs)

-- ---- the end of the input

pub lines_bad : (k j : ℕ) (ls : List (List ℕ)) → lines_on k (Bad j) ls ≡ Bad j
unfolding lines_on line_on
lines_bad k j [] = refl
lines_bad k j (l ∷ ls) = lines_bad (suc k) j ls

and_false : (a b : Bool) → b ≡ false → (a && b) ≡ false
and_false true b e = e
and_false false b e = refl

module _ (w : Room) where
  finish_idle : w.st.bad ≡ true → finish_of w ≡ w
  unfolding finish_of
  finish_idle bad = by (w.st.held == 0 && w.st.begun) where
    by : (t : Bool) → cond t w (step_of w 10) ≡ w
    by true = refl
    by false = sym (step_idle w.st w.line w.sheet 10 bad)

  finish_none : w.st.begun ≡ false → finish_of w ≡ step_of w 10
  unfolding finish_of
  finish_none e = simp (and_false (w.st.held == 0) w.st.begun e)

  finish_between : w.st.held ≡ 0 → w.st.begun ≡ true → finish_of w ≡ w
  unfolding finish_of
  finish_between h b = simp (eq-eqb w.st.held 0 h, b)

  finish_within : (w.st.held ≢ 0) → finish_of w ≡ step_of w 10
  unfolding finish_of
  finish_within h = simp (ne_eqb w.st.held 0 h)

-- what the end of the input leaves: what the lines come to, and how many were taken where none was bad
abbrev Ended : Room → ℕ → Outcome → Type 0
Ended w n o = (outcome_of w ≡ closed o) × ((finish_of w).st.bad ≡ false → (finish_of w).st.lines ≡ n)

as_many : (w : Room) (o : Outcome) {n m : ℕ} → n ≡ m → Ended w n o → Ended w m o
as_many w o e h = (h.0, λ good. h.1 good ∙ e)

never_bad : {A : Type 0} (t : Bool) → t ≡ true → t ≡ false → A
never_bad t e f =
    let z : true ≡ false = sym e ∙ f in
    let y : ◌≡◌ {A = ℕ} 0 1 = cc in
    absurd (omega arith)

good_lines : (w : Room) (k : ℕ) (o : Outcome) (p : List ℕ) → Holds w k o p → w.st.bad ≡ false → w.st.lines ≡ k
good_lines w k Start p h good = h.0.lines
good_lines w k (Sheet s) p h good = h.0.lines
good_lines w k (Bad j) p h good = never_bad w.st.bad h.0 good

-- a line end was the last byte, or stands for it
line-end : (w : Room) (k : ℕ) (o : Outcome) (p : List ℕ) → Holds w k o p → k + 1 < 2 ^ 64 → finish_of w ≡ step_of w 10 → Ended w (k + 1) (line_on (suc k) o p)
unfolding outcome_of
line-end w k o p h few e =
    let next = ended w k o p h few in
    rw (e, add-one k)
    (comes_to (step_of w 10) (suc k) (line_on (suc k) o p) [] next (λ z. absurd (omega arith)), λ good. good_lines (step_of w 10) (suc k) (line_on (suc k) o p) [] next good)

at-end : (w : Room) (k : ℕ) (o : Outcome) (p : List ℕ) → Holds w k o p → k + length p < 2 ^ 64 → Ended w (k + length (last p)) (lines_on (suc k) o (last p))
unfolding outcome_of lines_on line_on last count_on decimal_of closed
-- a first line that nothing was read of is an empty one
at-end w k Start [] (o, none, z, e) few =
    let h : Holds w k Start [] = (o, none, z, e) in
    let bad : (finish_of w).st.bad ≡ true = rw (finish_none w none) (ended w k Start [] h (omega arith)).0 in
    ((line-end w k Start [] h (omega arith) (finish_none w none)).0, λ good. never_bad (finish_of w).st.bad bad good)
at-end w k Start (x ∷ p) (o, none, z, e) few = line-end w k Start (x ∷ p) (o, none, z, e) (omega arith) (finish_none w none)
at-end w k (Sheet s) [] (o, begun, stored) few =
    rw (finish_between w (o.short (omega arith)).0 begun)
    (comes_to w k (Sheet s) [] (o, begun, stored) (λ z. begun), λ good. o.lines ∙ sym (add-zero k))
at-end w k (Sheet s) (x ∷ p) (o, begun, stored) few =
    let some : w.st.held ≡ 0 → ⊥ =
    λ none. below longest (length (x ∷ p)) (λ h. let l = o.long h in omega arith) (λ h. let l = (o.short h).0 in omega arith) in
    line-end w k (Sheet s) (x ∷ p) (o, begun, stored) (omega arith) (finish_within w some)
at-end w k (Bad j) p (bad, is) few =
    rw (finish_idle w bad, lines_bad (suc k) j (last p))
    (comes_to w 1 (Bad j) p (bad, is) (λ z. absurd (omega arith)), λ good. never_bad w.st.bad bad good)

-- ---- the law

-- from any place of a run: what is ahead comes to what the lines ahead do
run_from : (xs : List ℕ) (w : Room) (k : ℕ) (o : Outcome) (p : List ℕ) → Holds w k o p → k + length p + length xs < 2 ^ 64
    → Ended (feed_of w xs) (k + length (ahead p xs)) (lines_on (suc k) o (ahead p xs))
unfolding feed_of ahead lines_on
run_from [] w k o p h few = at-end w k o p h (omega arith)
run_from (x ∷ xs) w k o p h few = by (run_from xs) (x == 10) refl where
  by : ((w : Room) (k : ℕ) (o : Outcome) (p : List ℕ) → Holds w k o p → k + length p + length xs < 2 ^ 64
      → Ended (feed_of w xs) (k + length (ahead p xs)) (lines_on (suc k) o (ahead p xs)))
      → (t : Bool) → (x == 10) ≡ t
      → let ls : List (List ℕ) = cond t (p ∷ ahead [] xs) (ahead (p ++ (x ∷ [])) xs) in
      Ended (feed_of (step_of w x) xs) (k + length ls) (lines_on (suc k) o ls)
  by rest true e =
      let more : suc k + length (ahead [] xs) ≡ k + length (p ∷ ahead [] xs) = omega arith in
      rw (eqb-true x 10 e)
      (as_many (feed_of (step_of w 10) xs) (lines_on (suc (suc k)) (line_on (suc k) o p) (ahead [] xs)) more
      (rest (step_of w 10) (suc k) (line_on (suc k) o p) [] (ended w k o p h (omega arith)) (omega arith)))
  by rest false e =
      rest (step_of w x) k o (p ++ (x ∷ [])) (more w k o p x h (eqb-false x 10 e)) (omega (arith, length-append p (x ∷ [])))

-- from where it begins
module _ (o : Outcome) (w : Room) (b : Begins o w) where
  run-whole : (input : List ℕ) → length input < 2 ^ 64
      → (outcome_of (feed_of w input) ≡ ran_of o input) × ((finish_of (feed_of w input)).st.bad ≡ false → (finish_of (feed_of w input)).st.lines ≡ length (lines_of input))
  unfolding ran_of lines_of
  run-whole input few =
      let same : ahead [] input ≡ cut 10 [] input = ahead_cut [] input ∙ front_none (cut 10 [] input) in
      let end = run_from input w 0 o [] (begins w o b) (omega arith) in
      (end.0 ∙ ap (λ (ls : List (List ℕ)). closed (lines_on 1 o ls)) same, λ good. end.1 good ∙ zero-add _ ∙ ap length same)

  pub run_law : (parts : List (List ℕ)) → length (joined parts) < 2 ^ 64 → outcome_of (feed_all w parts) ≡ ran_of o (joined parts)
  run_law parts few = ap outcome_of (in_parts w parts) ∙ (run-whole (joined parts) few).0

  -- how many lines were taken, where none was bad
  pub taken_law : (parts : List (List ℕ)) → length (joined parts) < 2 ^ 64 → (finish_of (feed_all w parts)).st.bad ≡ false
      → (finish_of (feed_all w parts)).st.lines ≡ length (lines_of (joined parts))
  taken_law parts few = rw (in_parts w parts) (run-whole (joined parts) few).1

  -- after a bad line the rest need not be read
  pub stop_law : (parts : List (List ℕ)) (rest : List ℕ) → length (joined parts ++ rest) < 2 ^ 64 → (feed_all w parts).st.bad ≡ true
      → outcome_of (feed_all w parts) ≡ ran_of o (joined parts ++ rest)
  stop_law parts rest few bad =
      ap outcome_of (sym (feed_idle rest (feed_all w parts) bad) ∙ ap (λ (v : Room). feed_of v rest) (in_parts w parts) ∙ sym (feed_append w (joined parts) rest))
      ∙ (run-whole (joined parts ++ rest) few).0
