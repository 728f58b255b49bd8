-- THE WHOLE PROGRAM. What a run of reads comes to, what is written of it and what is saved of it are those of the bytes that the reads brought, however they were
-- cut. Assumes nothing.
use Rattle.std.specs.Prelude.{◌≡◌, ℕ, zero, suc, ◌+◌, ◌^◌, ◌<◌, ◌≤◌, Bool, true, false, cond, not, ◌&&◌, ltb, List, [], ◌∷◌, ◌++◌, length, take, ℤ, Option, Some, None, is_none, ◌==◌, nat_lt}
use Rattle.std.proofs.Math.Path.{refl, ap}
use Rattle.std.proofs.Common.{sym, ◌∙◌, add-zero, arith, length-append, lt-ltb, ne_eqb}
use Rattle.std.proofs.lemmas.Bool.{not-true}
use Rattle.ledger.specs.Calls.{rows_in, is_sheet_of, is_sheet}
use Rattle.page.specs.Page.{failed_line, page_of}
use Rattle.ending.specs.declared.outcome.State.{State}
use Rattle.ending.specs.Outcome.{Outcome, Start, Sheet, Bad, ended_of, printed, text_of}
use Rattle.runner.specs.Run.{joined, lines_of, ran_of, run_of}
use Rattle.runner.specs.Machine.{Room, room, feed_of, feed_all, finish_of, outcome_of, Begins}
use Rattle.runner.specs.laws.Law.{program_law, stopped_law}
use Rattle.runner.specs.laws.Parts.{taken_law}
use Rattle.files.specs.Calls.{Read}
use Rattle.files.specs.Reads.{count_of, brought_of, failed_of, input_of}
use Rattle.runner.specs.Reads.{goes_on, Next, Reads, last, go_on, spent}
use Rattle.runner.specs.Done.{begun_of, all_taken, Ran, saves}
use Rattle.line.specs.Line.{line_ends}
use Rattle.runner.specs.Program.{written_of, sheet_in, saved_of}
use Rattle.runner.specs.laws.Lines.{counted}

-- ---- the reads as parts of the input

parts : List Read → List (List ℕ)
parts [] = []
parts (r ∷ rs) = brought_of r ∷ parts rs

joined_parts : (rs : List Read) → joined (parts rs) ≡ input_of rs
unfolding parts joined input_of
joined_parts [] = refl
joined_parts (r ∷ rs) = ap (λ (s : List ℕ). brought_of r ++ s) (joined_parts rs)

fed : {input : ℤ} {n : ℕ} {w v : Room} {rs : List Read} {failed : Bool} → Reads input n w rs v failed → v ≡ feed_all w (parts rs)
unfolding parts feed_all
fed spent = refl
fed (last c l) = l.fed
fed (go_on {rs = rs} c l rest) = fed rest ∙ ap (λ (w : Room). feed_all w (parts rs)) l.fed

-- ---- the four tests of saving

pub all_four : (a b c d : Bool) → (a && (b && (c && d))) ≡ true → (b ≡ true) × (c ≡ true) × (d ≡ true)
all_four true true true true e = (refl, refl, refl)
all_four true true true false e = (refl, refl, e)
all_four true true false d e = (refl, e, cc)
all_four true false c d e = (e, cc, cc)
all_four false b c d e = (cc, cc, cc)

-- ---- a run that failed

ends_both : (s t : List ℕ) → line_ends (s ++ t) ≡ line_ends s + line_ends t
unfolding line_ends
ends_both [] t = omega arith
ends_both (b ∷ s) t = by (b == 10) (ends_both s t) where
  by : (c : Bool) → line_ends (s ++ t) ≡ line_ends s + line_ends t
      → cond c (suc (line_ends (s ++ t))) (line_ends (s ++ t)) ≡ cond c (suc (line_ends s)) (line_ends s) + line_ends t
  by true e = omega arith
  by false e = omega arith

ends_few : (s : List ℕ) → line_ends s ≤ length s
unfolding line_ends
ends_few [] = omega arith
ends_few (b ∷ s) = by (b == 10) (ends_few s) where
  by : (c : Bool) → line_ends s ≤ length s → cond c (suc (line_ends s)) (line_ends s) ≤ suc (length s)
  by true e = omega arith
  by false e = omega arith

-- a read that fails brings nothing
none_brought : (r : Read) → failed_of r ≡ true → brought_of r ≡ []
unfolding failed_of brought_of
none_brought r e = by r.got e where
  by : (g : Option ℕ) → is_none g ≡ true → take (count_of g (length r.buffer)) r.buffer ≡ []
  by None e = refl
  by (Some k) e = cc

still_good : (a b : Bool) → (a && not b) ≡ true → b ≡ false
still_good true b e = not-true b e
still_good false b e = cc

-- one after which reading goes on left no line bad, and its line ends are counted
gone_on : {w v : Room} {r : Read} {no : Bool} → Next w r v true no → w.st.lines + length (brought_of r) < 2 ^ 64
    → (v.st.bad ≡ false) × (v.st.lines ≡ w.st.lines + line_ends (brought_of r))
unfolding goes_on
gone_on {w} {v} {r} l few =
    let good : v.st.bad ≡ false = still_good (nat_lt 0 (length (brought_of r))) v.st.bad (sym l.goes_on_lem) in
    let same = l.fed in
    (good, ap (λ (u : Room). u.st.lines) same ∙ counted (brought_of r) w (sym (ap (λ (u : Room). u.st.bad) same) ∙ good) few)

-- so it is with all of a run that failed
failed_lines : {input : ℤ} {n : ℕ} {w v : Room} {rs : List Read} {failed : Bool} → Reads input n w rs v failed → failed ≡ true → w.st.bad ≡ false
    → w.st.lines + length (input_of rs) < 2 ^ 64 → (v.st.bad ≡ false) × (v.st.lines ≡ w.st.lines + line_ends (input_of rs))
unfolding input_of line_ends feed_of
failed_lines spent e good few = (good, omega arith)
failed_lines {w = w} (last {r = r} c l) e good few =
    let none : brought_of r ≡ [] = none_brought r (sym l.fails ∙ e) in
    let same = l.fed ∙ ap (feed_of w) none in (
      ap (λ (u : Room). u.st.bad) same ∙ good,
      rw none (ap (λ (u : Room). u.st.lines) same ∙ sym (add-zero w.st.lines)),
    )
failed_lines {w = w} (go_on {r = r} {rs = rs} c l rest) e good few =
    let all = length-append (brought_of r) (input_of rs) in
    let now = gone_on l (omega (arith, all)) in
    let end = failed_lines rest e now.0 (omega (arith, all, now.1, ends_few (brought_of r))) in
    (end.0, end.1 ∙ omega (arith, now.1, ends_both (brought_of r) (input_of rs)))

-- ---- the law

-- a run of fewer than 2^64 bytes
module _ {input : ℤ} (o : Outcome) {st : State} {m : List ℕ} {failed : Bool} (r : Ran input o st m failed) where
  abbrev pub bytes : List ℕ
  bytes = input_of r.took.reads

  start_good : (b : Outcome) (w : Room) → Begins b w → (w.st.bad ≡ false) × (w.st.lines ≡ 0)
  start_good Start w b = (ap (λ (s : State). s.bad) b.1, ap (λ (s : State). s.lines) b.1)
  start_good (Sheet s) w b = (ap (λ (s : State). s.bad) b.1, ap (λ (s : State). s.lines) b.1)
  start_good (Bad k) w b = absurd b

  -- where a read failed no line was bad, and the whole lines are counted
  pub failed_after : failed ≡ true → length bytes < 2 ^ 64 → (st.bad ≡ false) × (st.lines ≡ line_ends bytes)
  unfolding all_taken
  failed_after e few =
      let from = start_good o r.begin r.begins in
      let at-end = failed_lines r.took.led e from.0 (omega (arith, from.1)) in
      let same : room st r.took.line m ≡ r.took.read = r.took.end ∙ simp e in (
        ap (λ (w : Room). w.st.bad) same ∙ at-end.0,
        ap (λ (w : Room). w.st.lines) same ∙ at-end.1 ∙ omega (arith, from.1),
      )

  ended_as : failed ≡ false → ended_of st m ≡ outcome_of (feed_all r.begin (parts r.took.reads))
  unfolding all_taken outcome_of
  ended_as e =
      let same : room st r.took.line m ≡ finish_of r.took.read = r.took.end ∙ simp e in
      ap (λ (w : Room). ended_of w.st w.sheet) (same ∙ ap finish_of (fed r.took.led))

  -- else it came to what the input comes to
  pub ran_law : failed ≡ false → length bytes < 2 ^ 64 → ended_of st m ≡ ran_of o bytes
  unfolding outcome_of
  ran_law e few =
      let all = joined_parts r.took.reads in
      ended_as e ∙ program_law o r.begin r.begins (parts r.took.reads) (rw all few) ∙ ap (ran_of o) all

  -- by as many lines as the input has, where none was bad
  pub ran_lines : failed ≡ false → st.bad ≡ false → length bytes < 2 ^ 64 → st.lines ≡ length (lines_of bytes)
  unfolding all_taken
  ran_lines e good few =
      let all = joined_parts r.took.reads in
      let same : room st r.took.line m ≡ finish_of (feed_all r.begin (parts r.took.reads)) = r.took.end ∙ simp e (ap finish_of (fed r.took.led)) in
      ap (λ (w : Room). w.st.lines) same
      ∙ taken_law o r.begin r.begins (parts r.took.reads) (rw all few) (ap (λ (w : Room). w.st.bad) (sym same) ∙ good)
      ∙ ap (λ (s : List ℕ). length (lines_of s)) all

  -- and where a line was bad, what is left unread does not matter
  pub unread_law : (rest : List ℕ) → r.took.read.st.bad ≡ true → failed ≡ false → length (bytes ++ rest) < 2 ^ 64 → ended_of st m ≡ ran_of o (bytes ++ rest)
  unfolding outcome_of
  unread_law rest bad e few =
      let all = joined_parts r.took.reads in
      let was = ap (λ (u : Room). u.st.bad) (sym (fed r.took.led)) ∙ bad in
      ended_as e ∙ stopped_law o r.begin r.begins (parts r.took.reads) rest (rw all few) was ∙ ap (λ (s : List ℕ). ran_of o (s ++ rest)) all

  -- the text is that of the input
  pub whole_law : (page : List ℕ → List ℕ) → length bytes < 2 ^ 64 → text_of page failed st m ≡ written_of page o failed bytes
  unfolding text_of written_of
  whole_law page few = by failed refl where
    by : (t : Bool) → failed ≡ t → cond t (failed_line st.lines) (printed page (ended_of st m)) ≡ cond t (failed_line (line_ends bytes)) (printed page (ran_of o bytes))
    by true e = ap failed_line (failed_after e few).1
    by false e = ap (printed page) (ran_law e few)

-- what was saved is the sheet that the input comes to, from its end
pub saved_law : {input : ℤ} (o : Outcome) {st : State} {m : List ℕ} {failed : Bool} (r : Ran input o st m failed) (filed : Bool) → saves filed failed st ≡ true
    → length (input_of r.took.reads) < 2 ^ 64 → ran_of o (input_of r.took.reads) ≡ Sheet (take st.size m)
unfolding saves ended_of
saved_law o {st} {m} {failed} r filed e few =
    let all = all_four filed (not failed) (not st.bad) (not (st.lines == 0)) e in
    sym (ran_law o r (not-true failed all.0) few) ∙ simp (not-true st.bad all.1)

-- ---- and it is saved exactly where there is a file, no read failed, no line was bad, and there is one

none_or_some : (n : ℕ) → not (n == 0) ≡ nat_lt 0 n
none_or_some zero = refl
none_or_some (suc n) = simp (ne_eqb (suc n) 0 (λ z. omega arith), lt-ltb 0 (suc n) (omega arith))

pub saves_law : {input : ℤ} (o : Outcome) {st : State} {m : List ℕ} {failed : Bool} (r : Ran input o st m failed) (filed : Bool)
    → length (input_of r.took.reads) < 2 ^ 64 → saves filed failed st ≡ saved_of filed o failed (input_of r.took.reads)
unfolding saves saved_of ended_of
saves_law o {st} {m} {failed} r filed few = ap (λ (t : Bool). filed && t) (by failed refl) where
  input : List ℕ
  input = input_of r.took.reads

  good : failed ≡ false → (t : Bool) → st.bad ≡ t → (not t && not (st.lines == 0)) ≡ (sheet_in (ran_of o input) && nat_lt 0 (length (lines_of input)))
  good e true bad = rw (← ran_law o r e few) (simp bad)
  good e false fine =
      rw (← ran_law o r e few) (simp fine (none_or_some st.lines ∙ ap (λ (n : ℕ). ltb 0 n) (ran_lines o r e fine few)))

  by : (t : Bool) → failed ≡ t
      → (not t && (not st.bad && not (st.lines == 0))) ≡ (not t && (sheet_in (ran_of o input) && nat_lt 0 (length (lines_of input))))
  by true e = refl
  by false e = good e st.bad refl

-- ---- legsheet is given no bytes: it begins with no sheet, and where no read fails it writes the run of its input

pub begins_with_none : begun_of [] ≡ Start
unfolding begun_of is_sheet is_sheet_of rows_in
begins_with_none = refl

pub run_law : (input : List ℕ) → written_of page_of (begun_of []) false input ≡ run_of input
unfolding written_of run_of
run_law input = ap (λ (o : Outcome). printed page_of (ran_of o input)) begins_with_none
