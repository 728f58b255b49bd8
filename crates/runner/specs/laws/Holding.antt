-- What the machine holds after k lines and a part of the next, and that each byte keeps it so. Assumes nothing.
use Rattle.std.specs.Prelude.{◌≡◌, ℕ, suc, ◌+◌, ◌-◌, ◌^◌, ◌<◌, ◌≤◌, Bool, true, false, cond, not, Option, Some, None, List, [], ◌∷◌, ◌++◌, length, take, drop, replicate, ◌==◌, ◌≢◌, slice_set, refl}
use Rattle.std.proofs.Math.Path.{sym, ap}
use Rattle.std.proofs.Common.{◌∙◌, mod-eq_of_lt, add-one, arith, length-append, length-drop, length-set, take_at, take-suc-set, length-take-le, lt-ltb, le-ltb}
use Rattle.std.proofs.Math.Nat.{sub-zero}
use Rattle.std.proofs.lemmas.List.{length-replicate, replicate-append-replicate}
use Rattle.line.specs.declared.Edit.{Edit}
use Rattle.line.specs.Line.{decimal_of, line_of}
use Rattle.line.specs.laws.Long.{below, long-count, long-line}
use Rattle.ledger.specs.Sheet.{size_for}
use Rattle.ledger.specs.Calls.{blank_refusal, blank_of}
use Rattle.sheet.specs.Edit.{edit_refusal, edit_of}
use Rattle.page.specs.Page.{largest}
use Rattle.ending.specs.declared.outcome.State.{State}
use Rattle.ending.specs.Outcome.{Outcome, Start, Sheet, Bad, ended_of}
use Rattle.runner.specs.Run.{zeros, count_on, entry_of, edit_on, line_on, closed}
use Rattle.runner.specs.Machine.{longest, Held, Room, held, room, between, on_part, line_number, count_line, edit_line, take_line, longer_of, step_of, Stored, Begins}
use Rattle.runner.specs.laws.Steps.{step_idle, step_end, end-long, end-taken, step_over, step_more}
use Rattle.runner.specs.laws.Lengths.{length-zeros, length_blank, length_edit}

-- ---- what is held

-- k lines were taken, none bad, and the buffer holds the part p of the next: all of it, or of a long one that it is long
pub record Open (w : Room) (k : ℕ) (p : List ℕ) : Type 0 where
  pub good : w.st.bad ≡ false
  pub lines : w.st.lines ≡ k
  pub buffer : length w.line ≡ longest
  pub short : length p ≤ longest → (w.st.held ≡ length p) × (take (length p) w.line ≡ p)
  pub long : longest < length p → longest < w.st.held

abbrev pub Holds : Room → ℕ → Outcome → List ℕ → Type 0
Holds w k Start p = Open w k p × (w.st.begun ≡ false) × (k ≡ 0) × (w.sheet ≡ zeros largest)
Holds w k (Sheet s) p = Open w k p × (w.st.begun ≡ true) × Stored s w.st w.sheet
Holds w k (Bad j) p = (w.st.bad ≡ true) × (w.st.lines ≡ j)

-- ---- the memory

pub take-zeros : (n m : ℕ) → n ≤ m → take n (zeros m) ≡ zeros n
unfolding zeros
take-zeros n m h =
    let e : m ≡ n + (m - n) = omega arith in
    rw e (rw (← replicate-append-replicate {A = ℕ} n (m - n) 0) (take_at (replicate {A = ℕ} n 0) (replicate (m - n) 0) n (length-replicate n 0)))

-- a call that keeps the sheet's length stores what it makes
pub part_stored : (st : State) (m : List ℕ) (n : ℕ) (f : List ℕ → List ℕ) → n ≤ largest → length m ≡ largest → st.size ≡ n
    → length (f (take n m)) ≡ length (take n m) → Stored (f (take n m)) st (on_part n f m)
unfolding on_part
part_stored st m n f h whole size keep =
    let l : length (f (take n m)) ≡ n = keep ∙ length-take-le n m (omega arith) in
    record {
      size = size ∙ sym l;
      whole = simp (length-append, length-drop) (omega arith);
      fits = omega arith;
      bytes = take_at (f (take n m)) (drop n m) (length (f (take n m))) refl;
    }

-- ---- one line

-- between two lines nothing of the next is held
open_between : (w : Room) (k : ℕ) → w.st.bad ≡ false → w.st.lines ≡ k → w.st.held ≡ 0 → length w.line ≡ longest → Open w k []
open_between w k good lines none l = record { good = good; lines = lines; buffer = l; short = λ h. (none, refl); long = λ h. omega arith }

-- the machine's call for a line and the run's agree
module _ (line : List ℕ) (buffer : length line ≡ longest) where
  call_holds : (k n : ℕ) (m : List ℕ) (f : List ℕ → List ℕ) → n ≤ largest → length m ≡ largest → length (f (take n m)) ≡ length (take n m) → (t : Bool)
      → Holds (room (between (suc k) n (not t)) line (on_part n f m)) (suc k) (cond t (Sheet (f (take n m))) (Bad (suc k))) []
  call_holds k n m f h whole keep true =
      (open_between (room (between (suc k) n false) line (on_part n f m)) (suc k) refl refl refl buffer, refl, part_stored (between (suc k) n false) m n f h whole refl keep)
  call_holds k n m f h whole keep false = (refl, refl)

  count_holds : (m : List ℕ) → m ≡ zeros largest → (x : Option ℕ) → Holds (room (count_line 1 m x).st line (count_line 1 m x).sheet) 1 (count_on x) []
  unfolding count_line count_on
  count_holds m e None = (refl, refl)
  count_holds m e (Some r) =
      below 1024 r
      (λ h. simp (lt-ltb 1024 r h) (refl, refl))
      (λ h.
      let whole : length m ≡ largest = ap length e ∙ length-zeros largest in
      let part : take (size_for r) m ≡ zeros (size_for r) = rw e (take-zeros (size_for r) largest (omega arith)) in
      simp (le-ltb 1024 r h)
      (rw (← part)
      (call_holds 0 (size_for r) m (λ s. blank_of s r) (omega arith) whole (length_blank (take (size_for r) m) r) (blank_refusal (take (size_for r) m) r == 0))))

  edit_holds : (k : ℕ) (s m : List ℕ) (st : State) → Stored s st m → (x : Option Edit)
      → Holds (room (edit_line (suc k) st.size m x).st line (edit_line (suc k) st.size m x).sheet) (suc k) (edit_on (suc k) s x) []
  unfolding edit_line edit_on
  edit_holds k s m st held None = (refl, refl)
  edit_holds k s m st held (Some e) =
      let part : s ≡ take st.size m = sym held.bytes ∙ ap (λ (n : ℕ). take n m) (sym held.size) in
      rw part
      (call_holds k st.size m (λ t. edit_of t e.row (entry_of e)) (omega (arith, held.size, held.fits)) held.whole (length_edit (take st.size m) e.row (entry_of e))
      (edit_refusal (take st.size m) e.row e.function == 0))

-- ---- one byte

-- a byte that is no line end joins the part, and leaves the sheet alone
module _ (w : Room) (k : ℕ) (p : List ℕ) (x : ℕ) (o : Open w k p) (other : x ≡ 10 → ⊥) where
  abbrev pub Joined : Room → Type 0
  Joined v = Open v k (p ++ (x ∷ [])) × (v.sheet ≡ w.sheet) × (v.st.size ≡ w.st.size) × (v.st.begun ≡ w.st.begun)

  joined_over : longest < length p → Joined w
  joined_over h =
      let l = length-append p (x ∷ []) in
      (record { good = o.good; lines = o.lines; buffer = o.buffer; short = λ s. absurd (omega arith); long = λ s. o.long h }, refl, refl, refl)

  joined_more : length p ≤ longest → Joined (room (longer_of w.st) (slice_set w.line w.st.held x) w.sheet)
  joined_more h =
      let l : length (p ++ (x ∷ [])) ≡ length p + 1 = length-append p (x ∷ []) in
      let at : w.st.held ≡ length p = (o.short h).0 in (
        record {
          good = refl;
          lines = o.lines;
          buffer = length-set w.line w.st.held x ∙ o.buffer;
          short = λ s. (
            omega arith,
            rw (l, at) (rw add-one (take-suc-set w.line (length p) x (omega (arith, o.buffer)) ∙ rw (o.short h).1 refl)),
          );
          long = λ s. omega arith;
        },
        refl,
        refl,
        refl,
      )

  pub joined : Joined (step_of w x)
  joined =
      below longest (length p)
      (λ h. rw (← step_over w.st w.line w.sheet x o.good other (o.long h)) (joined_over h))
      (λ h. rw (← step_more w.st w.line w.sheet x o.good other (omega (arith, (o.short h).0))) (joined_more h))

-- a line end takes the line that is held
module _ (w : Room) (k : ℕ) (p : List ℕ) (o : Open w k p) (few : k + 1 < 2 ^ 64) where
  number : line_number w.st ≡ suc k
  number = rw o.lines (mod-eq_of_lt few ∙ add-one k)

  -- a long one is bad
  ended_long : longest < length p → Holds (step_of w 10) (suc k) (Bad (suc k)) []
  ended_long h =
      rw (← end-long w.st w.line w.sheet (line_number w.st) (o.long h) refl ∙ step_end w.st w.line w.sheet 10 o.good refl) (refl, number)

  ended_short : length p ≤ longest → step_of w 10 ≡ room (take_line w.st p w.sheet).st w.line (take_line w.st p w.sheet).sheet
  ended_short h =
      let at : w.st.held ≡ length p = (o.short h).0 in
      let is : take (w.st.held - 0) w.line ≡ p = rw (sub-zero, at) (o.short h).1 in
      let t : Held = take_line w.st (take (w.st.held - 0) w.line) w.sheet in
      sym (end-taken w.st w.line w.sheet t.st t.sheet (omega arith) refl ∙ step_end w.st w.line w.sheet 10 o.good refl)
      ∙ ap (λ (s : List ℕ). room (take_line w.st s w.sheet).st w.line (take_line w.st s w.sheet).sheet) is

  first-line : w.st.begun ≡ false → k ≡ 0 → take_line w.st p w.sheet ≡ count_line 1 w.sheet (decimal_of p)
  unfolding take_line
  first-line none z = rw number (simp (none, z))

  later_line : w.st.begun ≡ true → take_line w.st p w.sheet ≡ edit_line (suc k) w.st.size w.sheet (line_of p)
  unfolding take_line
  later_line begun = rw number (simp begun)

pub ended : (w : Room) (k : ℕ) (o : Outcome) (p : List ℕ) → Holds w k o p → k + 1 < 2 ^ 64 → Holds (step_of w 10) (suc k) (line_on (suc k) o p) []
unfolding line_on count_on edit_on
ended w k Start p (o, none, z, e) few =
    below longest (length p)
    (λ h. let bad : count_on (decimal_of p) ≡ Bad (suc k) = rw (long-count p h, z) refl in rw bad (ended_long w k p o few h))
    (λ h. rw (ended_short w k p o few h) (rw (first-line w k p o few none z) (rw z (count_holds w.line o.buffer w.sheet e (decimal_of p)))))
ended w k (Sheet s) p (o, begun, held) few =
    below longest (length p)
    (λ h. let bad : edit_on (suc k) s (line_of p) ≡ Bad (suc k) = rw (long-line p h) refl in rw bad (ended_long w k p o few h))
    (λ h. rw (ended_short w k p o few h) (rw (later_line w k p o few begun) (edit_holds w.line o.buffer k s w.sheet w.st held (line_of p))))
ended w k (Bad j) p (bad, is) few = rw (← step_idle w.st w.line w.sheet 10 bad) (bad, is)

pub more : (w : Room) (k : ℕ) (o : Outcome) (p : List ℕ) (x : ℕ) → Holds w k o p → (x ≢ 10) → Holds (step_of w x) k o (p ++ (x ∷ []))
more w k Start p x (o, none, z, e) other =
    let j = joined w k p x o other in
    (j.0, j.3 ∙ none, z, j.1 ∙ e)
more w k (Sheet s) p x (o, begun, held) other =
    let j = joined w k p x o other in
    (j.0, j.3 ∙ begun, record { size = j.2 ∙ held.size; whole = ap length j.1 ∙ held.whole; fits = held.fits; bytes = rw j.1 held.bytes })
more w k (Bad j) p x (bad, is) other = rw (← step_idle w.st w.line w.sheet x bad) (bad, is)

-- ---- from the first to the last

pub begins : (w : Room) (o : Outcome) → Begins o w → Holds w 0 o []
begins w Start (l, e, z) =
    (open_between w 0 (ap (λ (st : State). st.bad) e) (ap (λ (st : State). st.lines) e) (ap (λ (st : State). st.held) e) l, ap (λ (st : State). st.begun) e, refl, z)
begins w (Sheet s) (l, e, held) =
    (open_between w 0 (ap (λ (st : State). st.bad) e) (ap (λ (st : State). st.lines) e) (ap (λ (st : State). st.held) e) l, ap (λ (st : State). st.begun) e, held)
begins w (Bad j) none = absurd none

-- a line was taken, or there is a sheet
pub comes_to : (w : Room) (k : ℕ) (o : Outcome) (p : List ℕ) → Holds w k o p → (k ≡ 0 → w.st.begun ≡ true) → ended_of w.st w.sheet ≡ closed o
unfolding ended_of closed
comes_to w k Start p (o, none, z, e) some = let q : true ≡ false = sym (some z) ∙ none in cc
comes_to w k (Sheet s) p (o, begun, held) some = simp o.good (rw (held.size, held.bytes) refl)
comes_to w k (Bad j) p (bad, is) some = simp bad (rw is refl)
