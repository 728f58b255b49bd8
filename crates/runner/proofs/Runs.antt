-- One read before others, all lines taken, and the sheet that may be saved. Assumes nothing.
use Rattle.std.proofs.Common.{◌≡◌, ℕ, suc, ◌≤◌, Bool, true, false, not, eqb, List, [], ◌∷◌, length, take, ℤ, refl, ◌∙◌, arith}
use Rattle.std.specs.Prelude.{◌||◌, ◌&&◌, Option, Some, None, is_none}
use Rattle.files.specs.Reads.{count_of}
use borrow.Author.Tests.{not-true, eqb-false}
use Rattle.ending.specs.declared.outcome.State.{State}
use Rattle.ledger.specs.Calls.{is_sheet}
use Rattle.ledger.specs.laws.Refusals.{sheet_length, sheet_few}
use Rattle.text.specs.Writing.{Put, Puts}
use Rattle.text.specs.laws.Writing.{put_length}
use Rattle.page.specs.Page.{largest}
use Rattle.ending.specs.Outcome.{ended_of}
use Rattle.runner.specs.Run.{zeros}
use Rattle.runner.specs.Machine.{longest, Room, room, start_of, fixing_of, finish_of, Begins}
use Rattle.text.specs.laws.Writing.{front}
use Rattle.runner.specs.Reads.{last, go_on, spent, most_reads, OneRead, SomeReads}
use Rattle.runner.specs.laws.Whole.{all_four}
use Rattle.runner.specs.Done.{begun_of, all_taken, Took, SomeRun, saves, Savable}

module _ {input : ℤ} {n k : ℕ} {w v : Room} {more failed : Bool} (e : n ≡ suc k) (r : OneRead input n w v more failed) where
  -- reading does not go on after it
  pub ended : more ≡ false → SomeReads input n w v failed
  ended stop = record { reads = r.read ∷ []; led = rw e (last (rw e at r.came) (rw stop at r.led)) }

  -- it does, and other reads follow
  pub one_more_lem : {u : Room} {end : Bool} → more ≡ true → SomeReads input k v u end → SomeReads input n w u end
  one_more_lem on rest = record { reads = r.read ∷ rest.reads; led = rw e (go_on (rw e at r.came) (rw on at r.led) rest.led) }

-- there may be no more
pub none_left : (input : ℤ) {w : Room} (k : ℕ) → k ≤ 0 → SomeReads input k w w true
none_left input k h =
    let e : k ≡ 0 = omega arith in
    record { reads = []; led = rw e spent }

-- ---- all lines

module _ {input : ℤ} {w : Room} {st : State} {line m : List ℕ} where
  -- a read failed
  pub took_failed : (failed : Bool) → failed ≡ true → SomeReads input most_reads w (room st line m) failed → Took input w st m failed
  unfolding all_taken
  took_failed failed e r = record { reads = r.reads; read = room st line m; led = r.led; line = line; end = simp e }

  -- the end of the input ends the last line
  pub took_all : (failed : Bool) → failed ≡ false → SomeReads input most_reads w (room st line m) failed → (end : State) (line' m' : List ℕ)
      → room end line' m' ≡ finish_of (room st line m) → Took input w end m' false
  unfolding all_taken
  took_all failed e r end line' m' is = record { reads = r.reads; read = room st line m; led = rw e at r.led; line = line'; end = is }

-- ---- what may be saved

pub savable : (filed failed : Bool) (st : State) (m : List ℕ) → saves filed failed st ≡ true → SomeRun st m failed → Savable (take st.size m)
unfolding saves ended_of
savable filed failed st m e run =
    let all = all_four filed (not failed) (not st.bad) (not (eqb st.lines 0)) e in
    record {
      st = st;
      m = m;
      run = rw (not-true failed all.0) at run;
      comes = simp (not-true st.bad all.1);
      some = eqb-false st.lines 0 (not-true (eqb st.lines 0) all.2);
    }

-- a line was bad, or there was none; or it is neither
pub unsaved : (bad none : Bool) → (bad || none) ≡ true → (not bad && not none) ≡ false
unsaved true none e = refl
unsaved false true e = refl
unsaved false false e = cc

pub is_saved : (bad none : Bool) → (bad || none) ≡ false → (not bad && not none) ≡ true
is_saved false false e = refl
is_saved false true e = cc
is_saved true none e = cc

-- a read that fails brings nothing
pub none_counted : (got : Option ℕ) (n : ℕ) → is_none got ≡ true → count_of got n ≡ 0
none_counted None n e = refl
none_counted (Some k) n e = cc

-- ---- where a run begins

-- these bytes are no sheet
pub begins_without : (from m : List ℕ) → is_sheet from ≡ false → m ≡ zeros largest → Begins (begun_of from) (room start_of (zeros longest) m)
unfolding begun_of zeros
begins_without from m none e = rw none (refl, refl, e)

-- they are one, and stand at the front of the memory
module _ (from old new : List ℕ) (b : ℕ) (sheet : is_sheet from ≡ true) (size : old ≡ zeros largest) (p : Puts old new 0 b (length from) from) where
  whole : length old ≡ largest
  unfolding zeros
  whole = rw size refl

  few : length from ≤ largest
  few = omega (arith, sheet_length from sheet, sheet_few from sheet)

  put : Put old new 0 b from
  put = p.put (omega (arith, few, whole))

  there : take (length from) new ≡ from
  there =
      let e : length from ≡ b = omega (arith, put.next) in
      rw e (front put)

  pub begins_with : Begins (begun_of from) (room (fixing_of (length from)) (zeros longest) new)
  unfolding begun_of zeros
  begins_with = rw sheet (refl, refl, record { size = refl; whole = put_length old 0 from put (omega (arith, put.next, few, whole)) ∙ whole; fits = few; bytes = there })
