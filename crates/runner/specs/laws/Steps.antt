-- What a byte does, test by test: lemmas of the machine. Assumes nothing.
use Rattle.std.specs.Prelude.{◌≡◌, ℕ, ◌+◌, ◌-◌, ◌<◌, ◌≤◌, true, false, List, length, take, drop, ◌≢◌, slice_index, slice_set, refl}
use Rattle.std.proofs.Common.{sym, ◌∙◌, add-one, arith, drop_of_length-le, drop-cons}
use Rattle.std.proofs.Math.Path.{ap}
use Rattle.std.proofs.Math.Nat.{sub-zero}
use Rattle.std.proofs.Math.Seq.{set_out}
use borrow.Author.Tests.{lt-ltb, le-ltb, eq-eqb, ne_eqb}
use Rattle.ending.specs.declared.outcome.State.{State}
use Rattle.runner.specs.Machine.{longest, Held, Room, held, room, between, line_number, take_line, longer_of, end_of, join_of, step_of, feed_of}

-- a line end
module _ (st : State) (line m : List ℕ) where
  pub end-long : (k : ℕ) → longest < st.held → k ≡ line_number st → room (between k st.size true) line m ≡ end_of (room st line m)
  unfolding end_of
  end-long k h ek = rw ek (simp (lt-ltb longest st.held h))

  pub end-taken : (r : State) (new : List ℕ) → st.held ≤ longest → held r new ≡ take_line st (take (st.held - 0) line) m → room r line new ≡ end_of (room st line m)
  unfolding end_of
  end-taken r new h f = ap (λ (x : Held). room x.st line x.sheet) f ∙ rw (sub-zero st.held) (simp (le-ltb longest st.held h))

-- any byte
module _ (st : State) (line m : List ℕ) (b : ℕ) where
  pub step_idle : st.bad ≡ true → room st line m ≡ step_of (room st line m) b
  unfolding step_of
  step_idle h = simp h

  pub step_end : st.bad ≡ false → b ≡ 10 → end_of (room st line m) ≡ step_of (room st line m) b
  unfolding step_of
  step_end good e = simp (good, eq-eqb b 10 e)

  pub step_over : st.bad ≡ false → (b ≢ 10) → longest < st.held → room st line m ≡ step_of (room st line m) b
  unfolding step_of join_of
  step_over good e h = simp (good, ne_eqb b 10 e, lt-ltb longest st.held h)

  pub step_more : st.bad ≡ false → (b ≢ 10) → st.held ≤ longest → room (longer_of st) (slice_set line st.held b) m ≡ step_of (room st line m) b
  unfolding step_of join_of
  step_more good e h = simp (good, ne_eqb b 10 e, le-ltb longest st.held h)

  pub step_full : st.bad ≡ false → (b ≢ 10) → st.held ≡ longest → length line ≡ longest → room (longer_of st) line m ≡ step_of (room st line m) b
  step_full good e h l =
      ap (λ (x : List ℕ). room (longer_of st) x m) (sym (set_out line st.held b (omega arith))) ∙ step_more good e (omega arith)

pub feed_next : (w : Room) (s : List ℕ) (i : ℕ) → i < length s → feed_of (step_of w (slice_index s i)) (drop (i + 1) s) ≡ feed_of w (drop i s)
unfolding feed_of
feed_next w s i h = rw add-one (rw (drop-cons s i 0 h) refl)

pub feed_end : (w : Room) (s : List ℕ) (i : ℕ) → length s ≤ i → feed_of w (drop i s) ≡ w
unfolding feed_of
feed_end w s i h = rw (drop_of_length-le s h) refl
