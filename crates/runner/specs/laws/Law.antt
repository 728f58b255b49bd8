-- THE PROGRAM'S LAW. Whatever the input, however the reads cut it into parts, and whether a run begins with no sheet or with one: what it comes to is `ran_of` of the
-- whole input (Run.antt), which is 01's "The program reads standard input". `start_of`, `fixing_of`, `feed_of`, `finish_of` and `ended_of` are the definitions that the
-- contracts of the calls `start`, `fixing`, `feed`, `finish` and of those of `ending` cite, so this speaks of what the code does between a read and a write. What is printed, and
-- what is saved, follow from what a run comes to. Assumes nothing.
use Rattle.std.specs.Prelude.{◌≡◌, ℕ, ◌^◌, ◌<◌, true, false, List, [], ◌∷◌, ◌++◌, length, take, refl}
use Rattle.std.proofs.Common.{ap, ◌∙◌}
use Rattle.text.specs.Writing.{Put}
use Rattle.text.specs.laws.Writing.{front}
use Rattle.ending.specs.Outcome.{Outcome, ended_of, printed, text_of}
use Rattle.runner.specs.Run.{joined, ran_of}
use Rattle.runner.specs.Machine.{Room, feed_of, feed_all, finish_of, outcome_of, Begins}
use Rattle.runner.specs.laws.Parts.{run_law, stop_law}

module _ (o : Outcome) (w : Room) (b : Begins o w) (parts : List (List ℕ)) where
  -- for fewer than 2^64 bytes
  pub program_law : length (joined parts) < 2 ^ 64 → let end = finish_of (feed_all w parts) in
      ended_of end.st end.sheet ≡ ran_of o (joined parts)
  unfolding outcome_of
  program_law few = run_law o w b parts few

  -- and once a line was bad, whatever is left may stay unread
  pub stopped_law : (rest : List ℕ) → length (joined parts ++ rest) < 2 ^ 64 → let read = feed_all w parts in
      let end = finish_of read in
      read.st.bad ≡ true → ended_of end.st end.sheet ≡ ran_of o (joined parts ++ rest)
  unfolding outcome_of
  stopped_law rest few bad = stop_law o w b parts rest few bad

-- ---- the same of the calls: each hypothesis is a contract's conclusion

-- feed was called once for each part, and led from the one room to the other
pub data Fed : Room → List (List ℕ) → Room → Type 0 where
  none : {w : Room} → Fed w [] w
  more : {w v u : Room} {p : List ℕ} {ps : List (List ℕ)} → v ≡ feed_of w p → Fed v ps u → Fed w (p ∷ ps) u

fed_all : {w u : Room} {ps : List (List ℕ)} → Fed w ps u → u ≡ feed_all w ps
unfolding feed_all
fed_all none = refl
fed_all (more {ps = ps} e f) = fed_all f ∙ ap (λ (v : Room). feed_all v ps) e

pub fed_law : (o : Outcome) {parts : List (List ℕ)} {w v : Room} → Begins o w → length (joined parts) < 2 ^ 64 → Fed w parts v → outcome_of v ≡ ran_of o (joined parts)
fed_law o {parts = parts} {w = w} b few feeds = ap outcome_of (fed_all feeds) ∙ run_law o w b parts few

-- so the text that was put at the start of a buffer, where no read failed, is the run's
pub calls_law : (o : Outcome) (page : List ℕ → List ℕ) {parts : List (List ℕ)} {w v end : Room} {old new : List ℕ} {n : ℕ}
    → length (joined parts) < 2 ^ 64
    → Begins o w
    → Fed w parts v
    → end ≡ finish_of v
    → Put old new 0 n (text_of page false end.st end.sheet)
    → take n new ≡ printed page (ran_of o (joined parts))
unfolding outcome_of text_of
calls_law o page few b feeds finish print =
    front print ∙ ap (λ (u : Room). printed page (ended_of u.st u.sheet)) finish ∙ ap (printed page) (fed_law o b few feeds)
