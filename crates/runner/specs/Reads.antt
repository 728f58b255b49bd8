-- A run of reads. Definitions only.
use Rattle.std.specs.Prelude.{◌≡◌, ℕ, suc, ◌-◌, ◌^◌, Bool, true, false, not, ◌&&◌, List, [], ◌∷◌, length, ℤ, nat_lt}
use Rattle.files.specs.Calls.{Read, reads, Called}
use Rattle.files.specs.Reads.{brought_of, failed_of}
use Rattle.runner.specs.Machine.{Room, feed_of}

-- ---- one read

-- reading goes on after it where it brought something and left no line bad
unfoldable pub goes_on : Read → Room → Bool
goes_on r v = nat_lt 0 (length (brought_of r)) && not v.st.bad

-- the read r leads from w to v: its bytes are fed, each once; whether to read on, and whether it failed
pub record Next (w : Room) (r : Read) (v : Room) (more failed : Bool) : Type 0 where
  pub fed : v ≡ feed_of w (brought_of r)
  pub goes_on_lem : more ≡ goes_on r v
  pub fails : failed ≡ failed_of r

-- ---- a run of reads

-- the reads of the input that were made, one after the other, with n left to make at first, lead from w to v: after each but the last reading goes on, and after the
-- last it does not, since that one met the end of the input, failed, or left a bad line. Where none is left to make and reading would go on, that is a failure
pub data Reads (input : ℤ) : ℕ → Room → List Read → Room → Bool → Type 0 where
  last : {n : ℕ} {w v : Room} {r : Read} {failed : Bool} → Called (reads input (suc n) r) → Next w r v false failed → Reads input (suc n) w (r ∷ []) v failed
  go_on : {n : ℕ} {w v u : Room} {r : Read} {rs : List Read} {no failed : Bool} → Called (reads input (suc n) r) → Next w r v true no → Reads input n v rs u failed
      → Reads input (suc n) w (r ∷ rs) u failed
  spent : {w : Room} → Reads input 0 w [] w true

abbrev pub most_reads : ℕ
most_reads = 2 ^ 64 - 1

-- ---- that there are such reads

-- the read that was made, with n left, led from w to v
pub record OneRead (input : ℤ) (n : ℕ) (w v : Room) (more failed : Bool) : Type 0 where
  pub read : Read
  pub came : Called (reads input n read)
  pub led : Next w read v more failed

-- the reads that were made did
pub record SomeReads (input : ℤ) (n : ℕ) (w v : Room) (failed : Bool) : Type 0 where
  pub reads : List Read
  pub led : Reads input n w reads v failed
