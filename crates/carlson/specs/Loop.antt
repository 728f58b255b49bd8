-- Carlson's duplication as a loop over any state (01, module 5): the stop test is tried before each round, and at most 64 rounds are made. Definitions only.
use Rattle.std.specs.Prelude.{ℕ, zero, suc, ◌+◌, ◌-◌, Bool, true, false}

-- n rounds are left, k are made; the Bool is the stop test at the state; `closed` reads the outcome off the last state and the rounds made
unfoldable pub iterate : {S R : Type 0} → (S → Bool) → (S → S) → (S → ℕ → R) → ℕ → ℕ → Bool → S → R
iterate stops round closed zero k b s = closed s k
iterate stops round closed (suc n) k true s = closed s k
iterate stops round closed (suc n) k false s = iterate stops round closed n (k + 1) (stops (round s)) (round s)

-- the rest of the run, from s after k rounds
unfoldable pub finish_of : {S R : Type 0} → (S → Bool) → (S → S) → (S → ℕ → R) → S → ℕ → R
finish_of stops round closed s k = iterate stops round closed (64 - k) k (stops s) s

unfoldable pub duplicated : {S R : Type 0} → (S → Bool) → (S → S) → (S → ℕ → R) → S → R
duplicated stops round closed s = iterate stops round closed 64 0 (stops s) s
