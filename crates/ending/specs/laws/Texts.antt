-- A line instead of the page, whichever page it is, or the page of the sheet at the front of the memory. Assumes nothing.
use Rattle.std.proofs.Math.Path.{◌≡◌, refl}
use Rattle.std.specs.Prelude.{ℕ, Bool, ◌||◌, List, take}
use Rattle.std.proofs.Common.{arith}
use Rattle.std.proofs.Math.Bool.{true, false}
use Rattle.ending.specs.declared.outcome.State.{State}
use Rattle.ending.specs.Outcome.{ended_of, printed, text_of, instead_of}

module _ (page : List ℕ → List ℕ) (st : State) (m : List ℕ) where
  pub instead : (failed : Bool) → (failed || st.bad) ≡ true → instead_of failed st.lines ≡ text_of page failed st m
  unfolding text_of instead_of printed ended_of
  instead true e = refl
  instead false e = simp e

  pub shown : (failed : Bool) → (failed || st.bad) ≡ false → page (take st.size m) ≡ text_of page failed st m
  unfolding text_of printed ended_of
  shown false e = simp e
  shown true e = let z : ◌≡◌ {A = ℕ} 0 1 = cc in absurd (omega arith)
