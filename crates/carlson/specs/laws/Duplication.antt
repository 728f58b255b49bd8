-- The loop of every recipe, argued once: what holds at its head, and what follows where it ends. Assumes nothing.
use Rattle.std.specs.Prelude.{◌≡◌, refl, Bool}
use Rattle.std.proofs.Common.{sym, ◌∙◌, arith}
use Rattle.std.proofs.Math.Bool.{true, false}
use Prim.Native.Nat.{ℕ, zero, suc, ◌≤◌, ◌<◌, ◌-◌, ◌+◌}
use Rattle.carlson.specs.Loop.{iterate}

-- the rest of the run, from s after k rounds, gives `whole`
abbrev pub Holds : {S R : Type 0} → (S → Bool) → (S → S) → (S → ℕ → R) → R → S → ℕ → Type 0
Holds stops round closed whole s k = iterate stops round closed (64 - k) k (stops s) s ≡ whole

ended : {S R : Type 0} (stops : S → Bool) (round : S → S) (closed : S → ℕ → R) (n k : ℕ) (s : S) → iterate stops round closed n k true s ≡ closed s k
unfolding iterate
ended stops round closed zero k s = refl
ended stops round closed (suc n) k s = refl

-- a round is made where the test is not met
pub at_next : {S R : Type 0} (stops : S → Bool) (round : S → S) (closed : S → ℕ → R) (whole : R) (s t : S) (k : ℕ) (b : Bool) → k < 64 → b ≡ stops s → b ≡ false → t ≡ round s → Holds stops round closed whole s k → Holds stops round closed whole t (k + 1)
unfolding iterate
at_next stops round closed whole s t k b below e left h inv =
    let q : stops s ≡ false = sym e ∙ left in
    let n : 64 - k ≡ suc (64 - (k + 1)) = omega arith in
    rw h (rw (n, q) at inv)

-- the test is met
pub where_met : {S R : Type 0} (stops : S → Bool) (round : S → S) (closed : S → ℕ → R) (whole : R) (s : S) (k : ℕ) (b : Bool) (r : R) → b ≡ stops s → b ≡ true → r ≡ closed s k → Holds stops round closed whole s k → r ≡ whole
where_met stops round closed whole s k b r e taken h inv =
    let q : stops s ≡ true = sym e ∙ taken in
    rw (h, ← ended stops round closed (64 - k) k s, ← q) inv

-- no round is left
pub where_spent : {S R : Type 0} (stops : S → Bool) (round : S → S) (closed : S → ℕ → R) (whole : R) (s : S) (k : ℕ) (r : R) → 64 ≤ k → r ≡ closed s k → Holds stops round closed whole s k → r ≡ whole
unfolding iterate
where_spent stops round closed whole s k r over h inv =
    let e : 64 - k ≡ 0 = omega arith in
    h ∙ (rw e at inv)

-- what every round keeps, it and its outcome, whatever the stop test says
module _ {S R : Type 0} (stops : S → Bool) (round : S → S) (closed : S → ℕ → R) (P : S → ℕ → Type 0) (Q : R → Type 0)
    (stays : (s : S) (k : ℕ) → P s k → P (round s) (k + 1)) (ends : (s : S) (k : ℕ) → P s k → Q (closed s k)) where
  pub along : (n k : ℕ) (b : Bool) (s : S) → P s k → Q (iterate stops round closed n k b s)
  unfolding iterate
  along zero k b s p = ends s k p
  along (suc n) k true s p = ends s k p
  along (suc n) k false s p = along n (k + 1) (stops (round s)) (round s) (stays s k p)
