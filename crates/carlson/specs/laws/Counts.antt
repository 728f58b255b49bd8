-- How many rounds a recipe makes: as many as the written stop test asks for, and never more than 64. Assumes nothing.
use Rattle.std.specs.Prelude.{◌≡◌, Bool, ◌⊎◌}
use Rattle.std.proofs.Math.Path.{refl, subst}
use Rattle.std.proofs.Common.{sym, ◌∙◌, true≢false, inl, inr}
use Rattle.std.proofs.Math.Bool.{true, false}
use Prim.Native.Nat.{ℕ, zero, suc, ◌≤◌, ◌<◌, ◌+◌}
use native.Mathlib.Omega.{arith}
use Rattle.laws.specs.laws.Flags.{lt-or-le}
use Rattle.carlson.specs.Loop.{iterate, duplicated}
use Rattle.carlson.specs.declared.Outcome.{Outcome}

-- the state after k rounds
unfoldable pub after : {S : Type 0} → (S → S) → ℕ → S → S
after round zero s = s
after round (suc k) s = after round k (round s)

-- n is the first k for which the stop test holds after k rounds, and 64 where it holds for none from 0 to 63
pub record Counts {S : Type 0} (stops : S → Bool) (round : S → S) (s : S) (n : ℕ) : Type 0 where
  pub most : n ≤ 64
  pub before : (k : ℕ) → k < n → stops (after round k s) ≡ false
  pub first : n < 64 → stops (after round n s) ≡ true
  pub none : ((k : ℕ) → k < 64 → stops (after round k s) ≡ false) → n ≡ 64

pub few : {S : Type 0} {stops : S → Bool} {round : S → S} {s : S} {o u : Outcome} → o ≡ u → Counts stops round s u.rounds → o.rounds ≤ 64
few e c = subst (λ (o : Outcome). o.rounds ≤ 64) (sym e) c.most

-- j rounds are made, of at most n
record Made {S : Type 0} (stops : S → Bool) (round : S → S) (n : ℕ) (s : S) (j : ℕ) : Type 0 where
  few : j ≤ n
  going : (i : ℕ) → i < j → stops (after round i s) ≡ false
  stopped : j < n → stops (after round j s) ≡ true

module _ {S : Type 0} (stops : S → Bool) (round : S → S) where
  at_once : (n : ℕ) (s : S) → (0 < n → stops s ≡ true) → Made stops round n s 0
  unfolding after
  at_once n s h = record { few = omega arith; going = λ i l. absurd (let z : ⊥ = omega arith in z); stopped = h }

  going_on : (s : S) (j : ℕ) → stops s ≡ false → ((i : ℕ) → i < j → stops (after round i (round s)) ≡ false) → (i : ℕ) → i < suc j → stops (after round i s) ≡ false
  unfolding after
  going_on s j e g zero h = e
  going_on s j e g (suc i) h = g i (omega arith)

  one_more_lem : (n : ℕ) (s : S) (j : ℕ) → stops s ≡ false → Made stops round n (round s) j → Made stops round (suc n) s (suc j)
  unfolding after
  one_more_lem n s j e m = let l = m.few in record { few = omega arith; going = going_on s j e m.going; stopped = λ h. m.stopped (omega arith) }

  made_counts : (s : S) (j : ℕ) → Made stops round 64 s j → Counts stops round s j
  made_counts s j m = record { most = m.few; before = m.going; first = m.stopped; none = λ h. go (lt-or-le j 64) h }
    where
      go : (j < 64) ⊎ (64 ≤ j) → ((k : ℕ) → k < 64 → stops (after round k s) ≡ false) → j ≡ 64
      go (inl l) h = absurd (true≢false (sym (m.stopped l) ∙ h j l))
      go (inr l) h = let f = m.few in omega arith

-- the recipe's own number, whatever its outcome has besides
module _ {S : Type 0} (stops : S → Bool) (round : S → S) (closed : S → ℕ → Outcome) (own : (s : S) (k : ℕ) → (closed s k).rounds ≡ k) where
  record Run (n k : ℕ) (s : S) (m : ℕ) : Type 0 where
    j : ℕ
    sum : m ≡ k + j
    made : Made stops round n s j

  run : (n k : ℕ) (b : Bool) (s : S) → stops s ≡ b → Run n k s (iterate stops round closed n k b s).rounds
  unfolding iterate
  run zero k b s e = record { j = 0; sum = let o = own s k in omega arith; made = at_once stops round 0 s (λ h. absurd (let z : ⊥ = omega arith in z)) }
  run (suc n) k true s e = record { j = 0; sum = let o = own s k in omega arith; made = at_once stops round (suc n) s (λ h. e) }
  run (suc n) k false s e =
      let r = run n (k + 1) (stops (round s)) (round s) refl in
      let q = r.sum in
      record { j = suc r.j; sum = omega arith; made = one_more_lem stops round n s r.j e r.made }

  pub counts : (s : S) → Counts stops round s (duplicated stops round closed s).rounds
  unfolding duplicated
  counts s =
      let r = run 64 0 (stops s) s refl in
      let z : 0 + r.j ≡ r.j = omega arith in
      subst (λ (n : ℕ). Counts stops round s n) (sym (r.sum ∙ z)) (made_counts stops round s r.j r.made)
