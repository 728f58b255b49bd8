-- Two recipes of the same x, y and z that make their rounds together, argued once: RF with RD, and RF with RJ. Assumes nothing.
use Rattle.std.specs.Prelude.{◌≡◌, refl, Bool, true, false, ◌||◌, ℕ, ◌<◌, ◌+◌}
use Rattle.std.proofs.Common.{sym, ap, ◌∙◌, true≢false}
use Rattle.carlson.specs.Loop.{duplicated}
use Rattle.rf.specs.Arguments.{Arguments, roots_at, moved}
use Rattle.rf.specs.declared.Roots.{Roots}
use Rattle.carlson.specs.declared.Outcome.{Outcome}
use Rattle.carlson.specs.laws.Duplication.{Holds, at_next}

-- a recipe over states S, of which `at` reads x, y and z
pub record Recipe (S : Type 0) : Type 0 where
  pub stops : S → Bool
  pub round : S → S
  pub closed : S → ℕ → Outcome
  pub at : S → Arguments

abbrev pub Moves : {S : Type 0} → Recipe S → Type 0
Moves {S} p = (s : S) → p.at (p.round s) ≡ moved (p.at s)

-- a round by the roots of another recipe's arguments, which are the same
pub alongside : {S : Type 0} (p : Recipe S) (next : S → Roots → S) → ((s : S) → next s (roots_at (p.at s)) ≡ p.round s) → (s s' : S) (a : Arguments) (w : Roots) → p.at s ≡ a → w ≡ roots_at a → s' ≡ next s w → s' ≡ p.round s
alongside p next by s s' a w same e h = h ∙ ap (next s) (e ∙ ap roots_at (sym same)) ∙ by s

-- both have made k rounds, each run gives its own outcome, and both stand at the same arguments
pub record Together {S T : Type 0} (p : Recipe S) (q : Recipe T) (first second : Outcome) (s : S) (t : T) (k : ℕ) : Type 0 where
  pub first_run : Holds p.stops p.round p.closed first s k
  pub second_run : Holds q.stops q.round q.closed second t k
  pub same : p.at s ≡ q.at t

-- at the start
pub begun : {S T : Type 0} (p : Recipe S) (q : Recipe T) (from s : S) (from' t : T) → s ≡ from → t ≡ from' → p.at from ≡ q.at from' → Together p q (duplicated p.stops p.round p.closed from) (duplicated q.stops q.round q.closed from') s t 0
unfolding duplicated
begun p q from s from' t e g h = record { first_run = rw e; second_run = rw g; same = ap p.at e ∙ h ∙ sym (ap q.at g) }

neither : (b d : Bool) → (b || d) ≡ false → (b ≡ false) × (d ≡ false)
neither false d e = (refl, e)
neither true d e = absurd (true≢false e)

-- where neither stops, each makes one more round
pub onward : {S T : Type 0} (p : Recipe S) (q : Recipe T) → Moves p → Moves q → (first second : Outcome) (s s' : S) (t t' : T) (k : ℕ) (b d : Bool) → k < 64 → b ≡ p.stops s → d ≡ q.stops t → (b || d) ≡ false → s' ≡ p.round s → t' ≡ q.round t
    → Together p q first second s t k → Together p q first second s' t' (k + 1)
onward p q m n first second s s' t t' k b d below e g none h l c =
    let on = neither b d none in
    record {
      first_run = at_next p.stops p.round p.closed first s s' k b below e on.0 h c.first_run;
      second_run = at_next q.stops q.round q.closed second t t' k d below g on.1 l c.second_run;
      same = ap p.at h ∙ m s ∙ ap moved c.same ∙ sym (n t) ∙ sym (ap q.at l);
    }
