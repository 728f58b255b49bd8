-- RJ's number of rounds is the written stop test's, the RC calls inside left out; those make at most 64 rounds in each. Assumes nothing.
use Rattle.std.specs.Prelude.{◌≡◌, refl, ℕ, ◌≤◌, ◌+◌, ◌*◌, Float}
use Rattle.std.proofs.Common.{sym, subst, arith}
use Rattle.carlson.specs.Loop.{duplicated}
use Rattle.carlson.specs.declared.Outcome.{Outcome}
use Rattle.carlson.specs.laws.Counts.{Counts, counts}
use Rattle.carlson.specs.laws.Duplication.{along}
use Rattle.rc.specs.laws.Counts.{rc_counts}
use Rattle.rj.specs.declared.State.{State}
use Rattle.rj.specs.Rj.{start_of, stops_of, next_of, round_of, closed_of, rj_of}

pub rj_counts : (x y z p : Float) → Counts stops_of round_of (start_of x y z p) (rj_of x y z p).rounds
unfolding rj_of closed_of
rj_counts x y z p = counts stops_of round_of closed_of (λ s k. refl) (start_of x y z p)

-- a round more
pub grows : (s : State) (k : ℕ) → s.inside ≤ 64 * k → (round_of s).inside ≤ 64 * (k + 1)
unfolding next_of round_of
grows s k h = adds _ _ k h (rc_counts _ _).most
  where
    adds : (a b k : ℕ) → a ≤ 64 * k → b ≤ 64 → a + b ≤ 64 * (k + 1)
    adds a b k h f = omega arith

-- of any closing step that counts the rounds inside as many as they are, and its own rounds
module _ (closed : State → ℕ → Outcome) (ends : (s : State) (k : ℕ) → s.inside ≤ 64 * k → (closed s k).inside ≤ 64 * (closed s k).rounds) (x y z p : Float) where
  inside_of : (duplicated stops_of round_of closed (start_of x y z p)).inside ≤ 64 * (duplicated stops_of round_of closed (start_of x y z p)).rounds
  unfolding duplicated start_of
  inside_of = along stops_of round_of closed (λ s k. s.inside ≤ 64 * k) (λ o. o.inside ≤ 64 * o.rounds) grows ends 64 0 (stops_of (start_of x y z p)) (start_of x y z p) (omega arith)

  few_of : ((s : State) (k : ℕ) → (closed s k).rounds ≡ k) → (duplicated stops_of round_of closed (start_of x y z p)).inside ≤ 4096
  few_of own = all _ _ inside_of (counts stops_of round_of closed own (start_of x y z p)).most
    where
      all : (a k : ℕ) → a ≤ 64 * k → k ≤ 64 → a ≤ 4096
      all a k h l = omega arith

pub rj_inside : (x y z p : Float) → (rj_of x y z p).inside ≤ 64 * (rj_of x y z p).rounds
unfolding rj_of closed_of
rj_inside x y z p = inside_of closed_of (λ s k h. h) x y z p

pub few_inside : (x y z p : Float) (o : Outcome) → o ≡ rj_of x y z p → o.inside ≤ 4096
unfolding rj_of closed_of
few_inside x y z p o e = subst (λ (o : Outcome). o.inside ≤ 4096) (sym e) (few_of closed_of (λ s k h. h) x y z p (λ s k. refl))
