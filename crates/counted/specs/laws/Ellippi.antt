-- How many rounds ellippi's recipes make in all (02, [3]): at most 64 of RF, 64 of RJ and 64 of RC in each of RJ's; none where no recipe is asked. Assumes nothing.
use Rattle.std.specs.Prelude.{◌≡◌, refl, Bool, true, false, not, cond, ◌&&◌, ◌||◌, ℕ, ◌≤◌, ◌<◌, ◌+◌, ◌*◌, eqb, Float}
use Rattle.std.proofs.Common.{sym, ◌∙◌, true≢false, arith, le-ltb, eqb-true}
use Rattle.std.specs.Float.{nan, inf, fin}
use Rattle.std.specs.Float.Ieee.{up, down, below, lt, eq, ne, of_bits}
use Rattle.laws.specs.Arithmetic.{◌⊖◌, ◌⊘◌, ◌<·◌, ◌=·◌, ◌≠·◌, +0, -∞, 1·0}
use Rattle.laws.specs.laws.Flags.{both_true}
use Rattle.answer.specs.declared.Counted.{Counted}
use Rattle.answer.specs.declared.Term.{Term}
use Rattle.answer.specs.laws.Fair.{rung}
use Rattle.counted.specs.laws.Asked.{asked, none, failed}
use Rattle.rf.specs.laws.Counts.{rf_counts}
use Rattle.rj.specs.laws.Counts.{rj_counts, few_inside}
use Rattle.ellippi.specs.Ellippi.{plain_term, from_rest_of, principal_of, both_below_of, first_below_of, first_zero_of, diagonal_of, arms_of, counted_of}

-- ---- the most
Few : Term → Type 0
Few t = t.rounds ≤ 4224

rest_few : (n m rest : Float) → Few (from_rest_of n m rest)
unfolding Few from_rest_of
rest_few n m rest = sums _ _ _ (rf_counts +0 (1·0 ⊖ m) 1·0).most (rj_counts +0 (1·0 ⊖ m) 1·0 rest).most (few_inside +0 (1·0 ⊖ m) 1·0 rest _ refl)
  where
    sums : (f j i : ℕ) → f ≤ 64 → j ≤ 64 → i ≤ 4096 → f + j + i ≤ 4224
    sums f j i a b c = omega arith

alone_few : (j i : ℕ) → j ≤ 64 → i ≤ 4096 → j + i ≤ 4224
alone_few j i a b = omega arith

arms_few : (n m : Float) → Few (arms_of n m)
unfolding Few arms_of principal_of both_below_of first_below_of first_zero_of diagonal_of
arms_few n m =
    let rn = 1·0 ⊖ n in
    let rm = 1·0 ⊖ m in
    rung Few (1·0 <· n) _ _ (alone_few _ _ (rj_counts +0 rm 1·0 (1·0 ⊖ m ⊘ n)).most (few_inside +0 rm 1·0 (1·0 ⊖ m ⊘ n) _ refl))
    (rung Few (n <· +0 && m <· +0) _ _ (rung Few (m =· n) _ _ (omega arith) (alone_few _ _ (rj_counts +0 rm 1·0 (rm ⊘ rn)).most (few_inside +0 rm 1·0 (rm ⊘ rn) _ refl)))
    (rung Few (n <· +0) _ _ (rest_few ((m ⊖ n) ⊘ rn) m (rm ⊘ rn))
    (rung Few (n =· +0) _ _ (rung Few (m =· +0) _ _ (omega arith) (omega arith))
    (rung Few (m =· n) _ _ (omega arith) (rest_few n m rn)))))

pub ellippi_few : (n m : Float) → (counted_of n m).rounds ≤ 4224
unfolding counted_of Few
ellippi_few n m =
    rung FewOf (n ≠· n || m ≠· m) _ _ no
    (rung FewOf (1·0 <· m) _ _ no
    (rung FewOf (n =· 1·0) _ _ no
    (rung FewOf (m =· 1·0) _ _ no
    (rung FewOf (n =· -∞ || m =· -∞) _ _ no (arms_few n m)))))
  where
    FewOf : Counted → Type 0
    FewOf c = c.rounds ≤ 4224

    no : 0 ≤ 4224
    no = omega arith

-- ---- none, unless every test that asks no recipe has failed
pub record Asked (n m : Float) : Type 0 where
  pub numbers : (n ≠· n || m ≠· m) ≡ false
  pub domain : (1·0 <· m) ≡ false
  pub pole : (n =· 1·0) ≡ false
  pub infinite : (m =· 1·0) ≡ false
  pub limits : (n =· -∞ || m =· -∞) ≡ false
  pub arms : 0 < (arms_of n m).rounds

pub ellippi_asked : (n m : Float) → 0 < (counted_of n m).rounds → Asked n m
unfolding counted_of
ellippi_asked n m h =
    let a = asked (n ≠· n || m ≠· m) _ _ h in
    let b = asked (1·0 <· m) _ _ a.1 in
    let c = asked (n =· 1·0) _ _ b.1 in
    let d = asked (m =· 1·0) _ _ c.1 in
    let e = asked (n =· -∞ || m =· -∞) _ _ d.1 in
    record { numbers = a.0; domain = b.0; pole = c.0; infinite = d.0; limits = e.0; arms = e.1 }

-- n = 0: K
zero-none : (m : Float) → (first_zero_of m).rounds ≡ 0
unfolding first_zero_of
zero-none m = rung (λ (t : Term). t.rounds ≡ 0) (m =· +0) _ _ refl refl

zero-low : (n : Float) → (n =· +0) ≡ true → ((1·0 <· n) ≡ false) × ((n <· +0) ≡ false)
unfolding lt eq of_bits
zero-low nan e = absurd (true≢false (sym e))
zero-low (inf s) e = absurd (true≢false (sym e))
zero-low (fin s m e) h = go s (m * up e * 1) (0 * 1 * down e) (1 * 1 * down e) (nought (down e)) (both_true _ _ h).0
  where
    nought : (d : ℕ) → 0 * 1 * d ≡ 0
    nought d = omega arith

    go : (s : Bool) (a z d : ℕ) → z ≡ 0 → eqb a z ≡ true → (below false d s a ≡ false) × (below s a false z ≡ false)
    go true a z d e h = let q = eqb-true a z h in (refl, le-ltb 0 (a + z) (omega arith))
    go false a z d e h = let q = eqb-true a z h in (le-ltb d a (omega arith), le-ltb a z (omega arith))

pub at_zero : (n m : Float) → (n =· +0) ≡ true → (counted_of n m).rounds ≡ 0
unfolding arms_of
at_zero n m e = none _ (λ h. true≢false (sym e ∙ failed (n =· +0) (ellippi_asked n m h).arms (λ z. let l = zero-low n e in rw (l.0, l.1, e) (zero-none m))))

-- n = m: E
pub diagonal : (n : Float) → (counted_of n n).rounds ≡ 0
unfolding arms_of both_below_of diagonal_of ne
diagonal n = none _ (λ h. let p = ellippi_asked n n h in true≢false (failed true p.arms (λ z. rw p.domain (go (n =· n) (n <· +0) (n =· +0) _ _ _ _ (first_zero_of n) _ (zero-none n) p.numbers))))
  where
    go : (same low none : Bool) (p r : Float) (q b z s : Term) → z.rounds ≡ 0 → (not same || not same) ≡ false
        → (cond (low && low) (cond same (plain_term p) q) (cond low b (cond none z (cond same (plain_term r) s)))).rounds ≡ 0
    go false low none p r q b z s h a = absurd (true≢false a)
    go true true none p r q b z s h a = refl
    go true false true p r q b z s h a = h
    go true false false p r q b z s h a = refl
