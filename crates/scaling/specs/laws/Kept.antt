-- Where ellippi's weight is formed as before, an answer is the one from before the change for far_out arguments, or refusal 6. Assumes nothing.
use Prim.Native.Nat.{ℕ, zero, suc, ◌+◌}
use Rattle.std.specs.Prelude.{◌≡◌, Bool, cond, not, ◌||◌, ◌&&◌, T, Float, Result, Err}
use Rattle.std.proofs.Math.Path.{refl, subst}
use Rattle.std.proofs.Common.{sym, ap, ◌∙◌, inl, inr, true≢false, arith}
use Rattle.std.proofs.Math.Bool.{true, false}
use Rattle.std.specs.Float.{binary64, nan, inf, fin}
use Rattle.std.specs.Float.Ieee.{fits, of_bits, lt, eq, ne, add, sub, sum, mul, div, neg, round}
use Rattle.std.specs.Float.Ieee.Scale.{finite}
use Rattle.laws.specs.Arithmetic.{◌⊕◌, ◌⊖◌, ◌⊗◌, ◌⊘◌, ◌<·◌, ◌=·◌, ◌≠·◌, +0, -∞, ½, 1·0, 2·0, 3·0}
use Rattle.laws.specs.Ladder.{passed}
use Rattle.carlson.specs.Loop.{iterate, duplicated}
use Rattle.carlson.specs.Series.{least, trusted_of}
use Rattle.carlson.specs.declared.Outcome.{Outcome}
use Rattle.rf.specs.Rf.{rf_of}
use Rattle.rj.specs.declared.State as RjState
use Rattle.rj.specs.Rj as Rj
use Rattle.answer.specs.Numbers.{number}
use Rattle.answer.specs.Answer.{refusal_of, value_of}
use Rattle.answer.specs.Settle.{finite_of, settled_of}
use Rattle.answer.specs.declared.Answer.{Answer}
use Rattle.answer.specs.declared.Refusal.{Refusal}
use Rattle.answer.specs.declared.Refusal.TheVariants.{NotFinite}
use Rattle.answer.specs.declared.Counted.{Counted}
use Rattle.answer.specs.declared.Term.{Term}
use Rattle.legendre.specs.Ellipk.{ellipk_of}
use Rattle.ellippi.specs.Ellippi as Ellippi
use Rattle.scaling.specs.Kept.{KeptValue, KeptAnswer, KeptOutcome, KeptTerm, KeptCounted, rj_closed, rj_before, from_rest_from, from_rest_before, principal_before, weighed_from, weight_before, both_below_before, first_below_before, arms_before, ellippi_before, Near, KeptOrRefused}
use Rattle.scaling.specs.laws.Folded.{neither}
use Rattle.scaling.specs.laws.Before.{as_before}
use Rattle.scaling.specs.laws.EllipeincBefore.{by_test}

-- ---- the recipe: the closing changes the value alone, and the loop does not see it

module _ {S R : Type 0} (stops : S → Bool) (round : S → S) (closed closed' : S → ℕ → R) (Q : R → R → Type 0) (ends : (s : S) (k : ℕ) → Q (closed s k) (closed' s k)) where
  through_rounds : (n k : ℕ) (b : Bool) (s : S) → Q (iterate stops round closed n k b s) (iterate stops round closed' n k b s)
  unfolding iterate
  through_rounds zero k b s = ends s k
  through_rounds (suc n) k true s = ends s k
  through_rounds (suc n) k false s = through_rounds n (k + 1) (stops (round s)) (round s)

  through_run : (s : S) → Q (duplicated stops round closed s) (duplicated stops round closed' s)
  unfolding duplicated
  through_run s = through_rounds 64 0 (stops s) s

trusted_kept : (v : Float) → KeptValue v (trusted_of v)
unfolding trusted_of
trusted_kept v = go (v <· least)
  where
    go : (t : Bool) → KeptValue v (cond t nan v)
    go true = inr refl
    go false = inl refl

rj_kept : (x y z p : Float) → KeptOutcome (rj_before x y z p) (Rj.rj_of x y z p)
unfolding rj_before rj_closed Rj.rj_of Rj.closed_of
rj_kept x y z p = through_run Rj.stops_of Rj.round_of rj_closed Rj.closed_of KeptOutcome ends (Rj.start_of x y z p)
  where
    ends : (s : RjState.State) (k : ℕ) → KeptOutcome (rj_closed s k) (Rj.closed_of s k)
    ends s k = record { value = trusted_kept _; met = refl; rounds = refl; inside = refl }

-- ---- NaN goes through every operation, and a refusal comes of it

add-nan : (x : Float) → x ⊕ nan ≡ nan
unfolding add
add-nan nan = refl
add-nan (inf s) = refl
add-nan (fin s m e) = refl

mul-nan : (x : Float) → x ⊗ nan ≡ nan
unfolding mul
mul-nan nan = refl
mul-nan (inf s) = refl
mul-nan (fin s m e) = refl

through : (f : Float → Float) → f nan ≡ nan → {a b : Float} → KeptValue a b → KeptValue (f a) (f b)
through f e (inl h) = inl (ap f h)
through f e (inr h) = inr (ap f h ∙ e)

same-term : (t : Term) → KeptTerm t t
same-term t = record { value = inl refl; met = refl; rounds = refl }

same-counted : (a : Counted) → KeptCounted a a
same-counted a = record { answer = inl refl; rounds = refl }

-- ---- ellippi

from_rest_nan : (a n : Float) → a ⊕ n ⊗ nan ⊘ 3·0 ≡ nan
unfolding div
from_rest_nan a n = ap (λ v. a ⊕ v ⊘ 3·0) (mul-nan n) ∙ add-nan a

from_rest : (n : Float) (f : Outcome) {j j' : Outcome} → KeptOutcome j j' → KeptTerm (from_rest_from n f j) (from_rest_from n f j')
from_rest n f k = record {
  value = through (λ v. f.value ⊕ n ⊗ v ⊘ 3·0) (from_rest_nan f.value n) k.value;
  met = ap (λ t. f.met && t) k.met;
  rounds = λ i. f.rounds + k.rounds i + k.inside i;
}

principal_kept : (n m : Float) → KeptTerm (principal_before n m) (Ellippi.principal_of n m)
unfolding principal_before Ellippi.principal_of
principal_kept n m =
    let k = rj_kept +0 (1·0 ⊖ m) 1·0 (1·0 ⊖ m ⊘ n) in
    let w = neg (1·0 ⊘ 3·0) ⊗ m ⊘ n in
    record { value = through (λ v. w ⊗ v) (mul-nan w) k.value; met = k.met; rounds = λ i. k.rounds i + k.inside i }

weighed : (n m w : Float) {j j' : Outcome} → KeptOutcome j j' → KeptTerm (weighed_from n m w j) (weighed_from n m w j')
weighed n m w k =
    let a = value_of (ellipk_of m) ⊘ (1·0 ⊖ n) in
    record { value = through (λ v. a ⊕ w ⊗ v) (ap (λ v. a ⊕ v) (mul-nan w) ∙ add-nan a) k.value; met = k.met; rounds = λ i. k.rounds i + k.inside i }

both-below-kept : (n m : Float) → Ellippi.far <· 1·0 ⊖ n ≡ false → KeptTerm (both_below_before n m) (Ellippi.both_below_of n m)
unfolding both_below_before Ellippi.both_below_of Ellippi.weight_of
both-below-kept n m e =
    let rn = 1·0 ⊖ n in
    let rm = 1·0 ⊖ m in
    let w = weight_before n rn rm in
    let k = rj_kept +0 rm 1·0 (rm ⊘ rn) in
    by_test KeptTerm (m =· n) (same-term _) (λ _.
    subst (λ v. KeptTerm (weighed_from n m w (rj_before +0 rm 1·0 (rm ⊘ rn))) (weighed_from n m v (Rj.rj_of +0 rm 1·0 (rm ⊘ rn)))) (passed (neg n ⊘ rn ⊗ (rm ⊘ 3·0 ⊘ rn)) w e refl) (weighed n m w k))

module _ (m : Float) (f64 : T (fits binary64 m)) (bounded : T (finite m)) where
  from_rest_kept : (n rest : Float) → KeptTerm (from_rest_before n m rest) (Ellippi.from_rest_of n m rest)
  unfolding from_rest_before Ellippi.from_rest_of
  from_rest_kept n rest = subst (λ f. KeptTerm (from_rest_from n f (rj_before +0 (1·0 ⊖ m) 1·0 rest)) (Ellippi.from_rest_of n m rest)) (sym (as_before.ellippi m f64 bounded)) (from_rest n (rf_of +0 (1·0 ⊖ m) 1·0) (rj_kept +0 (1·0 ⊖ m) 1·0 rest))

  first-below-kept : (n : Float) → KeptTerm (first_below_before n m) (Ellippi.first_below_of n m)
  unfolding first_below_before Ellippi.first_below_of add mul div
  first-below-kept n =
      let k = from_rest_kept ((m ⊖ n) ⊘ (1·0 ⊖ n)) ((1·0 ⊖ m) ⊘ (1·0 ⊖ n)) in
      record { value = through (λ v. v ⊗ neg n ⊘ (1·0 ⊖ n) ⊗ (1·0 ⊖ m) ⊘ (m ⊖ n) ⊕ value_of (ellipk_of m) ⊗ m ⊘ (m ⊖ n)) refl k.value; met = k.met; rounds = k.rounds }

  arms_kept : (n : Float) → Near n m → KeptTerm (arms_before n m) (Ellippi.arms_of n m)
  unfolding arms_before Ellippi.arms_of
  arms_kept n e =
      by_test KeptTerm (1·0 <· n) (principal_kept n m) (λ _.
      both (n <· +0) (m <· +0) (both-below-kept n m) e (by_test KeptTerm (n <· +0) (first-below-kept n) (λ _.
      by_test KeptTerm (n =· +0) (same-term _) (λ _.
      by_test KeptTerm (m =· n) (same-term _) (λ _. from_rest_kept n (1·0 ⊖ n))))))
    where
      both : {a b c d : Term} {g : Bool} (s t : Bool) → (g ≡ false → KeptTerm a c) → (t && g) ≡ false → KeptTerm b d → KeptTerm (cond (s && t) a b) (cond (s && t) c d)
      both true true p h q = p h
      both true false p h q = q
      both false t p h q = q

-- 5 comes as before, and NaN is 6
settled_kept : {met met' : Bool} {v w : Float} → met' ≡ met → KeptValue v w → KeptAnswer (settled_of met v) (settled_of met' w)
unfolding settled_of finite_of
settled_kept {met} {met'} {v} {w} e (inl h) = inl (λ i. settled_of (e i) (h i))
settled_kept {met} {met'} {v} {w} e (inr h) = subst (λ b. KeptAnswer (settled_of met v) (settled_of b w)) (sym e) (by_test KeptAnswer (not met) (inl refl) (λ _. inr (ap finite_of h)))

-- past the tests m is finite
numbers : (n m : Float) → (n ≠· n || m ≠· m) ≡ false → 1·0 <· m ≡ false → (n =· -∞ || m =· -∞) ≡ false → T (finite m)
unfolding lt eq ne of_bits
numbers n m a b c = kinds m (neither (n ≠· n) (m ≠· m) a).1 b (neither (n =· -∞) (m =· -∞) c).1
  where
    kinds : (m : Float) → m ≠· m ≡ false → 1·0 <· m ≡ false → m =· -∞ ≡ false → T (finite m)
    kinds nan a b c = absurd (true≢false a)
    kinds (inf true) a b c = absurd (true≢false c)
    kinds (inf false) a b c = absurd (true≢false b)
    kinds (fin s q e) a b c = tt

ellippi_kept : (n m : Float) → T (fits binary64 m) → Near n m → KeptCounted (ellippi_before n m) (Ellippi.counted_of n m)
unfolding ellippi_before Ellippi.counted_of
ellippi_kept n m f64 e =
    by_test KeptCounted (n ≠· n || m ≠· m) (same-counted _) (λ a.
    by_test KeptCounted (1·0 <· m) (same-counted _) (λ b.
    by_test KeptCounted (n =· 1·0) (same-counted _) (λ _.
    by_test KeptCounted (m =· 1·0) (same-counted _) (λ _.
    by_test KeptCounted (n =· -∞ || m =· -∞) (same-counted _) (λ c.
    let k = arms_kept m f64 (numbers n m a b c) n e in
    record { answer = settled_kept k.met k.value; rounds = k.rounds })))))

-- an answer that is no refusal is no 6
answered : {before now : Result Answer Refusal} → KeptAnswer before now → refusal_of now ≡ 0 → now ≡ before
unfolding refusal_of
answered (inl h) z = h
answered (inr h) z = let e : number NotFinite ≡ 0 = sym (ap refusal_of h) ∙ z in absurd (let z : ⊥ = omega arith in z)

pub kept-or_refused : KeptOrRefused
unfolding Ellippi.ellippi_of
kept-or_refused = record {
  rj = rj_kept;
  arms = λ n m f64 bounded near. arms_kept m f64 bounded n near;
  ellippi = ellippi_kept;
  ellippi_answered = λ n m f64 near. answered (ellippi_kept n m f64 near).answer;
}

-- ---- the test comes out so somewhere: at n = -2 and m = -1/2
pub near_point : Near (neg 2·0) (neg ½)
unfolding of_bits lt add sub sum neg round
near_point = refl
