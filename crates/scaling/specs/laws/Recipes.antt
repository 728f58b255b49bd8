-- What the recipes share where all arguments are multiplied by a power of four. Assumes nothing.
use Rattle.std.specs.Prelude.{◌≡◌, Bool, not, cond, T, Float}
use Rattle.std.proofs.Common.{sym}
use Rattle.std.proofs.Math.Path.{subst}
use Rattle.std.proofs.Math.Bool.{true, false}
use Prim.Native.Nat.{ℕ, zero, suc, ◌+◌, ◌^◌}
use Rattle.std.specs.Float.{binary64}
use Rattle.std.specs.Float.Ieee.{of_bits, fits}
use Rattle.std.specs.Float.Ieee.Exact.{HasValue}
use Rattle.laws.specs.Arithmetic.{◌⊕◌, ◌⊖◌, ◌⊘◌, ◌<·◌, 4·0}
use Rattle.scaling.specs.Clear.{is_zero, ClearDifference}
use Rattle.scaling.specs.laws.Operations.{Times, times-mul, times-add, times-sub, times-lt, times_over, quotient_same, divided}
use Rattle.scaling.specs.laws.Root.{times_root}
use Rattle.whole.specs.Whole.{magnitude_of}
use Rattle.whole.specs.laws.Magnitude.{magnitude_value}
use Rattle.carlson.specs.Loop.{iterate, duplicated}
use Rattle.carlson.specs.Series.{larger_of}
use Rattle.rf.specs.Rf.{spread_of}
use Rattle.carlson.specs.declared.Outcome.{Outcome}
use Rattle.scaling.specs.ClearRuns.{ClearSpread, ClearQuarter, ClearDistances, ClearRun}

pub times_magnitude : {i j : ℕ} {x x' : Float} → Times i j x x' → Times i j (magnitude_of x) (magnitude_of x')
times_magnitude {i} {j} {x} {x'} t = record {
  sign = false;
  before = t.before;
  after = t.after;
  first = magnitude_value x t.sign t.before (2 ^ 1074) t.first;
  second = magnitude_value x' t.sign t.after (2 ^ 1074) t.second;
  ratio = t.ratio;
}

pub times_larger : {i j : ℕ} {x x' y y' : Float} → Times i j x x' → Times i j y y' → Times i j (larger_of x y) (larger_of x' y')
unfolding larger_of
times_larger {i} {j} {x} {x'} {y} {y'} t u = go (x <· y) (x' <· y') (times-lt t u)
  where
    one : (b : Bool) → Times i j (cond b y x) (cond b y' x')
    one true = u
    one false = t

    go : (b c : Bool) → b ≡ c → Times i j (cond b y x) (cond c y' x')
    go b c e = subst (λ (c : Bool). Times i j (cond b y x) (cond c y' x')) e (one b)

-- the largest distance between the mean and an argument
pub times_distance : {i j : ℕ} {m m' x x' y y' z z' : Float} → Times i j m m' → Times i j x x' → Times i j y y' → Times i j z z' → ClearDistances m x y z → ClearDistances m' x' y' z'
    → Times i j (larger_of (larger_of (magnitude_of (m ⊖ x)) (magnitude_of (m ⊖ y))) (magnitude_of (m ⊖ z))) (larger_of (larger_of (magnitude_of (m' ⊖ x')) (magnitude_of (m' ⊖ y'))) (magnitude_of (m' ⊖ z')))
times_distance m x y z c d =
    times_larger (times_larger (times_magnitude (times-sub m x c.dx d.dx)) (times_magnitude (times-sub m y c.dy d.dy))) (times_magnitude (times-sub m z c.dz d.dz))

-- L
pub times_spread : (i j : ℕ) {x x' y y' z z' : Float} → Times (i + i) (j + j) x x' → Times (i + i) (j + j) y y' → Times (i + i) (j + j) z z' → ClearSpread x y z → ClearSpread x' y' z'
    → Times (i + i) (j + j) (spread_of x y z) (spread_of x' y' z')
times_spread i j x y z c d =
    let rx = times_root {i = i} {j = j} x c.root_x d.root_x in
    let ry = times_root {i = i} {j = j} y c.root_y d.root_y in
    let rz = times_root {i = i} {j = j} z c.root_z d.root_z in
    times-add (times-add (times-mul rx ry c.xy d.xy) (times-mul ry rz c.yz d.yz) c.two d.two) (times-mul rz rx c.zx d.zx) c.three d.three

-- (a + L) / 4
pub times-quarter : {i j : ℕ} {a a' l l' : Float} → Times i j a a' → Times i j l l' → ClearQuarter a l → ClearQuarter a' l' → Times i j ((a ⊕ l) ⊘ 4·0) ((a' ⊕ l') ⊘ 4·0)
unfolding of_bits fits
times-quarter a l c d = times_over 4·0 tt tt (times-add a l c.sum d.sum) c.quotient d.quotient

-- (mean - x) / mean
pub offset_same : {i j : ℕ} {m m' x x' : Float} → Times i j m m' → Times i j x x' → ClearDifference m x → ClearDifference m' x' → T (not (is_zero m)) → T (not (is_zero m')) → (m ⊖ x) ⊘ m ≡ (m' ⊖ x') ⊘ m'
offset_same m x c d k k' = quotient_same (times-sub m x c d) m k k'

-- ---- outcomes: the value is over 2^i, and the rest is the same
pub record Over (i : ℕ) (r r' : Outcome) : Type 0 where
  pub value : Times 0 i r.value r'.value
  pub fit : T (fits binary64 r'.value)
  pub met : r'.met ≡ r.met
  pub rounds : r'.rounds ≡ r.rounds
  pub inside : r'.inside ≡ r.inside

-- the same for a reader: over the float q
pub record Divided (q : Float) (r r' : Outcome) : Type 0 where
  pub value : r'.value ≡ r.value ⊘ q
  pub met : r'.met ≡ r.met
  pub rounds : r'.rounds ≡ r.rounds
  pub inside : r'.inside ≡ r.inside

pub over_divided : (i : ℕ) (q : Float) (r r' : Outcome) → HasValue q false (2 ^ i) 1 → Over i r r' → Divided q r r'
over_divided i q r r' v o = record { value = divided i q v o.fit o.value; met = o.met; rounds = o.rounds; inside = o.inside }

-- ---- the loop: what is scaled stays so, and the stop test agrees
module _ {S R : Type 0} (stops : S → Bool) (round : S → S) (closed : S → ℕ → R) (step last : S → Type 0) (Alike : S → S → Type 0) (Result : R → R → Type 0)
    (next : (s t : S) → Alike s t → step s → step t → Alike (round s) (round t) × (stops (round s) ≡ stops (round t)))
    (ends : (s t : S) (k : ℕ) → Alike s t → last s → last t → Result (closed s k) (closed t k)) where
  scaled_from : (n k : ℕ) (b : Bool) (s t : S) → Alike s t → ClearRun stops round step last n b s → ClearRun stops round step last n b t
      → Result (iterate stops round closed n k b s) (iterate stops round closed n k b t)
  unfolding iterate ClearRun
  scaled_from zero k b s t a c d = ends s t k a c d
  scaled_from (suc n) k true s t a c d = ends s t k a c d
  scaled_from (suc n) k false s t a c d =
      let w = next s t a c.0 d.0 in
      subst (λ (b : Bool). Result (iterate stops round closed n (k + 1) (stops (round s)) (round s)) (iterate stops round closed n (k + 1) b (round t))) w.1
      (scaled_from n (k + 1) (stops (round s)) (round s) (round t) w.0 c.1 (subst (λ (b : Bool). ClearRun stops round step last n b (round t)) (sym w.1) d.1))

  pub scaled_run : (s t : S) → Alike s t → stops s ≡ stops t → ClearRun stops round step last 64 (stops s) s → ClearRun stops round step last 64 (stops t) t → Result (duplicated stops round closed s) (duplicated stops round closed t)
  unfolding duplicated
  scaled_run s t a e c d =
      subst (λ (b : Bool). Result (iterate stops round closed 64 0 (stops s) s) (iterate stops round closed 64 0 b t)) e
      (scaled_from 64 0 (stops s) s t a c (subst (λ (b : Bool). ClearRun stops round step last 64 b t) (sym e) d))
