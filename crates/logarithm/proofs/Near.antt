-- The logarithm, as its steps give it, lies near the exact sum. Assumes nothing.
use Rattle.std.specs.Prelude.{Result, Ok, Err}
use mathlib.Core.Path.{◌≡◌, refl, sym, ap, subst}
use mathlib.Core.Bool.{Bool, true, false, cond}
use Prim.Native.Nat.{ℕ, zero, suc, ◌+◌, ◌-◌, ◌*◌, ◌^◌, ◌≤◌, ◌<◌}
use native.Mathlib.Nat.{one-mul, mul-le-mul_left, le_refl, le_trans, le_of_eq}
use native.Mathlib.Omega.{arith}
use lib.Dec.{T, eqb, eqb→eq, lit≤}
use lib.Pow.{pow_pos}
use lib.Ieee.{Float, nan, inf, fin, binary64, fits}
use Rattle.answer.specs.declared.Answer.{Answer}
use Rattle.answer.specs.declared.Refusal.{Refusal}
use Rattle.answer.specs.declared.Answer.TheVariants.{One}
use Rattle.answer.specs.declared.Refusal.TheVariants.{OutOfRange}
use Rattle.answer.specs.Answer.{OneThat}
use Rattle.bounds.specs.Fractions.{◌over◌, ◌⊞◌, times}
use Rattle.logarithm.specs.Series.{S, units_of, places, logarithmic, LogarithmWithin}
use Rattle.bounds.specs.Close.{distance_of, Close}
use Rattle.logarithm.specs.Logarithm.{part_of, third, logarithm_at, logarithm_of}
use Rattle.logarithm.specs.laws.Places.{places_middle, places-le, units_pos, units_lt}
use Rattle.bounds.specs.laws.Held.{Held, wider, sum-held, times-held}
use Rattle.bounds.specs.laws.Rounds.{in_range, closes, plainly}
use Rattle.logarithm.proofs.Odds.{part_held, part_le, third-held}

-- k S(1/3) + S(a / b), for a / b ≤ 1/5
side-held : (k a b : ℕ) → 0 < b → 5 * a ≤ b → Held 1 (2 ^ 62) (k * third + part_of a b) (k * third + part_of a b + (k + 3)) (times k (S 1 3) ⊞ S a b)
side-held k a b B f =
    wider 1 (2 ^ 62) (k * third + part_of a b) (k * (third + 1) + (part_of a b + 3)) (k * third + part_of a b) (k * third + part_of a b + (k + 3)) (times k (S 1 3) ⊞ S a b)
    (le_refl (k * third + part_of a b)) (le_of_eq (sums third (part_of a b)))
    (sum-held 1 (2 ^ 62) (k * third) (k * (third + 1)) (part_of a b) (part_of a b + 3) (times k (S 1 3)) (S a b) (times-held 1 (2 ^ 62) k third (third + 1) (S 1 3) third-held) (part_held a b B f))
  where
    sums : (t s : ℕ) → k * (t + 1) + (s + 3) ≡ k * t + s + (k + 3)
    sums t s = omega arith

module _ (N : ℕ) (pos : 0 < N) (small : N < 2 ^ 2098) where
  i : ℕ
  i = places N - 1074

  j : ℕ
  j = 1074 - places N

  A : ℕ
  A = (places N - 1074) * third + part_of (N - 2 ^ places N) (N + 2 ^ places N)

  B : ℕ
  B = (1074 - places N) * third + part_of (2 ^ places N - N) (N + 2 ^ places N)

  over_fifth : 5 * (N - 2 ^ places N) ≤ N + 2 ^ places N
  over_fifth = go (2 ^ places N) (places_middle N pos).most
    where
      go : (W : ℕ) → 2 * N < 3 * W → 5 * (N - W) ≤ N + W
      go W h = omega arith

  under_fifth : 5 * (2 ^ places N - N) ≤ N + 2 ^ places N
  under_fifth = go (2 ^ places N) (places_middle N pos).least
    where
      go : (W : ℕ) → 3 * W ≤ 4 * N → 5 * (W - N) ≤ N + W
      go W h = omega arith

  sum_pos : 0 < N + 2 ^ places N
  sum_pos = go (2 ^ places N) pos
    where
      go : (W : ℕ) → 0 < N → 0 < N + W
      go W h = omega arith

  sizes : (i ≤ 1024) × (j ≤ 1074)
  unfolding i j
  sizes = let l = places-le N 2098 pos small in (omega arith, omega arith)

  -- the parts of 2^-53 that the rounding may miss
  miss : ℕ
  miss = 355 * (i + j) + 256

  gap_le : (distance_of A B ≤ 2 ^ 53 * miss) × (distance_of A B ≤ 2 ^ 11 * 2 ^ 62)
  unfolding A B miss i j
  gap_le =
      let a = part_le (N - 2 ^ places N) (N + 2 ^ places N) sum_pos over_fifth in
      let b = part_le (2 ^ places N - N) (N + 2 ^ places N) sum_pos under_fifth in
      let s = sizes in
      go i j (part_of (N - 2 ^ places N) (N + 2 ^ places N)) (part_of (2 ^ places N - N) (N + 2 ^ places N)) s.0 s.1 a b
    where
      go : (i j a b : ℕ) → i ≤ 1024 → j ≤ 1074 → a ≤ 2 ^ 61 → b ≤ 2 ^ 61 → (distance_of (i * third + a) (j * third + b) ≤ 2 ^ 53 * (355 * (i + j) + 256)) × (distance_of (i * third + a) (j * third + b) ≤ 2 ^ 11 * 2 ^ 62)
      go i j a b hi hj ha hb = (omega arith, omega arith)

  log_close : (c d : ℕ) → c * 2 ^ d ≡ 2 ^ 62 → 512 ≤ c → Close ((distance_of (places N) 1074 + 1) over 2 ^ d) (logarithmic N) false (logarithm_at N)
  unfolding logarithmic logarithm_at A B miss i j
  log_close c d e l =
      let a = side-held i (N - 2 ^ places N) (N + 2 ^ places N) sum_pos over_fifth in
      let b = side-held j (2 ^ places N - N) (N + 2 ^ places N) sum_pos under_fifth in
      let m : 1 * distance_of A B ≤ 2 ^ 11 * 2 ^ 62 = le_trans (le_of_eq (one-mul (distance_of A B))) gap_le.1 in
      subst (Close ((i + j + 1) over 2 ^ d) (logarithmic N) false) (plainly (2 ^ 62) A B)
      (closes false 1 1 (2 ^ 62) A B (i + 3) (j + 3) miss (pow_pos 62) (logarithmic N) a b gap_le.0 m (in_range false 1 1 (2 ^ 62) A B (i + 3) (j + 3) miss (pow_pos 62) (logarithmic N) a b gap_le.0 m 1 (lit≤ tt) (lit≤ tt))
      ((i + j + 1) * c) ((i + j + 1) over 2 ^ d) (unit (2 ^ d) (2 ^ 62) (i + j + 1) e) (enough i j i (part_one i j)) (enough i j j (part_two i j)))
    where
      unit : (D P n : ℕ) → c * D ≡ P → Held 1 P (n * c) (n * c) (n over D)
      unit D P n h = let x : n * (c * D) ≡ n * P = ap (λ (z : ℕ). n * z) h in record { low = (omega arith); high = (omega arith) }

      enough : (i j k : ℕ) → k ≤ i + j → k + 3 + (355 * (i + j) + 256) ≤ (i + j + 1) * c
      enough i j k h = let x : (i + j + 1) * 512 ≤ (i + j + 1) * c = mul-le-mul_left (i + j + 1) l in omega arith

      part_one : (i j : ℕ) → i ≤ i + j
      part_one i j = omega arith

      part_two : (i j : ℕ) → j ≤ i + j
      part_two i j = omega arith

-- ---- the answer
pub log_within : (c d : ℕ) → c * 2 ^ d ≡ 2 ^ 62 → 512 ≤ c → (x : Float) → T (fits binary64 x) → LogarithmWithin d x (logarithm_of x)
unfolding LogarithmWithin OneThat logarithm_of
log_within c d h l nan f = refl
log_within c d h l (inf s) f = refl
log_within c d h l (fin true m e) f = refl
log_within c d h l (fin false zero e) f = refl
log_within c d h l (fin false (suc m) e) f = go (eqb (suc m) 0) (eqb→eq (suc m) 0)
  where
    N : ℕ
    N = units_of (fin false (suc m) e)

    go : (b : Bool) → (T b → suc m ≡ 0)
        → cond b (cond b (Err OutOfRange) (Ok (One (logarithm_at N))) ≡ Err OutOfRange) (OneThat (Close ((distance_of (places N) 1074 + 1) over 2 ^ d) (logarithmic N) false) (cond b (Err OutOfRange) (Ok (One (logarithm_at N)))))
    go true z = absurd (let y = z tt in omega arith)
    go false z = log_close N (units_pos false m e f) (units_lt false m e f) c d h l

-- ---- the contract, from the steps: 2^62 units are 2^16 of 2^-46 and 2^9 of 2^-53
pub log_promise : (x : Float) (r : Result Answer Refusal) → T (fits binary64 x) → r ≡ logarithm_of x → (r ≡ logarithm_of x) × LogarithmWithin 46 x r × LogarithmWithin 53 x r
log_promise x r f e =
    subst (λ (a : Result Answer Refusal). (a ≡ logarithm_of x) × LogarithmWithin 46 x a × LogarithmWithin 53 x a) (sym e)
    (refl, log_within (2 ^ 16) 46 refl (lit≤ tt) x f, log_within (2 ^ 9) 53 refl (lit≤ tt) x f)
