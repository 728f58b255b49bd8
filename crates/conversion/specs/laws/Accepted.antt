-- A call that nothing refuses: what that tells of the sheet, and what is enough for it. Assumes nothing.
use Rattle.std.proofs.Math.Path.{◌≡◌, refl, ap, sym}
use Rattle.std.proofs.Common.{◌∙◌, add-zero, add-suc, zero-add, le_of_suc-le-suc, eq-eqb, le-ltb, ltb-true, ltb-false}
use Rattle.std.specs.Prelude.{Bool, not, ◌&&◌, List}
use Rattle.std.proofs.Math.Bool.{true, false, cond}
use Prim.Native.Nat.{ℕ, zero, suc, ◌+◌, ◌≤◌, ◌<◌}
use Rattle.std.proofs.Math.Nat.{suc-add}
use native.Mathlib.Omega.{arith}
use Rattle.std.proofs.Math.Dec.{ltb}
use Rattle.ledger.specs.Calls.{rows_in, is_sheet_of}
use Rattle.inspection.specs.Rows.{first_from}
use Rattle.conversion.specs.Conversion.{Stopped, says_before, first_of, rejected, uncounted, oftener, stopped, stop_of, turned_sheet, converted_of}

-- ---- a test that holds at none of n places
abbrev pub Nowhere : (ℕ → Bool) → ℕ → Type 0
Nowhere test n = (i : ℕ) → i < n → test i ≡ false

module _ (test : ℕ → Bool) where
  none_from : (i n : ℕ) → i + n ≤ first_from test i n → (k : ℕ) → k < n → test (i + k) ≡ false
  unfolding first_from
  none_from i zero h k g = absurd (let z : ⊥ = omega arith in z)
  none_from i (suc n) h k g = go (test i) refl h (λ l. none_from (suc i) n l) k g
    where
      go : (t : Bool) → test i ≡ t → i + suc n ≤ cond t i (first_from test (suc i) n)
          → (suc i + n ≤ first_from test (suc i) n → (k : ℕ) → k < n → test (suc i + k) ≡ false)
          → (k : ℕ) → k < suc n → test (i + k) ≡ false
      go true e l rest k g = absurd (let z : ⊥ = omega arith in z)
      go false e l rest zero g = ap test (add-zero i) ∙ e
      go false e l rest (suc k) g = ap test (add-suc i k ∙ sym (suc-add i k)) ∙ rest (omega arith) k (le_of_suc-le-suc g)

  from_none : (i n : ℕ) → ((k : ℕ) → k < n → test (i + k) ≡ false) → first_from test i n ≡ i + n
  unfolding first_from
  from_none i zero h = sym (add-zero i)
  from_none i (suc n) h =
      rw (sym (ap test (add-zero i)) ∙ h zero (omega arith))
      (from_none (suc i) n (λ k g. ap test (suc-add i k ∙ sym (add-suc i k)) ∙ h (suc k) (omega arith)) ∙ suc-add i n ∙ sym (add-suc i n))

  -- where it holds at one of them, it holds at the place that is found, and at none before
  holds_from : (i n : ℕ) → first_from test i n < i + n → test (first_from test i n) ≡ true
  unfolding first_from
  holds_from i zero h = absurd (let z : ⊥ = omega arith in z)
  holds_from i (suc n) h = go (test i) refl h (holds_from (suc i) n)
    where
      go : (t : Bool) → test i ≡ t → cond t i (first_from test (suc i) n) < i + suc n
          → (first_from test (suc i) n < suc i + n → test (first_from test (suc i) n) ≡ true)
          → test (cond t i (first_from test (suc i) n)) ≡ true
      go true e l rest = e
      go false e l rest = rest (omega arith)

  none_before : (i n k : ℕ) → i + k < first_from test i n → test (i + k) ≡ false
  unfolding first_from
  none_before i zero k h = absurd (let z : ⊥ = omega arith in z)
  none_before i (suc n) k h = go (test i) refl k h (none_before (suc i) n)
    where
      go : (t : Bool) → test i ≡ t → (k : ℕ) → i + k < cond t i (first_from test (suc i) n)
          → ((k : ℕ) → suc i + k < first_from test (suc i) n → test (suc i + k) ≡ false)
          → test (i + k) ≡ false
      go true e k l rest = absurd (let z : ⊥ = omega arith in z)
      go false e zero l rest = ap test (add-zero i) ∙ e
      go false e (suc k) l rest = ap test (add-suc i k ∙ sym (suc-add i k)) ∙ rest k (omega arith)

  first_is : (n : ℕ) → ltb (first_of test n) n ≡ true → (test (first_of test n) ≡ true) × Nowhere test (first_of test n)
  first_is n h =
      (holds_from 0 n (rw zero-add (ltb-true _ _ h)), λ i g. ap test (sym (zero-add i)) ∙ none_before 0 n i (rw zero-add g))

  nowhere : (n : ℕ) → ltb (first_of test n) n ≡ false → Nowhere test n
  nowhere n h i g = ap test (sym (zero-add i)) ∙ none_from 0 n (rw zero-add (ltb-false _ _ h)) i g

  not_found : (n : ℕ) → Nowhere test n → ltb (first_of test n) n ≡ false
  not_found n h = le-ltb (first_of test n) n (omega (arith, from_none 0 n (λ k g. ap test (zero-add k) ∙ h k g)))

-- ---- nothing refuses the sheet
pub record Accepted (forth : Bool) (s : List ℕ) : Type 0 where
  pub sheet : is_sheet_of (says_before forth) s ≡ true
  pub rows : Nowhere (rejected s) (rows_in s)
  pub counts : uncounted s ≡ false
  pub times : forth ≡ false → Nowhere (oftener s) (rows_in s)

module _ (forth : Bool) (s : List ℕ) where
  pub accepted : (stop_of forth s).refusal ≡ 0 → Accepted forth s
  unfolding stop_of
  accepted h = go (is_sheet_of (says_before forth) s) (ltb (first_of (rejected s) (rows_in s)) (rows_in s)) (uncounted s) forth (ltb (first_of (oftener s) (rows_in s)) (rows_in s)) refl refl refl refl refl h
    where
      go : (p d u f o : Bool) → is_sheet_of (says_before forth) s ≡ p → ltb (first_of (rejected s) (rows_in s)) (rows_in s) ≡ d → uncounted s ≡ u → forth ≡ f → ltb (first_of (oftener s) (rows_in s)) (rows_in s) ≡ o
          → (cond (not p) (stopped 7 0) (cond d (stopped 10 (first_of (rejected s) (rows_in s))) (cond u (stopped 10 (rows_in s)) (cond (not f && o) (stopped 17 (first_of (oftener s) (rows_in s))) (stopped 0 0))))).refusal ≡ 0
          → Accepted forth s
      go false d u f o a b c e g z = absurd (let q : ⊥ = omega arith in q)
      go true true u f o a b c e g z = absurd (let q : ⊥ = omega arith in q)
      go true false true f o a b c e g z = absurd (let q : ⊥ = omega arith in q)
      go true false false false true a b c e g z = absurd (let q : ⊥ = omega arith in q)
      go true false false true o a b c e g z = record { sheet = a; rows = nowhere (rejected s) (rows_in s) b; counts = c; times = λ x. absurd (let q : ◌≡◌ {A = ℕ} 0 1 = ap (λ (t : Bool). cond t 1 0) (sym x ∙ e) in let r : ⊥ = omega arith in r) }
      go true false false false false a b c e g z = record { sheet = a; rows = nowhere (rejected s) (rows_in s) b; counts = c; times = λ x. nowhere (oftener s) (rows_in s) g }

  pub enough : Accepted forth s → stop_of forth s ≡ stopped 0 0
  unfolding stop_of
  enough a = rw (a.sheet, not_found (rejected s) (rows_in s) a.rows, a.counts) (go forth refl)
    where
      go : (f : Bool) → forth ≡ f → cond (not f && ltb (first_of (oftener s) (rows_in s)) (rows_in s)) (stopped 17 (first_of (oftener s) (rows_in s))) (stopped 0 0) ≡ stopped 0 0
      go true e = refl
      go false e = rw (not_found (oftener s) (rows_in s) (a.times e))

-- the row that 17 names is the first that is not blank and was driven other than once
pub first_named : (s : List ℕ) (i : ℕ) → stop_of false s ≡ stopped 17 i → (oftener s i ≡ true) × Nowhere (oftener s) i
unfolding stop_of
first_named s i h = go (is_sheet_of (says_before false) s) (ltb (first_of (rejected s) (rows_in s)) (rows_in s)) (uncounted s) (ltb (first_of (oftener s) (rows_in s)) (rows_in s)) refl (ap (λ (q : Stopped). q.refusal) h) (ap (λ (q : Stopped). q.row) h)
  where
    answer : (p d u o : Bool) → Stopped
    answer p d u o = cond (not p) (stopped 7 0) (cond d (stopped 10 (first_of (rejected s) (rows_in s))) (cond u (stopped 10 (rows_in s)) (cond o (stopped 17 (first_of (oftener s) (rows_in s))) (stopped 0 0))))

    go : (p d u o : Bool) → ltb (first_of (oftener s) (rows_in s)) (rows_in s) ≡ o → (answer p d u o).refusal ≡ 17 → (answer p d u o).row ≡ i → (oftener s i ≡ true) × Nowhere (oftener s) i
    go false d u o e q r = absurd (let z : ⊥ = omega arith in z)
    go true true u o e q r = absurd (let z : ⊥ = omega arith in z)
    go true false true o e q r = absurd (let z : ⊥ = omega arith in z)
    go true false false false e q r = absurd (let z : ⊥ = omega arith in z)
    go true false false true e q r = rw (← r) (first_is (oftener s) (rows_in s) e)

-- a sheet that nothing refuses is turned
pub converted_is : (forth : Bool) (s : List ℕ) → (stop_of forth s).refusal ≡ 0 → converted_of forth s ≡ turned_sheet forth s
unfolding converted_of
converted_is forth s z = rw (eq-eqb _ _ z)
