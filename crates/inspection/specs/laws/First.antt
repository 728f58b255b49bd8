-- The first place at which a test holds: what a search finds, place by place. Assumes nothing.
use Rattle.std.specs.Prelude.{◌≡◌, Bool, true, false, cond, ℕ, zero, suc, ◌+◌, ◌-◌, ◌≤◌, ◌<◌, ltb, Option, Some, None, MatchOption, is_some}
use Rattle.std.proofs.Common.{sym, ◌∙◌, ap}
use borrow.Author.Tests.{lt-ltb, le-ltb, ltb-true, ltb-false}
use Rattle.std.proofs.lemmas.Bool.{false≢true}
use Rattle.std.proofs.Math.Path.{refl}
use native.Mathlib.Omega.{arith}
use Rattle.inspection.specs.Rows.{first_from}

abbrev or_zero : Option ℕ → ℕ
or_zero None = 0
or_zero (Some k) = k

-- from place i on, of r places in all
module _ (test : ℕ → Bool) (i r : ℕ) where
  left_over : i < r → r - i ≡ suc (r - suc i)
  left_over h = omega arith

  pub first_here : i < r → test i ≡ true → first_from test i (r - i) ≡ i
  unfolding first_from
  first_here h e = rw (left_over h) (rw e refl)

  pub first_later : i < r → test i ≡ false → first_from test i (r - i) ≡ first_from test (suc i) (r - suc i)
  unfolding first_from
  first_later h e = rw (left_over h) (rw e refl)

  pub first-none : r ≤ i → first_from test i (r - i) ≡ i
  unfolding first_from
  first-none h = let none : r - i ≡ 0 = omega arith in rw none refl

-- what a search that hands out a place tells
module _ (f n : ℕ) (o : Option ℕ) (e : o ≡ cond (ltb f n) (Some f) None) where
  pub found_some : (r : ℕ) → o ≡ Some r → (r ≡ f) × (f < n)
  found_some r h = go (ltb f n) refl (sym e ∙ h)
    where
      go : (b : Bool) → ltb f n ≡ b → cond b (Some f) None ≡ Some r → (r ≡ f) × (f < n)
      go true d z = (sym (ap (λ (o : Option ℕ). or_zero o) z), ltb-true _ _ d)
      go false d z = absurd (false≢true (ap is_some z))

  pub found_none : o ≡ None → n ≤ f
  found_none h = go (ltb f n) refl (sym e ∙ h)
    where
      go : (b : Bool) → ltb f n ≡ b → ◌≡◌ {A = Option ℕ} (cond b (Some f) None) None → n ≤ f
      go true d z = absurd (false≢true (sym (ap is_some z)))
      go false d z = ltb-false _ _ d

-- the first place by what is known of it and of those before
module _ (test : ℕ → Bool) where
  first_no : (n i : ℕ) → ((k : ℕ) → k < i + n → test k ≡ false) → first_from test i n ≡ i + n
  unfolding first_from
  first_no zero i f = omega arith
  first_no (suc n) i f = rw (f i (omega arith)) (first_no n (suc i) (λ k h. f k (omega (arith, h))) ∙ omega arith)

  before : (i r : ℕ) → i ≤ r → ((k : ℕ) → k < r → test k ≡ false) → test i ≡ true → i ≡ r
  before i r h f e = go (ltb i r) refl
    where
      go : (b : Bool) → ltb i r ≡ b → i ≡ r
      go true d = absurd (false≢true (sym (f i (ltb-true _ _ d)) ∙ e))
      go false d = omega (arith, h, ltb-false _ _ d)

  beyond : (i r : ℕ) → i ≤ r → test r ≡ true → test i ≡ false → suc i ≤ r
  beyond i r h t e = go (ltb i r) refl
    where
      go : (b : Bool) → ltb i r ≡ b → suc i ≤ r
      go true d = ltb-true _ _ d
      go false d = absurd (false≢true (sym e ∙ ap test (let z : i ≡ r = omega (arith, h, ltb-false _ _ d) in z) ∙ t))

  first_is : (n i r : ℕ) → i ≤ r → r < i + n → test r ≡ true → ((k : ℕ) → k < r → test k ≡ false) → first_from test i n ≡ r
  unfolding first_from
  first_is zero i r h g t f = absurd (omega (arith, h, g))
  first_is (suc n) i r h g t f = go (test i) refl (λ e. first_is n (suc i) r (beyond i r h t e) (omega (arith, g)) t f)
    where
      go : (b : Bool) → test i ≡ b → (test i ≡ false → first_from test (suc i) n ≡ r) → cond b i (first_from test (suc i) n) ≡ r
      go true e on = before i r h f e
      go false e on = on e

  pub found : (n : ℕ) (o : Option ℕ) → MatchOption o ((k : ℕ) → 0 ≤ k → k < n → test k ≡ false) (λ r. (0 ≤ r) × (r < n) × (test r ≡ true) × ((k : ℕ) → 0 ≤ k → k < r → test k ≡ false))
      → o ≡ cond (ltb (first_from test 0 n) n) (Some (first_from test 0 n)) None
  found n None f = sym (rw (first_no n 0 (λ k h. f k (omega arith) (omega (arith, h))), le-ltb (0 + n) n (omega arith)) refl)
  found n (Some r) f =
      let e : first_from test 0 n ≡ r = first_is n 0 r f.0 (omega (arith, f.1)) f.2 (λ k h. f.3 k (omega arith) h) in
      sym (rw (e, lt-ltb r n f.1) refl)
