-- A value's parts, added or taken away, are the value added or taken away. Assumes nothing.
use Rattle.std.proofs.Common.{◌≡◌, ℕ, ◌+◌, ◌*◌, ◌%◌, ◌^◌, Bool, true, false, not, List, sym, refl, ap, ◌∙◌, length, add-zero, mod-eq_of_lt, mul-zero, zero-mul}
use native.Mathlib.Nat.{add-mod-mod}
use lib.Ieee.{Float, neg}
use lib.Ieee.Scale.{finite}
use Rattle.bits.specs.Parts.{PartsOf}
use Rattle.total.specs.Total.{N, val, limbs_of, complement, units_of, add_of, take_of}
use Rattle.total.specs.laws.Limbs.{Fit, val-lt, val_limbs, limbs_val, limbs_mod}
use Rattle.total.specs.laws.Units.{units-value, neg_value, units-none, complement-zero}

module _ (x : Float) (f s : Bool) (d e : ℕ) (p : PartsOf x f s d e) where
  units_are : (k : ℕ) → (complement s (k * (d * 2 ^ e)) % N ≡ units_of k x) × (complement (not s) (k * (d * 2 ^ e)) % N ≡ units_of k (neg x))
  units_are k = go (finite x) refl
    where
      go : (b : Bool) → finite x ≡ b → (complement s (k * (d * 2 ^ e)) % N ≡ units_of k x) × (complement (not s) (k * (d * 2 ^ e)) % N ≡ units_of k (neg x))
      go true h =
          let v = (p.decoded h).value in
          (sym (units-value k x s (d * 2 ^ e) v), sym (units-value k (neg x) (not s) (d * 2 ^ e) (neg_value x s (d * 2 ^ e) (2 ^ 1074) v)))
      go false h =
          let n = units-none k x h in
          let z : k * (d * 2 ^ e) ≡ 0 = ap (λ (m : ℕ). k * m) (ap (λ (m : ℕ). m * 2 ^ e) (p.nothing h).1 ∙ zero-mul (2 ^ e)) ∙ mul-zero k in
          (ap (λ (m : ℕ). complement s m % N) z ∙ complement-zero s ∙ sym n.0, ap (λ (m : ℕ). complement (not s) m % N) z ∙ complement-zero (not s) ∙ sym n.1)

  pub added : (t k : ℕ) → (t + complement s (k * (d * 2 ^ e))) % N ≡ add_of t k x
  unfolding add_of
  added t k = sym (add-mod-mod t (complement s (k * (d * 2 ^ e))) N) ∙ ap (λ (u : ℕ). (t + u) % N) (units_are k).0

  pub taken : (t k : ℕ) → (t + complement (not s) (k * (d * 2 ^ e))) % N ≡ take_of t k x
  unfolding take_of
  taken t k = sym (add-mod-mod t (complement (not s) (k * (d * 2 ^ e))) N) ∙ ap (λ (u : ℕ). (t + u) % N) (units_are k).1

-- what is not finite adds nothing
module _ (l : List ℕ) (k : ℕ) (x : Float) (e : length l ≡ 34) (f : Fit l) (p : PartsOf x false false 0 0) where
  same : (val l + 0) % N ≡ val l
  same = ap (λ (t : ℕ). t % N) (add-zero (val l)) ∙ mod-eq_of_lt (val-lt l e f)

  pub unadded : (val l ≡ add_of (val l) k x) × (l ≡ limbs_of (add_of (val l) k x))
  unfolding add_of
  unadded = let n : val l ≡ (val l + units_of k x) % N = sym (ap (λ (u : ℕ). (val l + u) % N) (units-none k x (sym p.kind)).0 ∙ same) in (n, limbs_val l e f ∙ ap limbs_of n)

  pub untaken : (val l ≡ take_of (val l) k x) × (l ≡ limbs_of (take_of (val l) k x))
  unfolding take_of
  untaken = let n : val l ≡ (val l + units_of k (neg x)) % N = sym (ap (λ (u : ℕ). (val l + u) % N) (units-none k x (sym p.kind)).1 ∙ same) in (n, limbs_val l e f ∙ ap limbs_of n)

-- limbs of a number, said of the number modulo N
pub held : (l : List ℕ) (n v : ℕ) → l ≡ limbs_of n → n % N ≡ v → (val l ≡ v) × (l ≡ limbs_of v)
held l n v e h = (ap val e ∙ val_limbs n ∙ h, e ∙ sym (limbs_mod n) ∙ ap limbs_of h)
