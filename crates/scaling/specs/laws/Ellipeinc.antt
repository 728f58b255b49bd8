-- Where neither way loses digits to the ends of the range, dividing m, c and c1 by λ changes no bit of the two terms. Assumes nothing.
use Rattle.std.specs.Prelude.{◌≡◌, refl, Bool, true, false, cond, not, ◌&&◌, ◌||◌, ℕ, ◌+◌, T, Float}
use Rattle.std.proofs.Common.{sym, ap, ap₂, subst, arith}
use Rattle.std.specs.Float.{nan, binary64}
use Rattle.std.specs.Float.Ieee.{of_bits, fits}
use Rattle.std.specs.Float.Ieee.Fits.{sub-fits}
use Rattle.laws.specs.Arithmetic.{◌⊖◌, ◌⊘◌, ◌<·◌, 3·0}
use Rattle.scaling.specs.laws.Operations.{Times, times_as, times-sub, times-mul, times_over, undivided, divided}
use Rattle.answer.specs.declared.Term.{Term}
use Rattle.carlson.specs.Series.{least, trusted_of}
use Rattle.rf.specs.Rf.{rf_of}
use Rattle.rd.specs.Rd.{rd_of}
use Rattle.scaling.specs.laws.Rf.{rf_scaled}
use Rattle.scaling.specs.laws.Rd.{rd_scaled}
use Rattle.incomplete.specs.Scaling.{λ4, √λ, large_of}
use Rattle.ellipeinc.specs.Ellipeinc.{two_terms_from, two_terms_of, trusted_terms_of, below_of, cancelling}
use Rattle.scaling.specs.EllipeincClear.{ClearTerms, ClearBoth}

-- the two terms have the degree -1/2
pub record TermOver (i : ℕ) (t t' : Term) : Type 0 where
  pub value : Times 0 i t.value t'.value
  pub met : t'.met ≡ t.met
  pub rounds : t'.rounds ≡ t.rounds

terms_scaled : (i : ℕ) {m m' c c' c1 c1' : Float} → Times (i + i) 0 m m' → Times (i + i) 0 c c' → Times (i + i) 0 c1 c1' → ClearTerms m c c1 → ClearTerms m' c' c1' → TermOver i (two_terms_of m c c1) (two_terms_of m' c' c1')
unfolding two_terms_of of_bits fits
terms_scaled i m c c1 k l =
    let y = times-sub c m k.middle l.middle in
    let f = rf_scaled i c1 y c k.first l.first in
    let d = rd_scaled i c1 y c k.second l.second in
    let p = times_as 0 i (let z : i + i + 0 + i ≡ 0 + (0 + (i + (i + i))) = omega arith in z) (times-mul m d.value k.product l.product) in
    record { value = times-sub f.value (times_over 3·0 tt tt p k.third l.third) k.value l.value; met = ap₂ (λ (a b : Bool). a && b) f.met d.met; rounds = ap₂ (λ (a b : ℕ). a + b) f.rounds d.rounds }

terms_fit : (m c c1 : Float) → T (fits binary64 (two_terms_of m c c1).value)
unfolding two_terms_of
terms_fit m c c1 = sub-fits binary64 _ _

-- a value that stands the test is taken as it is
trusted_is : (v : Float) → T (not (v <· least)) → trusted_of v ≡ v
unfolding trusted_of
trusted_is v h = go (v <· least) h
  where
    go : (b : Bool) → T (not b) → cond b nan v ≡ v
    go true h = absurd h
    go false h = refl

trusted_terms : (m c c1 : Float) → T (not ((rd_of c1 (c ⊖ m) c).value <· least)) → trusted_terms_of m c c1 ≡ two_terms_of m c c1
unfolding trusted_terms_of two_terms_of
trusted_terms m c c1 h = let d = rd_of c1 (c ⊖ m) c in ap (two_terms_from m (rf_of c1 (c ⊖ m) c) d) (trusted_is d.value h)

-- so the large arguments' way is the plain one's there
pub below_plain : (m c c1 : Float) → ClearBoth m c c1 → below_of m c c1 ≡ two_terms_of m c c1
unfolding below_of of_bits
below_plain m c c1 h =
    let t = trusted_terms_of (m ⊘ λ4) (c ⊘ λ4) (c1 ⊘ λ4) in
    let s = terms_scaled 256 (undivided 512 λ4 m (refl, refl) h.finite_m h.fits_m h.m_over) (undivided 512 λ4 c (refl, refl) h.finite_c h.fits-c h.c_over) (undivided 512 λ4 c1 (refl, refl) h.finite_c1 h.fits_c1 h.c1_over) h.scaled h.plain in
    let o = subst (λ (u : Term). TermOver 256 u (two_terms_of m c c1)) (sym (trusted_terms (m ⊘ λ4) (c ⊘ λ4) (c1 ⊘ λ4) h.trusted)) s in
    go (large_of m c || cancelling <· m) (t.value ⊘ √λ) t.met t.rounds (two_terms_of m c c1) (divided 256 √λ (refl, refl) (terms_fit m c c1) o.value) o.met o.rounds
  where
    go : (b : Bool) (v : Float) (k : Bool) (n : ℕ) (u : Term) → u.value ≡ v → u.met ≡ k → u.rounds ≡ n → cond {A = Term} b (record { value = v; met = k; rounds = n }) u ≡ u
    go true v k n u e g h = λ i. record { value = sym e i; met = sym g i; rounds = sym h i }
    go false v k n u e g h = refl
