-- The operations on finite values, as the rounding of one exact fraction. Assumes nothing.
use Rattle.std.specs.Prelude.{◌≡◌, refl, ◌⊎◌, Bool, true, false, not, cond, ℕ, zero, suc, ◌+◌, ◌-◌, ◌*◌, ◌≤◌, ◌<◌, T, ltb, eqb, leb, Float}
use Rattle.std.proofs.Common.{sym, ap, ap₂, ◌∙◌, subst, inl, inr, le_of_lt, mul_assoc, mul_comm, mul_right_comm, mul-pos, zero-mul, lt_irrefl, zero-lt-suc, arith, ltb→lt, nltb→le, leb→le}
use Rattle.std.specs.Bool.{beq}
use Rattle.std.proofs.Math.Nat.{mul-mul-mul_comm}
use Rattle.std.proofs.Math.Dec.{nleb→lt, eqb-suc-zero}
use Rattle.std.specs.Float.{nan, inf, fin, Format}
use Rattle.std.specs.Float.Ieee.{up, down, unlike, round, sum, neg, add, sub, mul, div}
use Rattle.std.specs.Float.Ieee.Digits.{back}
use Rattle.std.specs.Float.Ieee.Fits.{up_pos, down_pos}
use Rattle.std.specs.Float.Ieee.Exact.{HasValue}
use Rattle.std.specs.Float.Ieee.Scale.{round_same}
use Rattle.laws.specs.laws.Sum.{sum_like, sum_unlike, sum_comm, sum_same}

pub mul_is : (f : Format) (x y : Float) (s t : Bool) (a b c d : ℕ) → 0 < c → 0 < d → HasValue x s a c → HasValue y t b d → mul f x y ≡ round f (unlike s t) (a * b) (c * d)
unfolding mul
mul_is f nan y s t a b c d C D h k = absurd h
mul_is f (inf u) y s t a b c d C D h k = absurd h
mul_is f (fin u m e) nan s t a b c d C D h k = absurd k
mul_is f (fin u m e) (inf v) s t a b c d C D h k = absurd k
mul_is f (fin u m e) (fin v n g) s t a b c d C D h k =
    (λ i. round f (unlike (h.0 i) (k.0 i)) (m * up e * (n * up g)) (down e * down g))
    ∙ round_same f (unlike s t) (m * up e * (n * up g)) (down e * down g) (a * b) (c * d) (mul-pos (down_pos e) (down_pos g)) (mul-pos C D)
    (mul-mul-mul_comm (m * up e) (n * up g) c d ∙ ap₂ (λ (x y : ℕ). x * y) h.1 k.1 ∙ mul-mul-mul_comm a (down e) b (down g))

none : (p d : ℕ) → 0 < p → 0 < d → 0 ≡ p * d → ⊥
none p d a b c = lt_irrefl 0 (subst (λ (z : ℕ). 0 < z) (sym c) (mul-pos a b))

quotient : (X de a c Y dd b d : ℕ) → X * c ≡ a * de → Y * d ≡ b * dd → X * dd * (c * b) ≡ a * d * (Y * de)
quotient X de a c Y dd b d p q =
    mul-mul-mul_comm X dd c b ∙ ap₂ (λ (x y : ℕ). x * y) p (mul_comm dd b ∙ sym q) ∙ mul-mul-mul_comm a de Y d
    ∙ ap₂ (λ (x y : ℕ). x * y) refl (mul_comm de d) ∙ mul-mul-mul_comm a Y d de

pub div_is : (f : Format) (x y : Float) (s t : Bool) (a b c d : ℕ) → 0 < c → 0 < d → 0 < b → HasValue x s a c → HasValue y t b d → div f x y ≡ round f (unlike s t) (a * d) (c * b)
unfolding div
div_is f nan y s t a b c d C D B h k = absurd h
div_is f (inf u) y s t a b c d C D B h k = absurd h
div_is f (fin u m e) nan s t a b c d C D B h k = absurd k
div_is f (fin u m e) (inf v) s t a b c d C D B h k = absurd k
div_is f (fin u m e) (fin v zero g) s t a b c d C D B h k = absurd (none b (down g) B (down_pos g) (sym (ap (λ (z : ℕ). z * d) (zero-mul (up g)) ∙ zero-mul d) ∙ k.1))
div_is f (fin u m e) (fin v (suc n) g) s t a b c d C D B h k =
    ap (λ (z : Bool). cond z (cond (eqb m 0) nan (inf (unlike u v))) (round f (unlike u v) (m * up e * down g) (suc n * up g * down e))) (eqb-suc-zero n)
    ∙ (λ i. round f (unlike (h.0 i) (k.0 i)) (m * up e * down g) (suc n * up g * down e))
    ∙ round_same f (unlike s t) (m * up e * down g) (suc n * up g * down e) (a * d) (c * b) (mul-pos (mul-pos (zero-lt-suc n) (up_pos g)) (down_pos e)) (mul-pos C B)
    (quotient (m * up e) (down e) a c (suc n * up g) (down g) b d h.1 k.1)

pub add_is : (f : Format) (x y : Float) (s t : Bool) (a b c : ℕ) → 0 < c → HasValue x s a c → HasValue y t b c → add f x y ≡ sum f s a t b c
unfolding add
add_is f nan y s t a b c C h k = absurd h
add_is f (inf u) y s t a b c C h k = absurd h
add_is f (fin u m e) nan s t a b c C h k = absurd k
add_is f (fin u m e) (inf v) s t a b c C h k = absurd k
add_is f (fin u m e) (fin v n g) s t a b c C h k =
    (λ i. sum f (h.0 i) (m * up e * down g) (k.0 i) (n * up g * down e) (down e * down g))
    ∙ sum_same f s t a b c (m * up e * down g) (n * up g * down e) (down e * down g) C (mul-pos (down_pos e) (down_pos g)) (over a (m * up e) (down e) (down g) c h.1) (ap (λ (z : ℕ). b * z) (mul_comm (down e) (down g)) ∙ over b (n * up g) (down g) (down e) c k.1)
  where
    over : (a x d e c : ℕ) → x * c ≡ a * d → a * (d * e) ≡ x * e * c
    over a x d e c p = sym (mul_assoc a d e) ∙ ap (λ (z : ℕ). z * e) (sym p) ∙ mul_right_comm x c e

pub neg_value : (x : Float) (s : Bool) (a c : ℕ) → HasValue x s a c → HasValue (neg x) (not s) a c
unfolding neg
neg_value nan s a c h = absurd h
neg_value (inf t) s a c h = absurd h
neg_value (fin t m e) s a c h = (ap not h.0, h.1)

pub sub_is : (f : Format) (x y : Float) (s t : Bool) (a b c : ℕ) → 0 < c → HasValue x s a c → HasValue y t b c → sub f x y ≡ sum f s a (not t) b c
unfolding sub
sub_is f x y s t a b c C h k = add_is f x (neg y) s (not t) a b c C h (neg_value y t b c k)

-- ---- a sum of signed fractions is one fraction: the sum of the two sizes, or their difference
pub record Summed (f : Format) (z : Float) (a b c : ℕ) : Type 0 where
  pub sign : Bool
  pub size : ℕ
  pub is : z ≡ round f sign size c
  pub how : (size ≡ a + b) ⊎ ((size + b ≡ a) ⊎ (size + a ≡ b))

pub summed : (f : Format) (s t : Bool) (a b c : ℕ) → Summed f (sum f s a t b c) a b c
summed f s t a b c = go (beq s t) refl (beq t s) refl (leb b a) (leb→le b a) (nleb→lt b a)
  where
    go : (x : Bool) → beq s t ≡ x → (y : Bool) → beq t s ≡ y → (l : Bool) → (T l → b ≤ a) → (T (not l) → a < b) → Summed f (sum f s a t b c) a b c
    go true e y d l p q = record { sign = s; size = a + b; is = sym (sum_like f s t a b c e); how = inl refl }
    go false e y d true p q = record { sign = _; size = a - b; is = sym (sum_unlike f s t a b c e (p tt)); how = inr (inl (back a b (p tt))) }
    go false e true d false p q = record { sign = t; size = b + a; is = sum_comm f s t a b c ∙ sym (sum_like f t s b a c d); how = inl (let z : b + a ≡ a + b = omega arith in z) }
    go false e false d false p q = record { sign = _; size = b - a; is = sum_comm f s t a b c ∙ sym (sum_unlike f t s b a c d (le_of_lt (q tt))); how = inr (inr (back b a (le_of_lt (q tt)))) }

-- ---- a difference of two that are not negative
pub record Difference (f : Format) (z : Float) (a b c : ℕ) : Type 0 where
  pub sign : Bool
  pub size : ℕ
  pub is : z ≡ round f sign size c
  pub how : (size + b ≡ a) ⊎ (size + a ≡ b)

-- how far apart they are, at most
pub gap : (d a b : ℕ) → (d + b ≡ a) ⊎ (d + a ≡ b) → d ≤ a + b
gap d a b (inl e) = omega arith
gap d a b (inr e) = omega arith

pub gap_most : (d a b p : ℕ) → (d + b ≡ a) ⊎ (d + a ≡ b) → a ≤ p → b ≤ p → d ≤ p
gap_most d a b p (inl e) h k = omega arith
gap_most d a b p (inr e) h k = omega arith

difference_sum : (f : Format) (a b c : ℕ) → Difference f (sum f false a true b c) a b c
unfolding sum
difference_sum f a b c = go (ltb a b) (ltb→lt a b) (nltb→le a b)
  where
    go : (t : Bool) → (T t → a < b) → (T (not t) → b ≤ a) → Difference f (cond t (round f true (b - a) c) (round f false (a - b) c)) a b c
    go true p q = record { sign = true; size = b - a; is = refl; how = inr (back b a (le_of_lt (p tt))) }
    go false p q = record { sign = false; size = a - b; is = refl; how = inl (back a b (q tt)) }

pub difference : (f : Format) (x y : Float) (a b c : ℕ) → 0 < c → HasValue x false a c → HasValue y false b c → Difference f (sub f x y) a b c
difference f x y a b c C h k = subst (λ (z : Float). Difference f z a b c) (sym (sub_is f x y false false a b c C h k)) (difference_sum f a b c)
