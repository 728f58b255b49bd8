-- What floats stand for, and what their comparisons come to then. Assumes nothing.
use Rattle.std.specs.Prelude.{◌≡◌, refl, Bool, true, false, not, ◌&&◌, ◌||◌, ℕ, ◌+◌, ◌*◌, ◌^◌, ◌<◌, ltb, eqb, Float}
use Rattle.std.proofs.Common.{ap, ◌∙◌, sym, subst, le_of_eq, le_of_lt, lt_irrefl, mul-pos, mul_assoc, mul_comm, mul_right_comm, zero-mul, add-mul, mul-lt-mul_of_pos_right, lt_of_mul-lt-mul_right, arith, lt-ltb, le-ltb, eq-eqb, ne_eqb, eqb-true, pow_pos}
use Rattle.std.specs.Bool.{beq}
use Rattle.std.proofs.Math.Nat.{eq_of_mul-eq-mul_right}
use Rattle.std.proofs.lemmas.Bool.{eqb-false}
use Rattle.std.specs.Float.{nan, inf, fin}
use Rattle.std.specs.Float.Ieee.{up, down, below, level, lt, eq}
use Rattle.std.specs.Float.Ieee.Fits.{down_pos}
use Rattle.laws.specs.laws.Sum.{ltb-same}

-- ---- numbers over one denominator
pub eqb_same : (a b x y : ℕ) → (a ≡ b → x ≡ y) → (x ≡ y → a ≡ b) → eqb a b ≡ eqb x y
eqb_same a b x y g h = go (eqb x y) (eqb-true x y) (eqb-false x y)
  where
    go : (t : Bool) → (t ≡ true → x ≡ y) → (t ≡ false → x ≡ y → ⊥) → eqb a b ≡ t
    go true i k = eq-eqb a b (h (i refl))
    go false i k = ne_eqb a b (λ e. k refl (g e))

module _ (u v a b P Q : ℕ) (p : 0 < P) (q : 0 < Q) (e : u * P ≡ a * Q) (f : v * P ≡ b * Q) where
  scaled_lt : ltb u v ≡ ltb a b
  scaled_lt =
      ltb-same u v a b
      (λ h. lt_of_mul-lt-mul_right Q (subst (λ (n : ℕ). n < b * Q) e (subst (λ (n : ℕ). u * P < n) f (mul-lt-mul_of_pos_right h p))))
      (λ h. lt_of_mul-lt-mul_right P (subst (λ (n : ℕ). n < v * P) (sym e) (subst (λ (n : ℕ). a * Q < n) (sym f) (mul-lt-mul_of_pos_right h q))))

  scaled_eq : eqb u v ≡ eqb a b
  scaled_eq =
      eqb_same u v a b
      (λ h. eq_of_mul-eq-mul_right Q q a b (sym e ∙ ap (λ (n : ℕ). n * P) h ∙ f))
      (λ h. eq_of_mul-eq-mul_right P p u v (e ∙ ap (λ (n : ℕ). n * Q) h ∙ sym f))

none_scaled : (P Q : ℕ) → 0 * P ≡ 0 * Q
none_scaled P Q = zero-mul P ∙ sym (zero-mul Q)

both_scaled : (u v a b P Q : ℕ) → u * P ≡ a * Q → v * P ≡ b * Q → (u + v) * P ≡ (a + b) * Q
both_scaled u v a b P Q e f = add-mul u v P ∙ (λ i. e i + f i) ∙ sym (add-mul a b Q)

scaled_below : (s t : Bool) (u v a b P Q : ℕ) → 0 < P → 0 < Q → u * P ≡ a * Q → v * P ≡ b * Q → below s u t v ≡ below s a t b
scaled_below false false u v a b P Q p q e f = scaled_lt u v a b P Q p q e f
scaled_below false true u v a b P Q p q e f = refl
scaled_below true false u v a b P Q p q e f = scaled_lt 0 (u + v) 0 (a + b) P Q p q (none_scaled P Q) (both_scaled u v a b P Q e f)
scaled_below true true u v a b P Q p q e f = scaled_lt v u b a P Q p q f e

scaled_level : (s t : Bool) (u v a b P Q : ℕ) → 0 < P → 0 < Q → u * P ≡ a * Q → v * P ≡ b * Q → level s u t v ≡ level s a t b
scaled_level s t u v a b P Q p q e f = (λ i. scaled_eq u v a b P Q p q e f i && (beq s t || scaled_eq u 0 a 0 P Q p q e (none_scaled P Q) i))

-- ---- what a float stands for: a sign and a number of units of 2^-1074, the infinities beyond all others
unfoldable pub beyond : ℕ
beyond = 2 ^ 2098

abbrev pub Stands : Float → Bool → ℕ → Type 0
Stands nan s a = ⊥
Stands (inf t) s a = (t ≡ s) × (a ≡ beyond)
Stands (fin t m e) s a = (t ≡ s) × (m * up e * 2 ^ 1074 ≡ a * down e) × (a < beyond)

beyond_pos : 0 < beyond
unfolding beyond
beyond_pos = pow_pos 2098

level_inf : (s t : Bool) (a b : ℕ) → a ≡ b → 0 < a → beq s t ≡ level s a t b
level_inf s t a b e h = rw (eq-eqb a b e, ne_eqb a 0 (λ z. lt_irrefl 0 (subst (λ (n : ℕ). 0 < n) z h))) (right (beq s t))
  where
    right : (c : Bool) → c ≡ (c || false)
    right true = refl
    right false = refl

level_ne : (s t : Bool) (a b : ℕ) → (a ≡ b → ⊥) → false ≡ level s a t b
level_ne s t a b h = rw (ne_eqb a b h) refl

below_inf : (s t : Bool) (a b : ℕ) → a ≡ b → 0 < a → (s && not t) ≡ below s a t b
below_inf false false a b e h = sym (le-ltb a b (le_of_eq (sym e)))
below_inf false true a b e h = refl
below_inf true false a b e h = sym (lt-ltb 0 (a + b) (let z : 0 < a + b = omega arith in z))
below_inf true true a b e h = sym (le-ltb b a (le_of_eq e))

below-above : (s t : Bool) (a b : ℕ) → b < a → s ≡ below s a t b
below-above false false a b h = sym (le-ltb a b (le_of_lt h))
below-above false true a b h = refl
below-above true false a b h = sym (lt-ltb 0 (a + b) (let z : 0 < a + b = omega arith in z))
below-above true true a b h = sym (lt-ltb b a h)

below_under : (s t : Bool) (a b : ℕ) → a < b → not t ≡ below s a t b
below_under false false a b h = sym (lt-ltb a b h)
below_under false true a b h = refl
below_under true false a b h = sym (lt-ltb 0 (a + b) (let z : 0 < a + b = omega arith in z))
below_under true true a b h = sym (le-ltb b a (le_of_lt h))

turned : (x d e a c : ℕ) → x * c ≡ a * e → x * d * c ≡ a * (e * d)
turned x d e a c h = mul_right_comm x d c ∙ ap (λ (z : ℕ). z * d) h ∙ mul_assoc a e d

turned' : (x d e a c : ℕ) → x * c ≡ a * e → x * d * c ≡ a * (d * e)
turned' x d e a c h = turned x d e a c h ∙ ap (λ (z : ℕ). a * z) (mul_comm e d)

pub under_not : (a b : ℕ) → a < b → a ≡ b → ⊥
under_not a b h e = lt_irrefl b (subst (λ (n : ℕ). n < b) e h)

pub lt_stands : (x y : Float) (s t : Bool) (a b : ℕ) → Stands x s a → Stands y t b → lt x y ≡ below s a t b
unfolding lt
lt_stands nan y s t a b v w = absurd v
lt_stands (inf u) nan s t a b v w = absurd w
lt_stands (inf u) (inf r) s t a b v w = (λ i. v.0 i && not (w.0 i)) ∙ below_inf s t a b (v.1 ∙ sym w.1) (subst (λ (n : ℕ). 0 < n) (sym v.1) beyond_pos)
lt_stands (inf u) (fin r n d) s t a b v w = v.0 ∙ below-above s t a b (subst (λ (n : ℕ). b < n) (sym v.1) w.2)
lt_stands (fin u m e) nan s t a b v w = absurd w
lt_stands (fin u m e) (inf r) s t a b v w = ap not w.0 ∙ below_under s t a b (subst (λ (n : ℕ). a < n) (sym w.1) v.2)
lt_stands (fin u m e) (fin r n d) s t a b v w =
    (λ i. below (v.0 i) (m * up e * down d) (w.0 i) (n * up d * down e))
    ∙ scaled_below s t (m * up e * down d) (n * up d * down e) a b (2 ^ 1074) (down e * down d) (pow_pos 1074) (mul-pos (down_pos e) (down_pos d)) (turned (m * up e) (down d) (down e) a (2 ^ 1074) v.1) (turned' (n * up d) (down e) (down d) b (2 ^ 1074) w.1)

pub eq_stands : (x y : Float) (s t : Bool) (a b : ℕ) → Stands x s a → Stands y t b → eq x y ≡ level s a t b
unfolding eq
eq_stands nan y s t a b v w = absurd v
eq_stands (inf u) nan s t a b v w = absurd w
eq_stands (inf u) (inf r) s t a b v w = (λ i. beq (v.0 i) (w.0 i)) ∙ level_inf s t a b (v.1 ∙ sym w.1) (subst (λ (n : ℕ). 0 < n) (sym v.1) beyond_pos)
eq_stands (inf u) (fin r n d) s t a b v w = level_ne s t a b (λ e. under_not b beyond w.2 (sym e ∙ v.1))
eq_stands (fin u m e) nan s t a b v w = absurd w
eq_stands (fin u m e) (inf r) s t a b v w = level_ne s t a b (λ z. under_not a beyond v.2 (z ∙ w.1))
eq_stands (fin u m e) (fin r n d) s t a b v w =
    (λ i. level (v.0 i) (m * up e * down d) (w.0 i) (n * up d * down e))
    ∙ scaled_level s t (m * up e * down d) (n * up d * down e) a b (2 ^ 1074) (down e * down d) (pow_pos 1074) (mul-pos (down_pos e) (down_pos d)) (turned (m * up e) (down d) (down e) a (2 ^ 1074) v.1) (turned' (n * up d) (down e) (down d) b (2 ^ 1074) w.1)
