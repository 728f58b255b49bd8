-- Finite f64 in their order: each has a place on one line, and one is beyond another where its place is higher. Assumes nothing.
use Rattle.std.specs.Prelude.{◌≡◌, ℕ, ◌+◌, ◌-◌, ◌*◌, ◌^◌, ◌<◌, ◌≤◌, Bool, true, false, cond, T, ltb, nat_lt, refl}
use Rattle.std.proofs.Math.Path.{sym}
use Rattle.std.proofs.Common.{ap, ◌∙◌, subst, inl, inr, mul_assoc, mul_comm, mul_right_comm, mul-pos, add-mul, zero-mul, le_of_lt, lt_of_mul-lt-mul_right, mul-lt-mul_of_pos_right, arith, lt-ltb, le-ltb, ltb-true, ltb-false, eq-eqb, pow_pos}
use lib.Ieee.{Float, nan, inf, fin, up, down, below, level, lt, eq, binary64}
use Rattle.std.specs.Float.Ieee.Bits.{of_bits-fits}
use Rattle.std.specs.Float.Ieee.Exact.{HasValue}
use Rattle.std.specs.Float.Ieee.Fits.{down_pos}
use Rattle.std.specs.Float.Ieee.Scale.{finite}
use Rattle.laws.specs.Arithmetic.{float, ◌<·◌}
use Rattle.laws.specs.laws.Flags.{lt-or-le}
use Rattle.total.specs.Total.{negative, size_of}
use Rattle.total.specs.laws.Units.{size-lt}
use Rattle.exact.specs.laws.Units.{whole}
use Rattle.month.specs.Month.{beyond}

-- ---- a place for each signed number

-- no f64 has more units of 2^-1074
far : ℕ
far = 2 ^ 2098

line : Bool → ℕ → ℕ
line s a = cond s (far - a) (far + a)

alike : (a b c d : ℕ) → (a < b → c < d) → (c < d → a < b) → nat_lt a b ≡ nat_lt c d
alike a b c d f g = elim (lt-or-le a b) [ inl l ↦ lt-ltb a b l ∙ sym (lt-ltb c d (f l)) | inr l ↦ le-ltb a b l ∙ sym (le-ltb c d (let h : c < d → ⊥ = λ z. let y = g z in omega arith in omega arith)) ]

-- two numbers and two that are the same fractions of others are in the same order
up_order : (A B a b c k : ℕ) → 0 < k → A * k ≡ a * c → B * k ≡ b * c → A < B → a < b
up_order A B a b c k K e f h = lt_of_mul-lt-mul_right c (subst (λ (z : ℕ). z < b * c) e (subst (λ (z : ℕ). A * k < z) f (mul-lt-mul_of_pos_right h K)))

module _ (A B a b c k : ℕ) (K : 0 < k) (C : 0 < c) (e : A * k ≡ a * c) (f : B * k ≡ b * c) (r : a ≤ far) (q : b ≤ far) where
  forth : A < B → a < b
  forth = up_order A B a b c k K e f

  back : a < b → A < B
  back = up_order a b A B k c C (sym e) (sym f)

  forth' : B < A → b < a
  forth' = up_order B A b a c k K f e

  back' : b < a → B < A
  back' = up_order b a B A k c C (sym f) (sym e)

  both : (A + B) * k ≡ (a + b) * c
  both = add-mul A B k ∙ (λ i. e i + f i) ∙ sym (add-mul a b c)

  some : 0 < A + B → 0 < a + b
  some = up_order 0 (A + B) 0 (a + b) c k K (zero-mul k ∙ sym (zero-mul c)) both

  some' : 0 < a + b → 0 < A + B
  some' = up_order 0 (a + b) 0 (A + B) k c C (zero-mul c ∙ sym (zero-mul k)) (sym both)

  below-line : (s t : Bool) → lib.Ieee.below s A t B ≡ nat_lt (line s a) (line t b)
  unfolding line
  below-line false false = alike A B (far + a) (far + b) (λ h. let z = forth h in omega arith) (λ h. back (omega arith))
  below-line false true = sym (le-ltb (far + a) (far - b) (omega arith))
  below-line true false = alike 0 (A + B) (far - a) (far + b) (λ h. let z = some h in omega arith) (λ h. some' (omega arith))
  below-line true true = alike B A (far - a) (far - b) (λ h. let z = forth' h in omega arith) (λ h. back' (omega arith))

lt-line : (x y : Float) (s t : Bool) (a b c : ℕ) → 0 < c → HasValue x s a c → HasValue y t b c → a ≤ far → b ≤ far → (x <· y) ≡ nat_lt (line s a) (line t b)
unfolding lt
lt-line nan y s t a b c C v w r q = absurd v
lt-line (inf u) y s t a b c C v w r q = absurd v
lt-line (fin u m e) nan s t a b c C v w r q = absurd w
lt-line (fin u m e) (inf o) s t a b c C v w r q = absurd w
lt-line (fin u m e) (fin o n d) s t a b c C v w r q =
    below-line (m * up e * down d) (n * up d * down e) a b (down e * down d) c C (mul-pos (down_pos e) (down_pos d)) left right r q u o
    ∙ (λ i. ltb (line (v.0 i) a) (line (w.0 i) b))
  where
    left : m * up e * down d * c ≡ a * (down e * down d)
    left = mul_right_comm (m * up e) (down d) c ∙ ap (λ (z : ℕ). z * down d) v.1 ∙ mul_assoc a (down e) (down d)

    right : n * up d * down e * c ≡ b * (down e * down d)
    right = mul_right_comm (n * up d) (down e) c ∙ ap (λ (z : ℕ). z * down e) w.1 ∙ mul_assoc b (down d) (down e) ∙ ap (λ (z : ℕ). b * z) (mul_comm (down d) (down e))

-- ---- of a pattern
abbrev pub Number : ℕ → Type 0
Number p = T (finite (float p))

line_of : ℕ → ℕ
line_of p = line (negative (float p)) (size_of (float p))

small : (p : ℕ) → size_of (float p) ≤ far
unfolding far
small p = le_of_lt (size-lt (float p) (of_bits-fits binary64 p))

lt_lines : (p q : ℕ) → Number p → Number q → (float p <· float q) ≡ nat_lt (line_of p) (line_of q)
unfolding line_of
lt_lines p q h g =
    lt-line (float p) (float q) (negative (float p)) (negative (float q)) (size_of (float p)) (size_of (float q)) (2 ^ 1074) (pow_pos 1074)
    (whole (float p) (of_bits-fits binary64 p) h) (whole (float q) (of_bits-fits binary64 q) g) (small p) (small q)

-- ---- what follows for `beyond`
line-beyond : (top : Bool) (p q : ℕ) → Number p → Number q → beyond top p q ≡ cond top (nat_lt (line_of p) (line_of q)) (nat_lt (line_of q) (line_of p))
unfolding beyond
line-beyond true p q h g = lt_lines p q h g
line-beyond false p q h g = lt_lines q p g h

abbrev test : Bool → ℕ → ℕ → Bool
test top x y = cond top (nat_lt x y) (nat_lt y x)

module _ (top : Bool) (p q r : ℕ) (hp : Number p) (hq : Number q) (hr : Number r) where
  pub beyond-beyond : beyond top p q ≡ true → beyond top q r ≡ true → beyond top p r ≡ true
  beyond-beyond d e = line-beyond top p r hp hr ∙ go top (line_of p) (line_of q) (line_of r) (sym (line-beyond top p q hp hq) ∙ d) (sym (line-beyond top q r hq hr) ∙ e)
    where
      go : (b : Bool) (x y z : ℕ) → test b x y ≡ true → test b y z ≡ true → test b x z ≡ true
      go true x y z d e = lt-ltb x z (omega (arith, ltb-true x y d, ltb-true y z e))
      go false x y z d e = lt-ltb z x (omega (arith, ltb-true y x d, ltb-true z y e))

  pub not_then_beyond : beyond top q p ≡ false → beyond top q r ≡ true → beyond top p r ≡ true
  not_then_beyond d e = line-beyond top p r hp hr ∙ go top (line_of p) (line_of q) (line_of r) (sym (line-beyond top q p hq hp) ∙ d) (sym (line-beyond top q r hq hr) ∙ e)
    where
      go : (b : Bool) (x y z : ℕ) → test b y x ≡ false → test b y z ≡ true → test b x z ≡ true
      go true x y z d e = lt-ltb x z (omega (arith, ltb-false y x d, ltb-true y z e))
      go false x y z d e = lt-ltb z x (omega (arith, ltb-false x y d, ltb-true z y e))

pub beyond-not : (top : Bool) (p q : ℕ) → Number p → Number q → beyond top p q ≡ true → beyond top q p ≡ false
beyond-not top p q hp hq d = line-beyond top q p hq hp ∙ go top (line_of p) (line_of q) (sym (line-beyond top p q hp hq) ∙ d)
  where
    go : (b : Bool) (x y : ℕ) → test b x y ≡ true → test b y x ≡ false
    go true x y d = le-ltb y x (omega (arith, ltb-true x y d))
    go false x y d = le-ltb x y (omega (arith, ltb-true y x d))

pub not_itself : (top : Bool) (p : ℕ) → Number p → beyond top p p ≡ false
not_itself top p h = line-beyond top p p h h ∙ go top (line_of p)
  where
    go : (b : Bool) (x : ℕ) → test b x x ≡ false
    go true x = le-ltb x x (omega arith)
    go false x = le-ltb x x (omega arith)

-- ---- two that are not beyond each other are equal
neither : (x y : Float) → T (finite x) → T (finite y) → (x <· y) ≡ false → (y <· x) ≡ false → eq x y ≡ true
unfolding lt eq
neither nan y h g d e = absurd h
neither (inf s) y h g d e = absurd h
neither (fin s m a) nan h g d e = absurd g
neither (fin s m a) (inf t) h g d e = absurd g
neither (fin s m a) (fin t n b) h g d e = go s t (m * up a * down b) (n * up b * down a) d e
  where
    go : (s t : Bool) (x y : ℕ) → lib.Ieee.below s x t y ≡ false → lib.Ieee.below t y s x ≡ false → lib.Ieee.level s x t y ≡ true
    go false false x y d e = rw (eq-eqb x y (omega (arith, ltb-false x y d, ltb-false y x e))) refl
    go true true x y d e = rw (eq-eqb x y (omega (arith, ltb-false y x d, ltb-false x y e))) refl
    go true false x y d e = let z = ltb-false 0 (x + y) d in rw (eq-eqb x y (omega arith), eq-eqb x 0 (omega arith)) refl
    go false true x y d e = let z = ltb-false 0 (y + x) e in rw (eq-eqb x y (omega arith), eq-eqb x 0 (omega arith)) refl

pub neither_beyond : (top : Bool) (p q : ℕ) → Number p → Number q → beyond top p q ≡ false → beyond top q p ≡ false → eq (float p) (float q) ≡ true
unfolding beyond
neither_beyond true p q h g d e = neither (float p) (float q) h g d e
neither_beyond false p q h g d e = neither (float p) (float q) h g e d
