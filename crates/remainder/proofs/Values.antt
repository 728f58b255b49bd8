-- The tests on x and y, and the remainder in each kind of case. Assumes nothing.
use Rattle.std.proofs.Common.{◌≡◌, ℕ, zero, suc, ◌+◌, ◌*◌, ◌%◌, ◌^◌, ◌<◌, ◌≤◌, Bool, true, false, not, ◌&&◌, ◌||◌, T, ltb, ◌⊎◌, ℤ, sym, refl, ap, ◌∙◌, subst, inl, inr, true≢false, zero-le, le_trans, le_of_eq, lt_of_lt_of_le, lt_of_le_of_lt, lt_irrefl, mod-eq_of_lt, zero-lt-suc, mul_assoc, mul-le-mul, lt_of_mul-lt-mul_right, mul-lt-mul_of_pos_right, mul-pos, zero-mul, mul_right_comm, arith, ltb→lt, lt→ltb, pow_pos, pow_mono, pow-add}
use mathlib.Core.Bool.{false≢true}
use lib.Ieee.{Float, nan, inf, fin, binary64, up, down, round, rem, lt, neg, below, fits}
use lib.Ieee.Bits.{is_true}
use lib.Ieee.Exact.{HasValue}
use lib.Ieee.Fits.{up_pos, down_pos}
use lib.Ieee.Scale.{finite}
use Rattle.laws.specs.Arithmetic.{◌%%◌}
use Rattle.laws.specs.laws.Exact.{round_of_value}
use Rattle.laws.specs.laws.Flags.{holds, lt-or-le, is_some, is_none, none_of}
use Rattle.bits.specs.Parts.{Decoded, PartsOf}
use Rattle.bits.specs.declared.fields.Parts.{Parts}
use Rattle.remainder.specs.Remainder.{remainder_of}
use Rattle.remainder.specs.Steps.{within}
use Rattle.remainder.specs.laws.Remainder.{rem_some, remainder_at, remainder_is}

-- ---- |x| < |y| by order
or-none : (a : Bool) → (a || false) ≡ a
or-none true = refl
or-none false = refl

and_none : (a : Bool) → (a && false) ≡ false
and_none true = refl
and_none false = refl

-- where X < Y the two are no pair of zeros, so that a test for one besides says nothing new
no_more : (X Y Z : ℕ) → (X < Y → 0 < Z) → ((ltb X Y && ltb 0 Z) ≡ ltb X Y) × ((ltb 0 Z && ltb X Y) ≡ ltb X Y)
no_more X Y Z h = go (ltb X Y) (ltb→lt X Y)
  where
    go : (b : Bool) → (T b → X < Y) → ((b && ltb 0 Z) ≡ b) × ((ltb 0 Z && b) ≡ b)
    go true k = let e = is_some Z (h (k tt)) in (e, ap (λ (t : Bool). t && true) e)
    go false k = (refl, and_none (ltb 0 Z))

pub tests : (x y : Float) → (lt x y && lt (neg y) x || lt x (neg y) && lt y x) ≡ within x y
unfolding within lt neg
tests nan y = refl
tests (inf true) nan = refl
tests (inf false) nan = refl
tests (inf true) (inf true) = refl
tests (inf true) (inf false) = refl
tests (inf false) (inf true) = refl
tests (inf false) (inf false) = refl
tests (inf true) (fin true n d) = refl
tests (inf true) (fin false n d) = refl
tests (inf false) (fin t n d) = refl
tests (fin s m e) nan = refl
tests (fin s m e) (inf true) = refl
tests (fin s m e) (inf false) = refl
tests (fin s m e) (fin t n d) = go s t
  where
    X : ℕ
    X = m * up e * down d

    Y : ℕ
    Y = n * up d * down e

    behind : ((ltb X Y && ltb 0 (Y + X)) ≡ ltb X Y) × ((ltb 0 (Y + X) && ltb X Y) ≡ ltb X Y)
    behind = no_more X Y (Y + X) (λ h. (let z : 0 < Y + X = omega arith in z))

    ahead : ((ltb X Y && ltb 0 (X + Y)) ≡ ltb X Y) × ((ltb 0 (X + Y) && ltb X Y) ≡ ltb X Y)
    ahead = no_more X Y (X + Y) (λ h. (let z : 0 < X + Y = omega arith in z))

    go : (s t : Bool) → (below s X t Y && below (not t) Y s X || below s X (not t) Y && below t Y s X) ≡ ltb X Y
    go false false = or-none (ltb X Y && ltb 0 (Y + X)) ∙ behind.0
    go false true = behind.0
    go true false = ap (λ (b : Bool). ltb 0 (X + Y) && ltb X Y || b) (and_none (ltb Y X)) ∙ or-none (ltb 0 (X + Y) && ltb X Y) ∙ ahead.1
    go true true = ap (λ (b : Bool). b || ltb 0 (X + Y) && ltb X Y) (and_none (ltb Y X)) ∙ ahead.1

-- ---- where |x| < |y| the remainder is x
pub small : (x y : Float) → T (fits binary64 x) → within x y ≡ true → x ≡ x %% y
unfolding within rem
small nan y f h = absurd (false≢true h)
small (inf s) y f h = absurd (false≢true h)
small (fin s m e) nan f h = absurd (false≢true h)
small (fin s m e) (inf t) f h = refl
small (fin s m e) (fin t zero d) f h = absurd (let k = ltb→lt (m * up e * down d) (0 * up d * down e) (holds h) in let z : ⊥ = omega arith in z)
small (fin s m e) (fin t (suc n) d) f h =
    sym
    (rem_some s m e t n d
    ∙ ap (λ (a : ℕ). round binary64 s a (down e * down d)) (mod-eq_of_lt (ltb→lt (m * up e * down d) (suc n * up d * down e) (holds h)))
    ∙ round_of_value binary64 (fin s m e) s (m * up e * down d) (down e * down d) (mul-pos (down_pos e) (down_pos d)) f
    (refl, sym (mul_assoc (m * up e) (down e) (down d)) ∙ mul_right_comm (m * up e) (down e) (down d)))

-- ---- else y's exponent is no larger: by its leading digit a number of a larger exponent is the larger
shorter : (d e d' e' : ℕ) → d < 2 ^ 53 → (0 < e' → 2 ^ 52 ≤ d') → e < e' → d * 2 ^ e < d' * 2 ^ e'
shorter d e d' e' a b h =
    lt_of_lt_of_le (mul-lt-mul_of_pos_right a (pow_pos e))
    (le_trans (le_of_eq (sym (pow-add 2 53 e) ∙ ap (λ (n : ℕ). 2 ^ n) (let z : 53 + e ≡ 52 + suc e = omega arith in z) ∙ pow-add 2 52 (suc e)))
    (mul-le-mul (b (lt_of_le_of_lt zero-le h)) (pow_mono h)))

-- of two values with one denominator
within_of : (x y : Float) (s t : Bool) (a b c : ℕ) → HasValue x s a c → HasValue y t b c → a < b → within x y ≡ true
unfolding within
within_of (fin r m e) (fin u n d) s t a b c hx hy h =
    is_true (ltb (m * up e * down d) (n * up d * down e))
    (lt→ltb (m * up e * down d) (n * up d * down e)
    (lt_of_mul-lt-mul_right c
    (lt_of_le_of_lt (le_of_eq (mul_right_comm (m * up e) (down d) c ∙ ap (λ (k : ℕ). k * down d) hx.1 ∙ mul_assoc a (down e) (down d)))
    (lt_of_lt_of_le (mul-lt-mul_of_pos_right h (mul-pos (down_pos e) (down_pos d)))
    (le_of_eq (sym (mul_right_comm (n * up d) (down e) c ∙ ap (λ (k : ℕ). k * down e) hy.1 ∙ mul_right_comm b (down d) (down e) ∙ mul_assoc b (down e) (down d))))))))
within_of nan y s t a b c hx hy h = elim hx [ ]
within_of (inf _) y s t a b c hx hy h = elim hx [ ]
within_of (fin r m e) nan s t a b c hx hy h = elim hy [ ]
within_of (fin r m e) (inf _) s t a b c hx hy h = elim hy [ ]

no_longer : (x y : Float) (s t : Bool) (d e d' e' : ℕ) → Decoded x s d e → Decoded y t d' e' → within x y ≡ false → e' ≤ e
no_longer x y s t d e d' e' p q h = go (lt-or-le e e')
  where
    go : (e < e') ⊎ (e' ≤ e) → e' ≤ e
    go (inl l) = absurd (true≢false (sym (within_of x y s t (d * 2 ^ e) (d' * 2 ^ e') (2 ^ 1074) p.value q.value (shorter d e d' e' p.digits q.lead l)) ∙ h))
    go (inr l) = l

-- ---- and where x or y is no number for it, NaN
no_digits_lem : (n : ℕ) (j : ℤ) (u t : Bool) (d e : ℕ) → ltb 0 d ≡ false → HasValue (fin u (suc n) j) t (d * 2 ^ e) (2 ^ 1074) → ⊥
no_digits_lem n j u t d e z h =
    lt_irrefl 0
    (subst (λ (k : ℕ). 0 < k) (h.1 ∙ ap (λ (k : ℕ). k * 2 ^ e * down j) (none_of d z) ∙ ap (λ (k : ℕ). k * down j) (zero-mul (2 ^ e)) ∙ zero-mul (down j))
    (mul-pos (mul-pos (zero-lt-suc n) (up_pos j)) (pow_pos 1074)))

neither : (x y : Float) (t : Bool) (d e : ℕ) → (finite y ≡ true → Decoded y t d e) → within x y ≡ false → (finite x && finite y && ltb 0 d) ≡ false → nan ≡ remainder_of x y
unfolding within remainder_of
neither nan y t d e q w h = refl
neither (inf s) y t d e q w h = refl
neither (fin s m i) nan t d e q w h = refl
neither (fin s m i) (inf u) t d e q w h = absurd (true≢false w)
neither (fin s m i) (fin u zero j) t d e q w h = refl
neither (fin s m i) (fin u (suc n) j) t d e q w h = absurd (no_digits_lem n j u t d e h (q refl).value)

-- ---- by the parts of x and y, where |x| is not below |y|
module _ (x y : Float) (a b : Parts) (p : PartsOf x true a.negative a.digits a.exponent) (q : PartsOf y true b.negative b.digits b.exponent) where
  x_parts : Decoded x a.negative a.digits a.exponent
  x_parts = p.decoded (sym p.kind)

  y_parts : Decoded y b.negative b.digits b.exponent
  y_parts = q.decoded (sym q.kind)

  pub exponents : within x y ≡ false → b.exponent ≤ a.exponent
  exponents = no_longer x y a.negative b.negative a.digits a.exponent b.digits b.exponent x_parts y_parts

  pub by_digits : 0 < b.digits → round binary64 a.negative (a.digits * 2 ^ a.exponent % (b.digits * 2 ^ b.exponent)) (2 ^ 1074) ≡ remainder_of x y
  by_digits h = sym (remainder_at x y a.negative b.negative (a.digits * 2 ^ a.exponent) (b.digits * 2 ^ b.exponent) (mul-pos h (pow_pos b.exponent)) x_parts.value y_parts.value)

-- NaN where one of them is not finite, or y has no digits
pub no-x : (x y : Float) → PartsOf x false false 0 0 → nan ≡ remainder_of x y
unfolding remainder_of
no-x nan y p = refl
no-x (inf s) y p = refl
no-x (fin s m e) y p = absurd (false≢true p.kind)

pub no-y : (x y : Float) → PartsOf y false false 0 0 → within x y ≡ false → nan ≡ remainder_of x y
no-y x y q w = neither x y false 0 0 q.decoded w (and_none (finite x && finite y))

pub no_digits : (x y : Float) (t : Bool) (d e : ℕ) → PartsOf y true t d e → d ≤ 0 → within x y ≡ false → nan ≡ remainder_of x y
no_digits x y t d e q h w = neither x y t d e q.decoded w (ap (λ (b : Bool). finite x && finite y && b) (is_none d h) ∙ and_none (finite x && finite y))

-- ---- lib.Ieee's remainder besides
pub and_ours : (x y r : Float) → T (fits binary64 x) → T (fits binary64 y) → r ≡ x %% y → (r ≡ remainder_of x y) × (r ≡ x %% y)
and_ours x y r a b h = (h ∙ sym (remainder_is x y a b), h)

pub and_theirs : (x y r : Float) → T (fits binary64 x) → T (fits binary64 y) → r ≡ remainder_of x y → (r ≡ remainder_of x y) × (r ≡ x %% y)
and_theirs x y r a b h = (h, h ∙ remainder_is x y a b)
