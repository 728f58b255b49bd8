-- The remainder by π/2, and what is left of π/2, is at most 4 in size, so that there is an answer for the sine and cosine of a reduced angle; so is |φ| < π/2. Assumes nothing.
use Rattle.std.specs.Prelude.{◌≡◌, refl, ℕ, suc, ◌*◌, ◌%◌, ◌^◌, ◌≤◌, ◌<◌, Bool, true, false, cond, ◌&&◌, ◌||◌, ◌⊎◌, ℤ, pos, negsuc, T, ltb, eqb, Float}
use Rattle.std.proofs.Common.{sym, ap, subst, mul-pos, mul-le-mul_right, mod-lt, arith, true≢false, inl, inr, eq-eqb, lt-ltb, le-ltb, lit≤, lit<, pow_pos}
use Rattle.std.specs.Float.{nan, inf, fin, binary64}
use Rattle.std.specs.Float.Ieee.{up, down, rem, of_bits, le, lt, eq}
use Rattle.std.specs.Float.Ieee.Fits.{down_pos}
use Rattle.std.specs.Float.Ieee.Order.{le_of_values}
use Rattle.std.specs.Float.Ieee.Scale.{finite}
use Rattle.laws.specs.Arithmetic.{◌⊖◌, ◌⊘◌, ◌%%◌, ◌<·◌, ◌≤·◌, ◌=·◌, ◌≠·◌, π/2, ½, 2·0, 4·0}
use Rattle.laws.specs.laws.Flags.{lt-or-le}
use Rattle.laws.specs.laws.Kinds.{not-nan}
use Rattle.laws.specs.laws.Rounding.{Near}
use Rattle.whole.specs.Whole.{magnitude_of, round_of}
use Rattle.answer.specs.Answer.{refusal_of}
use Rattle.angle.specs.Sine.{sine_of}
use Rattle.angle.specs.Cosine.{cosine_of}
use Rattle.identities.specs.laws.SineAnswered.{sine_answers, cosine_answers}
use Rattle.incomplete.specs.declared.Fold.{Fold}
use Rattle.incomplete.specs.Period.{folded_of}
use Rattle.whole.specs.laws.Magnitude.{magnitude_value}
use Rattle.identities.specs.laws.Magnitude.{magnitude_fin, within, at-most_finite, at_most_size}
use Rattle.identities.specs.laws.Cuts.{U, InReach, small_round, left_of, left_small}

-- the f64 π is P / 2 ^ 48, π/2 is P / 2 ^ 49
abbrev pub P : ℕ
P = 884279719003555

pub small_le : (x : Float) (s : Bool) → InReach x s → T (magnitude_of x ≤· 4·0)
unfolding of_bits
small_le x s v = le_of_values (magnitude_of x) 4·0 v.g U 4 1 (pow_pos 1074) (lit< tt) (magnitude_value x s v.g U v.value) (refl, refl) (loose v.g U v.most)
  where
    loose : (g u : ℕ) → g ≤ 4 * u → g * 1 ≤ 4 * u
    loose g u h = omega arith

-- ---- remainders by P / 2 ^ (k + 1)
pub rest_small : (m : ℕ) (e : ℤ) (k : ℕ) → 2 * P ≤ 7 * 2 ^ suc k → InReach (rem binary64 (fin false m e) (fin false P (negsuc k))) false
unfolding rem
rest_small m e k h =
    small_round false (m * up e * 2 ^ suc k % (P * 1 * down e)) (down e * 2 ^ suc k) (mul-pos (down_pos e) (pow_pos (suc k)))
    (go (m * up e * 2 ^ suc k % (P * 1 * down e)) P (down e) (2 ^ suc k) h (mod-lt (m * up e * 2 ^ suc k) (mul-pos (lit< tt) (down_pos e))))
  where
    go : (r p c q : ℕ) → 2 * p ≤ 7 * q → r < p * 1 * c → 2 * r ≤ 7 * (c * q)
    go r p c q h l = let m : 2 * p * c ≤ 7 * q * c = mul-le-mul_right c h in omega (arith, m, l)

-- what is left of π/2
from_half-pi : (y : Float) → InReach y false → T (magnitude_of (π/2 ⊖ y) ≤· 4·0)
unfolding of_bits
from_half-pi y v =
    let l = left_of P (negsuc 48) y v.g v.value (near v.g U v.most) in
    small_le _ l.s (left_small _ l)
  where
    near : (g u : ℕ) → g ≤ 4 * u → Near (2 * g * 562949953421312) (2 * (P * 1) * u) (5 * u * 562949953421312)
    near g u h = (omega arith, omega arith)

-- ---- the reduced angle
either : (b : Bool) (f g : Fold) → T (magnitude_of f.angle ≤· 4·0) → T (magnitude_of g.angle ≤· 4·0) → T (magnitude_of (cond b f g).angle ≤· 4·0)
either true f g h k = h
either false f g h k = k

folded_small : (m : ℕ) (e : ℤ) → T (magnitude_of (folded_of (fin false m e)).angle ≤· 4·0)
unfolding folded_of of_bits
folded_small m e =
    let rest = fin false m e %% π/2 in
    let v : InReach rest false = rest_small m e 48 (lit≤ tt) in
    either (½ <· round_of ((fin false m e ⊖ rest) ⊘ π/2) %% 2·0) _ _ (from_half-pi rest v) (small_le rest false v)

pub folded_reach : (φ : Float) → T (finite φ) → T (magnitude_of (folded_of (magnitude_of φ)).angle ≤· 4·0)
folded_reach (fin s m e) h = subst (λ (a : Float). T (magnitude_of (folded_of a).angle ≤· 4·0)) (sym (magnitude_fin s m e)) (folded_small m e)
folded_reach nan h = elim h [ ]
folded_reach (inf _) h = elim h [ ]

-- ---- |φ| < π/2
strict : (a b : ℕ) → (ltb a b || (eqb a b && (true || eqb a 0))) ≡ false → b < a
strict a b h = go (lt-or-le b a)
  where
    least : a ≤ b → (a < b) ⊎ (b ≤ a) → ⊥
    least k (inl l) = true≢false (rw (lt-ltb a b l) at h)
    least k (inr l) = true≢false (rw (le-ltb a b l, eq-eqb a b (let e : a ≡ b = omega arith in e)) at h)

    go : (b < a) ⊎ (a ≤ b) → b < a
    go (inl l) = l
    go (inr k) = absurd (least k (lt-or-le a b))

pub quarter : (m : ℕ) (e : ℤ) → (π/2 ≤· fin false m e) ≡ false → m * up e * 562949953421312 < P * 1 * down e
unfolding le lt eq of_bits
quarter m e h = strict (P * 1 * down e) (m * up e * 562949953421312) h

pub quarter_small : (m : ℕ) (e : ℤ) → (π/2 ≤· fin false m e) ≡ false → T (fin false m e ≤· 4·0)
unfolding of_bits
quarter_small m e h = le_of_values (fin false m e) 4·0 (m * up e) (down e) 4 1 (down_pos e) (lit< tt) (refl, refl) (refl, refl) (loose (m * up e) (down e) (quarter m e h))
  where
    loose : (a c : ℕ) → a * 562949953421312 < P * 1 * c → a * 1 ≤ 4 * c
    loose a c h = omega arith

not-below : (x y : Float) → (x ≤· y) ≡ false → (x <· y) ≡ false
unfolding le
not-below x y h = first (x <· y) (x =· y) h
  where
    first : (a b : Bool) → (a || b) ≡ false → a ≡ false
    first false b e = refl
    first true b e = e

pub quarter_finite : (φ : Float) → (φ ≠· φ) ≡ false → (π/2 ≤· magnitude_of φ) ≡ false → T (finite φ)
unfolding of_bits
quarter_finite φ k h = within φ P (negsuc 48) (not-nan φ k) (not-below π/2 (magnitude_of φ) h)

-- ---- as `angle` tests it, in whole numbers: |x| is a fraction of at most 4
pub in_reach : (x : Float) → T (magnitude_of x ≤· 4·0) → T (finite x)
unfolding of_bits
in_reach x h = at-most_finite x 1 (pos 2) h

pub in_reach-size : (s : Bool) (m : ℕ) (e : ℤ) → T (magnitude_of (fin s m e) ≤· 4·0) → m * up e ≤ 4 * down e
unfolding of_bits
in_reach-size s m e h = let l = at_most_size s m e 1 (pos 2) h in plain (m * up e) (down e) l
  where
    plain : (a c : ℕ) → a * 1 ≤ 1 * 4 * c → a ≤ 4 * c
    plain a c h = omega arith

-- so there is an answer: refusal 12 does not arise inside
pub asked : (x : Float) → T (magnitude_of x ≤· 4·0) → (refusal_of (sine_of x) ≡ 0) × (refusal_of (cosine_of x) ≡ 0)
unfolding refusal_of
asked nan h = absurd (in_reach nan h)
asked (inf s) h = absurd (in_reach (inf s) h)
asked (fin s m e) h =
    let l = in_reach-size s m e h in
    (ap refusal_of (sine_answers s m e l), ap refusal_of (cosine_answers s m e l))
