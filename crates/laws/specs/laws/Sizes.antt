-- Bounds by powers of two, which go through every operation: rounding keeps the order, and a power of two is an f64. Numbers are counted in units of 2 ^ -1074, so that 1 is 2 ^ 1074 of them. Assumes nothing.
use Rattle.std.specs.Prelude.{◌≡◌, ◌⊎◌, Bool, true, false, not, ◌&&◌, ◌||◌, ℕ, ◌*◌, ◌^◌, ◌≤◌, ◌<◌, Float}
use Rattle.std.proofs.Common.{sym, ap, ◌∙◌, subst, inl, inr, true≢false, le_trans, le_of_eq, le_of_lt, lt_of_le_of_lt, one-mul, mul-le-mul_right, le_of_mul-le-mul_right, arith, pow_pos}
use lib.Dec.{T, ltb, leb, eqb, ltb→lt, nltb→le, leb→le, eqb→eq, lit<}
use Rattle.std.proofs.Math.Pow.{pow-lt}
use Rattle.std.specs.Float.{nan, inf, fin, binary64}
use Rattle.std.specs.Float.Ieee.{up, down, round, le}
use Rattle.std.specs.Float.Ieee.Fits.{down_pos, and_l, round_is}
use Rattle.std.specs.Float.Ieee.Exact.{HasValue, round_exact}
use Rattle.std.specs.Float.Ieee.Order.{transfer, round_mono, le_of_values, drop, kept}
use Rattle.std.specs.Float.Ieee.Scale.{grid, overflow, finite, round_under}
use Rattle.laws.specs.laws.Rounding.{round-value, units_over}

-- ---- the units of a value
cancel : (a b d : ℕ) → 0 < d → a * d ≡ b * d → a ≡ b
cancel a b d h e = antisym (le_of_mul-le-mul_right (le_of_eq e) h) (le_of_mul-le-mul_right (le_of_eq (sym e)) h)
  where
    antisym : a ≤ b → b ≤ a → a ≡ b
    antisym p q = omega arith

pub units-same : (x : Float) (s t : Bool) (a b c : ℕ) → HasValue x s a c → HasValue x t b c → a ≡ b
units-same nan s t a b c h k = absurd h
units-same (inf u) s t a b c h k = absurd h
units-same (fin u m e) s t a b c h k = cancel a b (down e) (down_pos e) (sym h.1 ∙ k.1)

-- ---- the order of values that are not negative
or_split : (a b : Bool) → T (a || b) → T a ⊎ T b
or_split true b t = inl tt
or_split false b t = inr t

lt-or-eq : (a b : ℕ) → T (ltb a b || (eqb a b && true)) → a ≤ b
lt-or-eq a b t = elim (or_split (ltb a b) (eqb a b && true) t) [ inl u ↦ le_of_lt (ltb→lt a b u) | inr u ↦ le_of_eq (eqb→eq a b (and_l (eqb a b) true u)) ]

pub le_cross : (x y : Float) (a c b d : ℕ) → HasValue x false a c → HasValue y false b d → T (le x y) → a * d ≤ b * c
unfolding le
le_cross nan y a c b d h k t = absurd h
le_cross (inf s) y a c b d h k t = absurd h
le_cross (fin true m e) y a c b d h k t = absurd (true≢false h.0)
le_cross (fin false m e) nan a c b d h k t = absurd k
le_cross (fin false m e) (inf s) a c b d h k t = absurd k
le_cross (fin false m e) (fin true n g) a c b d h k t = absurd (true≢false k.0)
le_cross (fin false m e) (fin false n g) a c b d h k t =
    transfer a b c d (m * up e) (n * up g) (down e) (down g) (down_pos e) (down_pos g) (sym h.1) (sym k.1) (lt-or-eq (m * up e * down g) (n * up g * down e) t)

pub units-le : (x y : Float) (a b c : ℕ) → 0 < c → HasValue x false a c → HasValue y false b c → T (le x y) → a ≤ b
units-le x y a b c C h k t = le_of_mul-le-mul_right (le_cross x y a c b c h k t) C

pub units_lt : (x y : Float) (a b c : ℕ) → 0 < c → HasValue x false a c → HasValue y false b c → T (not (le x y)) → b < a
units_lt x y a b c C h k n = go (leb a b) (leb→le a b) (lib.Dec.nleb→lt a b)
  where
    go : (t : Bool) → (T t → a ≤ b) → (T (not t) → b < a) → b < a
    go true p q = absurd (lib.Dec.T_not (le x y) n (le_of_values x y a c b c C C h k (mul-le-mul_right c (p tt))))
    go false p q = q tt

-- ---- what a fraction rounds to, in units
no_more : (y : Float) (b c : ℕ) → HasValue y false b c → T (le (inf false) y) → ⊥
unfolding le
no_more nan b c h t = h
no_more (inf s) b c h t = h
no_more (fin s m e) b c h t = t

pub grid_mono : (a c b d : ℕ) → 0 < c → 0 < d → a * d ≤ b * c → grid binary64 b d < overflow binary64 → grid binary64 a c ≤ grid binary64 b d
grid_mono a c b d C D h o = go (ltb (grid binary64 a c) (overflow binary64)) (ltb→lt (grid binary64 a c) (overflow binary64)) (nltb→le (grid binary64 a c) (overflow binary64))
  where
    t : T (le (round binary64 false a c) (round binary64 false b d))
    t = round_mono binary64 a c b d C D h

    v : HasValue (round binary64 false b d) false (grid binary64 b d) (2 ^ 1074)
    v = round-value binary64 false b d o

    go : (x : Bool) → (T x → grid binary64 a c < overflow binary64) → (T (not x) → overflow binary64 ≤ grid binary64 a c) → grid binary64 a c ≤ grid binary64 b d
    go true p q = units-le (round binary64 false a c) (round binary64 false b d) (grid binary64 a c) (grid binary64 b d) (2 ^ 1074) (pow_pos 1074) (round-value binary64 false a c (p tt)) v t
    go false p q =
        absurd (no_more (round binary64 false b d) (grid binary64 b d) (2 ^ 1074) v
        (subst (λ (z : Float). T (le z (round binary64 false b d))) (round_is binary64 false a c ∙ units_over binary64 false (kept 53 (a * 2 ^ 1074) c) (drop 53 (a * 2 ^ 1074) c) (q tt)) t))

pub finite_of_lem : (x : Float) (s : Bool) (a c : ℕ) → HasValue x s a c → T (finite x)
finite_of_lem nan s a c h = absurd h
finite_of_lem (inf t) s a c h = absurd h
finite_of_lem (fin t m e) s a c h = tt

exact_power : (j : ℕ) → j < 2098 → HasValue (round binary64 false (2 ^ j) (2 ^ 1074)) false (2 ^ j) (2 ^ 1074)
exact_power j h = round_exact binary64 false (2 ^ j) (2 ^ 1074) 1 j (pow_pos 1074) (lit< tt) (subst (λ (z : ℕ). z < 2 ^ 2098) (sym (one-mul (2 ^ j))) (pow-lt h)) (ap (λ (z : ℕ). z * 2 ^ 1074) (sym (one-mul (2 ^ j))))

under_power : (j : ℕ) → j < 2098 → grid binary64 (2 ^ j) (2 ^ 1074) < overflow binary64
under_power j h = round_under binary64 (2 ^ j) (2 ^ 1074) (finite_of_lem (round binary64 false (2 ^ j) (2 ^ 1074)) false (2 ^ j) (2 ^ 1074) (exact_power j h))

grid_power : (j : ℕ) → j < 2098 → grid binary64 (2 ^ j) (2 ^ 1074) ≡ 2 ^ j
grid_power j h = units-same (round binary64 false (2 ^ j) (2 ^ 1074)) false false (grid binary64 (2 ^ j) (2 ^ 1074)) (2 ^ j) (2 ^ 1074) (round-value binary64 false (2 ^ j) (2 ^ 1074) (under_power j h)) (exact_power j h)

pub grid_most : (a c j : ℕ) → 0 < c → j < 2098 → a * 2 ^ 1074 ≤ 2 ^ j * c → grid binary64 a c ≤ 2 ^ j
grid_most a c j C J h = le_trans (grid_mono a c (2 ^ j) (2 ^ 1074) C (pow_pos 1074) h (under_power j J)) (le_of_eq (grid_power j J))

pub grid_least : (a c j : ℕ) → 0 < c → j < 2098 → 2 ^ j * c ≤ a * 2 ^ 1074 → grid binary64 a c < overflow binary64 → 2 ^ j ≤ grid binary64 a c
grid_least a c j C J h o = le_trans (le_of_eq (sym (grid_power j J))) (grid_mono (2 ^ j) (2 ^ 1074) a c (pow_pos 1074) C h o)

pub below_overflow : (g j : ℕ) → g ≤ 2 ^ j → j < 2098 → g < overflow binary64
below_overflow g j h J = lt_of_le_of_lt h (pow-lt J)
