-- What the whole-number functions mean, for a value ±a / c: `trunc` toward zero; `floor` the largest not above; `round` one with none nearer, and a half away from zero. A zero keeps the value's sign. Assumes nothing.
use Rattle.std.specs.Prelude.{◌≡◌, refl, ◌⊎◌, Bool, true, false, cond, ℕ, zero, suc, ◌+◌, ◌-◌, ◌*◌, ◌/◌, ◌%◌, ◌^◌, ◌≤◌, ◌<◌, T, ltb, ℤ, pos, negsuc, Float}
use Rattle.std.proofs.Common.{sym, ap, ◌∙◌, subst, inl, inr, eq-or-lt_of_le, le-div_iff_mul-le, mul-div_cancel, add-mul, le_trans, le_of_eq, lt_of_lt_of_le, lt_of_le_of_lt, mul-one, mul-pos, mul_comm, mul_right_comm, mul-le-mul_left, mul-le-mul_right, mul-lt-mul_of_pos_right, div-add-mod', mod-lt, lt_of_mul-lt-mul_right, arith, lit<, lit≤, pow-add, pow_pos, pow_mono}
use Rattle.std.specs.Float.{nan, inf, fin, binary64}
use Rattle.std.specs.Float.Ieee.{up, down, round, fits}
use Rattle.std.specs.Float.Ieee.Exact.{HasValue, round_exact}
use Rattle.std.specs.Float.Ieee.Fits.{down_pos}
use Rattle.laws.specs.laws.Exact.{round_self}
use Rattle.laws.specs.laws.Flags.{lt-or-le, some_of, none_of}
use Rattle.whole.specs.Whole.{round_of, half_up}
use Rattle.whole.specs.laws.Wholes.{digits_lt, fraction}
use Rattle.whole.specs.laws.Meaning.{round_picks}
use Rattle.floor.specs.Floor.{trunc_of, floor_of, ceiling}
use Rattle.floor.specs.laws.Picking.{trunc_picks, floor_picks}

-- ---- the whole numbers themselves
pub below : (a c : ℕ) → 0 < c → (a / c * c ≤ a) × (a < (a / c + 1) * c)
below a c C = go (a / c) (a % c) (div-add-mod' a c) (mod-lt a C)
  where
    go : (q r : ℕ) → q * c + r ≡ a → r < c → (q * c ≤ a) × (a < (q + 1) * c)
    go q r e l = (omega arith, omega arith)

pub ceiling_is : (a c : ℕ) → 0 < c → (a ≤ ceiling a c * c) × (ceiling a c * c < a + c)
unfolding ceiling
ceiling_is a c C = go (a / c) (a % c) (ltb 0 (a % c)) (div-add-mod' a c) (mod-lt a C) refl
  where
    go : (q r : ℕ) (b : Bool) → q * c + r ≡ a → r < c → ltb 0 r ≡ b → (a ≤ (q + cond b 1 0) * c) × ((q + cond b 1 0) * c < a + c)
    go q r true e l z = let p = some_of r z in (omega arith, omega arith)
    go q r false e l z = let p = none_of r z in (omega arith, omega arith)

-- twice the distance to a / c is at most 1, and below 1 from above
pub half_is : (a c : ℕ) → 0 < c → (2 * (half_up a c * c) ≤ 2 * a + c) × (2 * a < 2 * (half_up a c * c) + c)
unfolding half_up
half_is a c C = let h = below (2 * a + c) (2 * c) (mul-pos (lit< tt) C) in go ((2 * a + c) / (2 * c)) h.0 h.1
  where
    go : (n : ℕ) → n * (2 * c) ≤ 2 * a + c → 2 * a + c < (n + 1) * (2 * c) → (2 * (n * c) ≤ 2 * a + c) × (2 * a < 2 * (n * c) + c)
    go n x y = (omega arith, omega arith)

-- no whole number below a / c is larger, none above is smaller than the ceiling
pub below-largest : (a c n : ℕ) → 0 < c → n * c ≤ a → n ≤ a / c
below-largest a c n C h = (le-div_iff_mul-le C).1 h

pub ceiling-least : (a c n : ℕ) → 0 < c → a ≤ n * c → ceiling a c ≤ n
ceiling-least a c n C h = within (ceiling a c) n (lt_of_mul-lt-mul_right c (lt_of_lt_of_le (ceiling_is a c C).1 (one_more_lem a n c h)))
  where
    one_more_lem : (a n c : ℕ) → a ≤ n * c → a + c ≤ (n + 1) * c
    one_more_lem a n c h = omega arith

    within : (x n : ℕ) → x < n + 1 → x ≤ n
    within x n l = omega arith

-- none is nearer than `half_up`, and a half goes up, which is away from zero
abbrev pub apart : ℕ → ℕ → ℕ
apart x y = (x - y) + (y - x)

pub none_nearer : (a c n : ℕ) → 0 < c → apart (half_up a c * c) a ≤ apart (n * c) a
none_nearer a c n C = go (lt-or-le n (half_up a c))
  where
    h : (2 * (half_up a c * c) ≤ 2 * a + c) × (2 * a < 2 * (half_up a c * c) + c)
    h = half_is a c C

    less : (N H a c : ℕ) → N + c ≤ H → 2 * H ≤ 2 * a + c → apart H a ≤ apart N a
    less N H a c m x = omega arith

    more : (N H a c : ℕ) → H + c ≤ N → 2 * a < 2 * H + c → apart H a ≤ apart N a
    more N H a c m x = omega arith

    step : (n m c : ℕ) → n < m → n * c + c ≤ m * c
    step n m c l = let z : suc n * c ≤ m * c = mul-le-mul_right c l in omega arith

    go : (n < half_up a c) ⊎ (half_up a c ≤ n) → apart (half_up a c * c) a ≤ apart (n * c) a
    go (inl l) = less (n * c) (half_up a c * c) a c (step n (half_up a c) c l) h.0
    go (inr l) = split (eq-or-lt_of_le l)
      where
        split : (half_up a c ≡ n) ⊎ (half_up a c < n) → apart (half_up a c * c) a ≤ apart (n * c) a
        split (inl e) = le_of_eq (ap (λ (x : ℕ). apart (x * c) a) e)
        split (inr g) = more (n * c) (half_up a c * c) a c (step (half_up a c) n c g) h.1

pub half_away : (a c n : ℕ) → 0 < c → 2 * a ≡ 2 * (n * c) + c → half_up a c ≡ n + 1
unfolding half_up
half_away a c n C e = ap (λ (x : ℕ). x / (2 * c)) (ap (λ (x : ℕ). x + c) e ∙ twice n c) ∙ mul-div_cancel (n + 1) (mul-pos (lit< tt) C)
  where
    twice : (n c : ℕ) → 2 * (n * c) + c + c ≡ (n + 1) * (2 * c)
    twice n c = omega arith

-- ---- a whole number within one of a value that fits is an f64 itself: the value has at most 53 digits, and a fraction takes one of them at least
exact : (s : Bool) (n : ℕ) → n < 2 ^ 53 → HasValue (round binary64 s n 1) s n 1
exact s n h = round_exact binary64 s n 1 n 1074 (lit< tt) h (lt_of_lt_of_le (mul-lt-mul_of_pos_right h (pow_pos 1074)) (le_trans (le_of_eq (sym (pow-add 2 53 1074))) (pow_mono {i = 53 + 1074} {j = 1074 + 1024} (lit≤ tt)))) (sym (mul-one (n * 2 ^ 1074)))

near : (s : Bool) (m : ℕ) (e : ℤ) (n : ℕ) → T (fits binary64 (fin s m e)) → n * down e < m * up e + down e → m * up e < n * down e + down e → HasValue (round binary64 s n 1) s n 1
near s m (pos k) n h a b =
    let q : n ≡ m * 2 ^ k = omega arith in
    subst (λ (z : Float). HasValue z s n 1) (sym (ap (λ (z : ℕ). round binary64 s z 1) q ∙ round_self binary64 s m (pos k) h)) (refl, ap (λ (z : ℕ). z * 1) (sym q))
near s m (negsuc k) n h a b =
    let p : 2 ^ 1 ≤ 2 ^ suc k = pow_mono (let z : 1 ≤ suc k = omega arith in z) in
    let q : n * 2 ≤ n * 2 ^ suc k = mul-le-mul_left n p in
    exact s n (small n m (2 ^ suc k) (digits_lt s m (negsuc k) h) a p)
  where
    small : (n m c : ℕ) → m < 2 ^ 53 → n * c < m * 1 + c → 2 ≤ c → n < 2 ^ 53
    small zero m c a b d = pow_pos 53
    small (suc n) m c a b d = let x : n * 2 ≤ n * c = mul-le-mul_left n d in omega arith

-- so from a whole number within one to the value of what it rounds to, for any fraction a / c
whole-value : (x : Float) (s : Bool) (a c n : ℕ) → 0 < c → T (fits binary64 x) → HasValue x s a c → n * c < a + c → a < n * c + c → HasValue (round binary64 s n 1) s n 1
whole-value nan s a c n C f h p q = absurd h
whole-value (inf t) s a c n C f h p q = absurd h
whole-value (fin t m e) s a c n C f h p q = subst (λ (s : Bool). HasValue (round binary64 s n 1) s n 1) h.0 (near t m e n f (above h.1) (under h.1))
  where
    above : m * up e * c ≡ a * down e → n * down e < m * up e + down e
    above r =
        lt_of_mul-lt-mul_right c
        (lt_of_le_of_lt (le_of_eq (mul_right_comm n (down e) c))
        (lt_of_lt_of_le (mul-lt-mul_of_pos_right p (down_pos e)) (le_of_eq (add-mul a c (down e) ∙ (λ i. sym r i + mul_comm c (down e) i) ∙ sym (add-mul (m * up e) (down e) c)))))

    under : m * up e * c ≡ a * down e → m * up e < n * down e + down e
    under r =
        lt_of_mul-lt-mul_right c
        (lt_of_le_of_lt (le_of_eq r)
        (lt_of_lt_of_le (mul-lt-mul_of_pos_right q (down_pos e)) (le_of_eq (add-mul (n * c) c (down e) ∙ (λ i. mul_right_comm n c (down e) i + mul_comm c (down e) i) ∙ sym (add-mul (n * down e) (down e) c)))))

-- ---- in words
module _ (x : Float) (s : Bool) (a c : ℕ) (C : 0 < c) (f : T (fits binary64 x)) (h : HasValue x s a c) where
  pub trunc_value : HasValue (trunc_of x) s (a / c) 1
  trunc_value =
      let b = below a c C in
      subst (λ (z : Float). HasValue z s (a / c) 1) (sym (fraction trunc_of _ trunc_picks x s a c C h))
      (whole-value x s a c (a / c) C f h (let z : a / c * c < a + c = omega (arith, b.0) in z) (let z : a < a / c * c + c = omega (arith, b.1) in z))

  pub floor_value : HasValue (floor_of x) s (cond s (ceiling a c) (a / c)) 1
  floor_value = subst (λ (z : Float). HasValue z s (cond s (ceiling a c) (a / c)) 1) (sym (fraction floor_of _ floor_picks x s a c C h)) (go s refl)
    where
      go : (t : Bool) → s ≡ t → HasValue (round binary64 s (cond t (ceiling a c) (a / c)) 1) s (cond t (ceiling a c) (a / c)) 1
      go true e = let b = ceiling_is a c C in whole-value x s a c (ceiling a c) C f h b.1 (let z : a < ceiling a c * c + c = omega (arith, b.0) in z)
      go false e = let b = below a c C in whole-value x s a c (a / c) C f h (let z : a / c * c < a + c = omega (arith, b.0) in z) (let z : a < a / c * c + c = omega (arith, b.1) in z)

  pub round-value : HasValue (round_of x) s (half_up a c) 1
  round-value =
      let b = half_is a c C in
      subst (λ (z : Float). HasValue z s (half_up a c) 1) (sym (fraction round_of _ round_picks x s a c C h))
      (whole-value x s a c (half_up a c) C f h (let z : half_up a c * c < a + c = omega (arith, b.0) in z) (let z : a < half_up a c * c + c = omega (arith, b.1) in z))
