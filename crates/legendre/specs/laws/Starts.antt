-- Where the mean starts: √(1-m) for 0 ≤ m < 1, and for m < 0 the numbers c = √(1-m), 1/c and m/(m-1). Assumes nothing.
use Rattle.std.specs.Prelude.{◌≡◌, Bool, not, cond, ◌&&◌, ℕ, zero, suc, ◌+◌, ◌-◌, ◌*◌, ◌%◌, ◌^◌, ◌≤◌, ◌<◌, ℤ, pos, negsuc, T, ltb, leb, eqb, Float}
use Rattle.std.proofs.Math.Path.{refl, ap, subst}
use Rattle.std.proofs.Common.{sym, ◌∙◌, true≢false, le_of_eq, lt_of_lt_of_le, lt_of_mul-lt-mul_right, not-le_of_lt, mul-one, zero-mul, mul_assoc, mul-pos, mul-le-mul, mul-le-mul_left, add_comm, ltb→lt, leb→le, lit≤, pow_pos, pow_mono}
use Rattle.std.proofs.Math.Bool.{true, false}
use Rattle.std.proofs.Math.Nat.{le_trans, le_of_lt, lt_of_le_of_lt, mul-le-mul_right}
use native.Mathlib.Omega.{arith}
use Rattle.std.proofs.Math.Dec.{nleb→lt, lit<}
use Rattle.std.specs.Float.{nan, inf, fin}
use Rattle.std.specs.Float.Ieee.{binary64, up, down, fits, round, sum, size}
use Rattle.std.specs.Float.Ieee.Exact.{HasValue}
use Rattle.std.specs.Float.Ieee.Fits.{down_pos, and_l, and_r}
use Rattle.std.specs.Float.Ieee.Scale.{grid, overflow}
use Rattle.laws.specs.Arithmetic.{◌⊖◌, ◌⊘◌, ◌≤·◌, dec, 1·0}
use Rattle.laws.specs.laws.Exact.{round_of_value}
use Rattle.laws.specs.laws.Flags.{fails}
use Rattle.laws.specs.laws.Rounding.{round-value}
use Rattle.root.specs.Root.{root_of}
use Rattle.legendre.specs.laws.Beneath.{pow_split, within_root}
use Rattle.legendre.specs.laws.Places.{Negative, Unit}
use Rattle.laws.specs.laws.Operations.{sub_is, div_is}
use Rattle.laws.specs.laws.Sizes.{units-same, units_lt, grid_mono, grid_most, grid_least, below_overflow}
use Rattle.laws.specs.laws.Bounds.{Within, looser, within-round, within-div}
use Rattle.legendre.specs.laws.Rounds.{one, one_value}

-- ---- 1 - m for 0 ≤ m < 1
minus : (b : ℕ) → b < 2 ^ 1074 → sum binary64 false (2 ^ 1074) true b (2 ^ 1074) ≡ round binary64 false (2 ^ 1074 - b) (2 ^ 1074)
unfolding sum
minus b h = go (ltb (2 ^ 1074) b) (ltb→lt (2 ^ 1074) b)
  where
    go : (t : Bool) → (T t → 2 ^ 1074 < b) → cond t (round binary64 true (b - 2 ^ 1074) (2 ^ 1074)) (round binary64 false (2 ^ 1074 - b) (2 ^ 1074)) ≡ round binary64 false (2 ^ 1074 - b) (2 ^ 1074)
    go true p = absurd (not-le_of_lt (p tt) (le_of_lt h))
    go false p = refl

plus : (a b : ℕ) → sum binary64 false a false b (2 ^ 1074) ≡ round binary64 false (a + b) (2 ^ 1074)
unfolding sum
plus a b = refl

left : (m : Float) (s : Bool) (b : ℕ) → HasValue m s b (2 ^ 1074) → b < 2 ^ 1074 → (s ≡ true → b ≡ 0) → 1·0 ⊖ m ≡ round binary64 false (2 ^ 1074 - b) (2 ^ 1074)
left m false b v l z = sub_is binary64 1·0 m false false (2 ^ 1074) b (2 ^ 1074) (pow_pos 1074) one_value v ∙ minus b l
left m true b v l z = sub_is binary64 1·0 m false true (2 ^ 1074) b (2 ^ 1074) (pow_pos 1074) one_value v ∙ plus (2 ^ 1074) b ∙ ap (λ (n : ℕ). round binary64 false n (2 ^ 1074)) (same (2 ^ 1074) b (z refl))
  where
    same : (u b : ℕ) → b ≡ 0 → u + b ≡ u - b
    same u b e = omega arith

pub unit_start : {m : Float} → Unit m → Within 537 1074 (root_of (1·0 ⊖ m))
unit_start {m} u =
    within_root 537 1074 (lit< tt) (lit≤ tt) (lit≤ tt)
    (subst (Within 0 1074) (sym (left m u.sign u.units u.value u.below u.zero))
    (within-round (2 ^ 1074 - u.units) (2 ^ 1074) 0 1074 (pow_pos 1074) (lit< tt) (lit< tt) (mul-le-mul_right (2 ^ 1074) (some (2 ^ 1074) u.units u.below)) (mul-le-mul_right (2 ^ 1074) (rest (2 ^ 1074) u.units))))
  where
    some : (u b : ℕ) → b < u → 2 ^ 0 ≤ u - b
    some u b h = omega arith

    rest : (u b : ℕ) → u - b ≤ u
    rest u b = omega arith

-- ---- the largest f64
whole-most : (M j P Q N : ℕ) → M < P → j ≤ 971 → 2 ^ j ≤ Q → N + Q ≡ P * Q → M * 2 ^ j ≤ N
whole-most M j P Q N h l k e =
    let a : (M + 1) * 2 ^ j ≤ P * Q = mul-le-mul (let z : M + 1 ≤ P = omega arith in z) k in
    let b : M * 2 ^ j ≤ M * Q = mul-le-mul_left M k in
    let c : (M + 1) * Q ≤ P * Q = mul-le-mul_right Q (let z : M + 1 ≤ P = omega arith in z) in
    omega arith

large_most : (M j P Q N : ℕ) → 0 < Q → 2 ^ j ≡ 2 ^ (j - 971) * Q → M * 2 ^ j < P * Q → N + Q ≡ P * Q → M * 2 ^ j ≤ N
large_most M j P Q N q s h e =
    let i = M * 2 ^ (j - 971) in
    let t : M * 2 ^ j ≡ i * Q = ap (λ (z : ℕ). M * z) s ∙ sym (mul_assoc M (2 ^ (j - 971)) Q) in
    let a : i < P = lt_of_mul-lt-mul_right Q (lt_of_le_of_lt (le_of_eq (sym t)) h) in
    let b : (i + 1) * Q ≤ P * Q = mul-le-mul_right Q (let z : i + 1 ≤ P = omega arith in z) in
    omega arith

most : ℕ
most = (2 ^ 53 - 1) * 2 ^ 2045

few : (b d w : ℕ) → 0 < d → w ≡ b * d → b ≤ w
few b d w D e = le_trans (le_of_eq (sym (mul-one b))) (le_trans (mul-le-mul_left b D) (le_of_eq (sym e)))

fit_most : (s : Bool) (m : ℕ) (e : ℤ) (b : ℕ) → T (fits binary64 (fin s m e)) → m * up e * 2 ^ 1074 ≡ b * down e → b ≤ most
unfolding fits most
fit_most s zero e b f v = le_trans (few b (down e) (0 * up e * 2 ^ 1074) (down_pos e) v) (le_trans (le_of_eq (ap (λ (z : ℕ). z * 2 ^ 1074) (zero-mul (up e)) ∙ zero-mul (2 ^ 1074))) (lit≤ tt))
fit_most s (suc m) (pos j) b f v =
    let A = eqb (suc m % 2) 1 in
    let B = ltb (suc m) (2 ^ 53) in
    let C = leb 1 (2 ^ 1074) in
    let D = ltb (suc m * 2 ^ j) (2 ^ 1024 * 1) in
    let p : suc m < 2 ^ 53 = ltb→lt (suc m) (2 ^ 53) (and_r A B (and_l (A && B) C (and_l (A && B && C) D f))) in
    let q : suc m * 2 ^ j < 2 ^ 1024 * 1 = ltb→lt (suc m * 2 ^ j) (2 ^ 1024 * 1) (and_r (A && B && C) D f) in
    let r : suc m * 2 ^ j ≤ (2 ^ 53 - 1) * 2 ^ 971 = go (suc m) j p (lt_of_lt_of_le q (lit≤ tt)) (leb j 971) (leb→le j 971) (nleb→lt j 971) in
    le_trans (le_of_eq (sym (mul-one b) ∙ sym v)) (le_trans (mul-le-mul_right (2 ^ 1074) r) (lit≤ tt))
  where
    go : (M j : ℕ) → M < 2 ^ 53 → M * 2 ^ j < 2 ^ 53 * 2 ^ 971 → (t : Bool) → (T t → j ≤ 971) → (T (not t) → 971 < j) → M * 2 ^ j ≤ (2 ^ 53 - 1) * 2 ^ 971
    go M j p q true h k = whole-most M j (2 ^ 53) (2 ^ 971) ((2 ^ 53 - 1) * 2 ^ 971) p (h tt) (pow_mono (h tt)) refl
    go M j p q false h k = large_most M j (2 ^ 53) (2 ^ 971) ((2 ^ 53 - 1) * 2 ^ 971) (pow_pos 971) (pow_split 971 j (le_of_lt (k tt))) q refl
fit_most s (suc m) (negsuc j) b f v =
    let A = eqb (suc m % 2) 1 in
    let B = ltb (suc m) (2 ^ 53) in
    let C = leb (2 ^ suc j) (2 ^ 1074) in
    let D = ltb (suc m * 1) (2 ^ 1024 * 2 ^ suc j) in
    let p : suc m < 2 ^ 53 = ltb→lt (suc m) (2 ^ 53) (and_r A B (and_l (A && B) C (and_l (A && B && C) D f))) in
    le_trans (few b (2 ^ suc j) (suc m * 1 * 2 ^ 1074) (pow_pos (suc j)) v) (le_trans (mul-le-mul_right (2 ^ 1074) (le_trans (le_of_eq (mul-one (suc m))) (le_of_lt p))) (lit≤ tt))

value-most : (x : Float) (b : ℕ) → T (fits binary64 x) → HasValue x true b (2 ^ 1074) → b ≤ most
value-most nan b f v = absurd v
value-most (inf s) b f v = absurd v
value-most (fin s m e) b f v = fit_most s m e b f v.1

-- ---- m < 0
module _ (m : Float) (n : Negative m) where
  abbrev A : ℕ
  A = n.units

  -- 1 - m, in units
  V' : ℕ
  V' = grid binary64 (A + 2 ^ 1074) (2 ^ 1074)

  top : grid binary64 (most + 2 ^ 1074) (2 ^ 1074) < overflow binary64
  unfolding most size
  top = lit< tt

  no_overflow : V' < overflow binary64
  unfolding V'
  no_overflow = lt_of_le_of_lt (grid_mono (A + 2 ^ 1074) (2 ^ 1074) (most + 2 ^ 1074) (2 ^ 1074) (pow_pos 1074) (pow_pos 1074) (mul-le-mul_right (2 ^ 1074) (more A most (2 ^ 1074) (value-most m A n.fit n.value))) top) top
    where
      more : (a b u : ℕ) → a ≤ b → a + u ≤ b + u
      more a b u h = omega arith

  -- at least |m|, which is an f64 itself
  at_least : A ≤ V'
  unfolding V'
  at_least =
      let g : grid binary64 A (2 ^ 1074) ≤ grid binary64 (A + 2 ^ 1074) (2 ^ 1074) = grid_mono A (2 ^ 1074) (A + 2 ^ 1074) (2 ^ 1074) (pow_pos 1074) (pow_pos 1074) (mul-le-mul_right (2 ^ 1074) (more A (2 ^ 1074))) no_overflow in
      let v = round-value binary64 true A (2 ^ 1074) (lt_of_le_of_lt g no_overflow) in
      le_trans (le_of_eq (sym (units-same (round binary64 true A (2 ^ 1074)) true true (grid binary64 A (2 ^ 1074)) A (2 ^ 1074) v (subst (λ (z : Float). HasValue z true A (2 ^ 1074)) (sym (round_of_value binary64 m true A (2 ^ 1074) (pow_pos 1074) n.fit n.value)) n.value)))) g
    where
      more : (a u : ℕ) → a ≤ a + u
      more a u = omega arith

  least-one : 2 ^ 1074 ≤ V'
  unfolding V'
  least-one = grid_least (A + 2 ^ 1074) (2 ^ 1074) 1074 (pow_pos 1074) (lit< tt) (mul-le-mul_right (2 ^ 1074) (more A (2 ^ 1074))) no_overflow
    where
      more : (a u : ℕ) → u ≤ a + u
      more a u = omega arith

  above-one : Within 1074 2098 (1·0 ⊖ m)
  unfolding V'
  above-one =
      record {
        units = V';
        value =
            subst (λ (z : Float). HasValue z false V' (2 ^ 1074)) (sym (sub_is binary64 1·0 m false true (2 ^ 1074) A (2 ^ 1074) (pow_pos 1074) one_value n.value ∙ plus (2 ^ 1074) A ∙ ap (λ (z : ℕ). round binary64 false z (2 ^ 1074)) (add_comm (2 ^ 1074) A)))
            (round-value binary64 false (A + 2 ^ 1074) (2 ^ 1074) no_overflow);
        least = least-one;
        most = le_of_lt no_overflow;
      }

  pub c-within : Within 1074 1586 (root_of (1·0 ⊖ m))
  c-within = within_root 1074 1586 (lit< tt) (lit≤ tt) (lit≤ tt) above-one

  pub inverse_within : Within 537 1074 (1·0 ⊘ root_of (1·0 ⊖ m))
  inverse_within = looser 537 1074 (lit≤ tt) (lit≤ tt) (within-div 562 1074 (lit< tt) (lit< tt) (lit≤ tt) (lit≤ tt) one c-within)

  both_negative : (a b : ℕ) → sum binary64 true a true b (2 ^ 1074) ≡ round binary64 true (a + b) (2 ^ 1074)
  unfolding sum
  both_negative a b = refl

  -- m / (m - 1), from 0 to 1
  Q : ℕ
  Q = grid binary64 (A * 2 ^ 1074) (2 ^ 1074 * V')

  some : 0 < V'
  some = lt_of_lt_of_le (pow_pos 1074) least-one

  m1-most : Q ≤ 2 ^ 1074
  unfolding Q
  m1-most = grid_most (A * 2 ^ 1074) (2 ^ 1074 * V') 1074 (mul-pos (pow_pos 1074) some) (lit< tt) (turn A V' (2 ^ 1074) at_least)
    where
      turn : (a v u : ℕ) → a ≤ v → a * u * u ≤ u * (u * v)
      turn a v u h = let k : a * (u * u) ≤ v * (u * u) = mul-le-mul_right (u * u) h in omega arith

  less_one : HasValue (m ⊖ 1·0) true V' (2 ^ 1074)
  unfolding V'
  less_one = subst (λ (z : Float). HasValue z true V' (2 ^ 1074)) (sym (sub_is binary64 m 1·0 true false A (2 ^ 1074) (2 ^ 1074) (pow_pos 1074) n.value one_value ∙ both_negative A (2 ^ 1074))) (round-value binary64 true (A + 2 ^ 1074) (2 ^ 1074) no_overflow)

  m1-value : HasValue (m ⊘ (m ⊖ 1·0)) false Q (2 ^ 1074)
  unfolding Q
  m1-value =
      subst (λ (z : Float). HasValue z false Q (2 ^ 1074)) (sym (div_is binary64 m (m ⊖ 1·0) true true A V' (2 ^ 1074) (2 ^ 1074) (pow_pos 1074) (pow_pos 1074) some n.value less_one))
      (round-value binary64 false (A * 2 ^ 1074) (2 ^ 1074 * V') (below_overflow Q 1074 m1-most (lit< tt)))

  nine_tenths : HasValue (dec 9 1) false (8106479329266893 * 2 ^ 1021) (2 ^ 1074)
  unfolding dec
  nine_tenths = (refl, refl)

  -- where it is below 0.9
  pub m1_unit : dec 9 1 ≤· m ⊘ (m ⊖ 1·0) ≡ false → Unit (m ⊘ (m ⊖ 1·0))
  m1_unit t =
      record {
        sign = false;
        units = Q;
        value = m1-value;
        below = lt_of_lt_of_le (units_lt (dec 9 1) (m ⊘ (m ⊖ 1·0)) (8106479329266893 * 2 ^ 1021) Q (2 ^ 1074) (pow_pos 1074) nine_tenths m1-value (fails t)) (lit≤ tt);
        zero = λ e. absurd (true≢false (sym e));
      }
