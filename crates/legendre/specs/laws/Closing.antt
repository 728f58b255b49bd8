-- K from the last two means is finite: the square of their difference is at most half of what it is divided by, or that is an infinity. Assumes nothing.
use Rattle.std.specs.Prelude.{◌≡◌, refl, Bool, true, not, cond, ℕ, ◌+◌, ◌-◌, ◌*◌, ◌^◌, ◌≤◌, ◌<◌, pos, T, ltb, Float}
use Rattle.std.proofs.Common.{sym, ◌∙◌, ltb→lt, nltb→le, lit≤, lit<, pow_pos}
use Rattle.std.proofs.Math.Path.{ap, subst}
use Rattle.std.proofs.Math.Bool.{false}
use native.Mathlib.Nat.{le_trans, le_of_eq, lt_of_le_of_lt, lt_of_lt_of_le, mul-le-mul, mul-le-mul_left, mul-le-mul_right, le_of_mul-le-mul_right, le_of_mul-le-mul_left, mul-pos}
use native.Mathlib.Omega.{arith}
use Rattle.std.specs.Float.{nan}
use Rattle.std.specs.Float.Ieee.{inf, fin, binary64, round, sum, div, unlike, of_bits}
use Rattle.std.specs.Float.Ieee.Fits.{round_is}
use Rattle.std.specs.Float.Ieee.Exact.{HasValue}
use Rattle.std.specs.Float.Ieee.Order.{drop, kept}
use Rattle.std.specs.Float.Ieee.Scale.{grid, overflow, grid_scale, normal_of_fraction}
use Rattle.laws.specs.Arithmetic.{◌⊕◌, ◌⊖◌, ◌⊗◌, ◌⊘◌, 1·0, 4·0, π}
use Rattle.laws.specs.laws.Rounding.{round-value, grid_near, units_over}
use Rattle.legendre.specs.Ellipk.{k_from_of}
use Rattle.laws.specs.laws.Operations.{mul_is, div_is, sub_is}
use Rattle.laws.specs.laws.Sizes.{grid_mono, grid_most, grid_least, below_overflow}
use Rattle.laws.specs.laws.Bounds.{Small, Within, small, within-round, within-mul, small_div}
use Rattle.legendre.specs.laws.Rounds.{one_value}

four_value : HasValue 4·0 false (2 ^ 1076) (2 ^ 1074)
unfolding of_bits
four_value = (refl, refl)

pub pi : Within 1075 1076 π
unfolding of_bits
pi = record { units = 884279719003555 * 2 ^ 1026; value = (refl, refl); least = lit≤ tt; most = lit≤ tt }

-- ---- 1 less a number up to a half
minus : (b : ℕ) → b ≤ 2 ^ 1073 → sum binary64 false (2 ^ 1074) true b (2 ^ 1074) ≡ round binary64 false (2 ^ 1074 - b) (2 ^ 1074)
unfolding sum
minus b h = go (ltb (2 ^ 1074) b) (ltb→lt (2 ^ 1074) b)
  where
    go : (t : Bool) → (T t → 2 ^ 1074 < b) → cond t (round binary64 true (b - 2 ^ 1074) (2 ^ 1074)) (round binary64 false (2 ^ 1074 - b) (2 ^ 1074)) ≡ round binary64 false (2 ^ 1074 - b) (2 ^ 1074)
    go true p = absurd (native.Mathlib.Nat.not-le_of_lt (p tt) (le_trans h (lit≤ tt)))
    go false p = refl

pub one_less : (z : Float) (b : ℕ) → HasValue z false b (2 ^ 1074) → b ≤ 2 ^ 1073 → Within 1073 1074 (1·0 ⊖ z)
one_less z b v h =
    subst (Within 1073 1074) (sym (sub_is binary64 1·0 z false false (2 ^ 1074) b (2 ^ 1074) (pow_pos 1074) one_value v ∙ minus b h))
    (within-round (2 ^ 1074 - b) (2 ^ 1074) 1073 1074 (pow_pos 1074) (lit< tt) (lit< tt) (mul-le-mul_right (2 ^ 1074) (half (2 ^ 1073) (2 ^ 1074) b h (lit≤ tt))) (mul-le-mul_right (2 ^ 1074) (some (2 ^ 1074) b)))
  where
    half : (p u b : ℕ) → b ≤ p → p + p ≤ u → p ≤ u - b
    half p u b h k = omega arith

    some : (u b : ℕ) → u - b ≤ u
    some u b = omega arith

-- ---- the quotient: of d² by (4s)s, where |d| ≤ s
like : (s : Bool) → unlike s s ≡ false
like true = refl
like false = refl

by_infinity : (x : Float) (a c : ℕ) → HasValue x false a c → x ⊘ inf false ≡ fin false 0 (pos 0)
unfolding div
by_infinity nan a c h = absurd h
by_infinity (inf s) a c h = absurd h
by_infinity (fin s m e) a c h = (λ i. fin (unlike (h.0 i) false) 0 (pos 0))

-- 4s, rounded, is at least 2s
doubled : (W n c F : ℕ) → W * 2 * n ≤ W * 2 * (F * c) + n → 1 ≤ W → n ≤ 2 * (F * c)
doubled W n c F h w =
    let k : n ≤ W * n = le_trans (le_of_eq (sym (native.Mathlib.Nat.one-mul n))) (mul-le-mul_right n w) in
    le_of_mul-le-mul_left (let l : W * n ≤ W * (2 * (F * c)) = omega arith in l) w

module _ (x y : Float) (s : Within 806 1587 (x ⊕ y)) (d : Small 1585 (x ⊖ y)) (h : d.units ≤ s.units) where
  abbrev S : ℕ
  S = s.units

  abbrev D : ℕ
  D = d.units

  UU : 0 < 2 ^ 1074 * 2 ^ 1074
  UU = mul-pos (pow_pos 1074) (pow_pos 1074)

  square_is : (x ⊖ y) ⊗ (x ⊖ y) ≡ round binary64 false (D * D) (2 ^ 1074 * 2 ^ 1074)
  square_is = mul_is binary64 (x ⊖ y) (x ⊖ y) d.sign d.sign D D (2 ^ 1074) (2 ^ 1074) (pow_pos 1074) (pow_pos 1074) d.value d.value ∙ ap (λ (t : Bool). round binary64 t (D * D) (2 ^ 1074 * 2 ^ 1074)) (like d.sign)

  A : ℕ
  A = grid binary64 (D * D) (2 ^ 1074 * 2 ^ 1074)

  square-most : A ≤ 2 ^ 2096
  unfolding A
  square-most = grid_most (D * D) (2 ^ 1074 * 2 ^ 1074) 2096 UU (lit< tt) (le_trans (mul-le-mul_right (2 ^ 1074) (mul-le-mul d.most d.most)) (lit≤ tt))

  square : HasValue ((x ⊖ y) ⊗ (x ⊖ y)) false A (2 ^ 1074)
  unfolding A
  square = subst (λ (z : Float). HasValue z false A (2 ^ 1074)) (sym square_is) (round-value binary64 false (D * D) (2 ^ 1074 * 2 ^ 1074) (below_overflow A 2096 square-most (lit< tt)))

  -- 4s
  F : ℕ
  F = grid binary64 (2 ^ 1076 * S) (2 ^ 1074 * 2 ^ 1074)

  four_most : F ≤ 2 ^ 1589
  unfolding F
  four_most = grid_most (2 ^ 1076 * S) (2 ^ 1074 * 2 ^ 1074) 1589 UU (lit< tt) (le_trans (mul-le-mul_right (2 ^ 1074) (mul-le-mul_left (2 ^ 1076) s.most)) (lit≤ tt))

  four_times : HasValue (4·0 ⊗ (x ⊕ y)) false F (2 ^ 1074)
  unfolding F
  four_times =
      subst (λ (z : Float). HasValue z false F (2 ^ 1074)) (sym (mul_is binary64 4·0 (x ⊕ y) false false (2 ^ 1076) S (2 ^ 1074) (2 ^ 1074) (pow_pos 1074) (pow_pos 1074) four_value s.value))
      (round-value binary64 false (2 ^ 1076 * S) (2 ^ 1074 * 2 ^ 1074) (below_overflow F 1589 four_most (lit< tt)))

  -- and it is at least 2s
  four_normal : 2 ^ 52 * (2 ^ 1074 * 2 ^ 1074) ≤ 2 ^ 1076 * S * 2 ^ 1074
  four_normal = le_trans (lit≤ {m = 2 ^ 52 * (2 ^ 1074 * 2 ^ 1074)} {n = 2 ^ 1076 * 2 ^ 806 * 2 ^ 1074} tt) (mul-le-mul_right (2 ^ 1074) (mul-le-mul_left (2 ^ 1076) s.least))

  four_least : 2 * S ≤ F
  unfolding F
  four_least =
      let c = 2 ^ 1074 * 2 ^ 1074 in
      let n = 2 ^ 1076 * S * 2 ^ 1074 in
      let k = doubled (2 ^ 52) n c F (grid_near binary64 (2 ^ 1076 * S) c UU (normal_of_fraction binary64 (2 ^ 1076 * S) c UU four_normal)).1 (lit≤ tt) in
      enough (2 ^ 1076) (2 ^ 1074) c S F UU (lit≤ tt) k
    where
      enough : (p u c S F : ℕ) → 0 < c → 4 * c ≤ p * u → p * S * u ≤ 2 * (F * c) → 2 * S ≤ F
      enough p u c S F C e k =
          let a : 4 * c * S ≤ p * u * S = mul-le-mul_right S e in
          le_of_mul-le-mul_right (let l : 2 * S * c ≤ F * c = omega arith in l) C

  -- (4s)s
  B : ℕ
  B = grid binary64 (F * S) (2 ^ 1074 * 2 ^ 1074)

  divisor_is : 4·0 ⊗ (x ⊕ y) ⊗ (x ⊕ y) ≡ round binary64 false (F * S) (2 ^ 1074 * 2 ^ 1074)
  divisor_is = mul_is binary64 (4·0 ⊗ (x ⊕ y)) (x ⊕ y) false false F S (2 ^ 1074) (2 ^ 1074) (pow_pos 1074) (pow_pos 1074) four_times s.value

  square-normal : 2 ^ 52 * (2 ^ 1074 * 2 ^ 1074) ≤ S * S * 2 ^ 1074
  square-normal = le_trans (lit≤ {m = 2 ^ 52 * (2 ^ 1074 * 2 ^ 1074)} {n = 2 ^ 806 * 2 ^ 806 * 2 ^ 1074} tt) (mul-le-mul_right (2 ^ 1074) (mul-le-mul s.least s.least))

  ratio : B < overflow binary64 → 2 * A ≤ B
  unfolding A B
  ratio o =
      let c = 2 ^ 1074 * 2 ^ 1074 in
      let G = grid binary64 (S * S) c in
      let e : grid binary64 (S * S * 2 ^ 1) c ≡ G * 2 ^ 1 = grid_scale binary64 (S * S) c 1 UU (normal_of_fraction binary64 (S * S) c UU square-normal) in
      let k : grid binary64 (S * S * 2 ^ 1) c ≤ B = grid_mono (S * S * 2 ^ 1) c (F * S) c UU UU (mul-le-mul_right c (le_trans (le_of_eq (turn S)) (mul-le-mul_right S four_least))) o in
      let m : A ≤ G = grid_mono (D * D) c (S * S) c UU UU (mul-le-mul_right c (mul-le-mul h h)) (lt_of_le_of_lt (least G B (le_trans (le_of_eq (sym e)) k)) o) in
      chain A G B m (le_trans (le_of_eq (sym e)) k)
    where
      turn : (S : ℕ) → S * S * 2 ^ 1 ≡ 2 * S * S
      turn S = omega arith

      least : (G B : ℕ) → G * 2 ^ 1 ≤ B → G ≤ B
      least G B k = omega arith

      chain : (A G B : ℕ) → A ≤ G → G * 2 ^ 1 ≤ B → 2 * A ≤ B
      chain A G B m k = omega arith

  divisor_least : B < overflow binary64 → 0 < B
  unfolding B
  divisor_least o =
      lt_of_lt_of_le (pow_pos 0) (grid_least (F * S) (2 ^ 1074 * 2 ^ 1074) 0 UU (lit< tt)
      (le_trans (lit≤ {m = 2 ^ 0 * (2 ^ 1074 * 2 ^ 1074)} {n = 2 * 2 ^ 806 * 2 ^ 806 * 2 ^ 1074} tt) (mul-le-mul_right (2 ^ 1074) (mul-le-mul (le_trans (mul-le-mul_left 2 s.least) four_least) s.least))) o)

  -- 1 - d² / ((4s)s)
  abbrev corrected : Float
  corrected = 1·0 ⊖ (x ⊖ y) ⊗ (x ⊖ y) ⊘ (4·0 ⊗ (x ⊕ y) ⊗ (x ⊕ y))

  where_finite : B < overflow binary64 → Within 1073 1074 corrected
  where_finite o =
      let q : HasValue (4·0 ⊗ (x ⊕ y) ⊗ (x ⊕ y)) false B (2 ^ 1074) = subst (λ (z : Float). HasValue z false B (2 ^ 1074)) (sym divisor_is) (value o) in
      let e = div_is binary64 ((x ⊖ y) ⊗ (x ⊖ y)) (4·0 ⊗ (x ⊕ y) ⊗ (x ⊕ y)) false false A B (2 ^ 1074) (2 ^ 1074) (pow_pos 1074) (pow_pos 1074) (divisor_least o) square q in
      let m : grid binary64 (A * 2 ^ 1074) (2 ^ 1074 * B) ≤ 2 ^ 1073 = grid_most (A * 2 ^ 1074) (2 ^ 1074 * B) 1073 (mul-pos (pow_pos 1074) (divisor_least o)) (lit< tt) (halves A B (2 ^ 1074) (2 ^ 1073) (ratio o) (lit≤ tt)) in
      one_less ((x ⊖ y) ⊗ (x ⊖ y) ⊘ (4·0 ⊗ (x ⊕ y) ⊗ (x ⊕ y))) (grid binary64 (A * 2 ^ 1074) (2 ^ 1074 * B))
      (subst (λ (z : Float). HasValue z false (grid binary64 (A * 2 ^ 1074) (2 ^ 1074 * B)) (2 ^ 1074)) (sym e) (round-value binary64 false (A * 2 ^ 1074) (2 ^ 1074 * B) (below_overflow (grid binary64 (A * 2 ^ 1074) (2 ^ 1074 * B)) 1073 m (lit< tt)))) m
    where
      value : B < overflow binary64 → HasValue (round binary64 false (F * S) (2 ^ 1074 * 2 ^ 1074)) false B (2 ^ 1074)
      value o = unfold B in round-value binary64 false (F * S) (2 ^ 1074 * 2 ^ 1074) o

      halves : (A B u p : ℕ) → 2 * A ≤ B → u ≤ 2 * p → A * u * u ≤ p * (u * B)
      halves A B u p k l =
          let a : u * (A * u) ≤ 2 * p * (A * u) = mul-le-mul_right (A * u) l in
          let b : p * u * (2 * A) ≤ p * u * B = mul-le-mul_left (p * u) k in
          omega arith

  where_infinite : overflow binary64 ≤ B → Within 1073 1074 corrected
  unfolding B
  where_infinite o =
      let i : 4·0 ⊗ (x ⊕ y) ⊗ (x ⊕ y) ≡ inf false = divisor_is ∙ round_is binary64 false (F * S) (2 ^ 1074 * 2 ^ 1074) ∙ units_over binary64 false (kept 53 (F * S * 2 ^ 1074) (2 ^ 1074 * 2 ^ 1074)) (drop 53 (F * S * 2 ^ 1074) (2 ^ 1074 * 2 ^ 1074)) o in
      let e : (x ⊖ y) ⊗ (x ⊖ y) ⊘ (4·0 ⊗ (x ⊕ y) ⊗ (x ⊕ y)) ≡ fin false 0 (pos 0) = ap (λ (z : Float). (x ⊖ y) ⊗ (x ⊖ y) ⊘ z) i ∙ by_infinity ((x ⊖ y) ⊗ (x ⊖ y)) A (2 ^ 1074) square in
      one_less ((x ⊖ y) ⊗ (x ⊖ y) ⊘ (4·0 ⊗ (x ⊕ y) ⊗ (x ⊕ y))) 0 (subst (λ (z : Float). HasValue z false 0 (2 ^ 1074)) (sym e) (refl, refl)) (lit≤ tt)

  corrected-within : Within 1073 1074 corrected
  corrected-within = go (ltb B (overflow binary64)) (ltb→lt B (overflow binary64)) (nltb→le B (overflow binary64))
    where
      go : (t : Bool) → (T t → B < overflow binary64) → (T (not t) → overflow binary64 ≤ B) → Within 1073 1074 corrected
      go true p q = where_finite (p tt)
      go false p q = where_infinite (q tt)

  pub k_small : Small 1345 (k_from_of x y)
  unfolding k_from_of
  k_small = small_div 1345 (lit< tt) (lit≤ tt) (small pi) (within-mul 805 1587 (lit< tt) (lit< tt) (lit≤ tt) (lit≤ tt) s corrected-within)
