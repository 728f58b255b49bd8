-- The arc tangent sees the fraction alone: p / q and a / c with p c = a q give the same. Assumes nothing.
use mathlib.Core.Path.{◌≡◌, refl, sym, ap, ap₂, ◌∙◌, subst₂}
use mathlib.Core.Bool.{Bool, true, false, not, cond}
use Prim.Native.Nat.{ℕ, ◌+◌, ◌-◌, ◌*◌, ◌/◌, ◌^◌, ◌≤◌, ◌<◌}
use native.Mathlib.Nat.{mul_assoc, mul_comm, mul_left_comm, mul-sub, mul-pos, mul-le-mul_right, mul-lt-mul_of_pos_right, lt_of_mul-lt-mul_right, le_antisymm, le_of_eq, le_of_mul-le-mul_left, le_of_mul-le-mul_right}
use native.Mathlib.Omega.{arith}
use lib.Arith.{le→nltb}
use lib.Dec.{T, ltb, ltb→lt, lt→ltb, nltb→le}
use lib.Pow.{pow_pos}
use lib.Ieee.{Float, binary64, round}
use lib.Ieee.Bits.{is_true, is_false}
use lib.Ieee.Nearest.{div_same}
use lib.Ieee.Scale.{round_same}
use Rattle.laws.specs.Ladder.{held, passed}
use Rattle.laws.specs.laws.Flags.{fails}
use Rattle.arctangent.specs.Arctangent.{sides, factor_of, sum_of, next_to, half_sides, quarter_sides, right_sides, two_sides, sides_at, arctangent_at}
use Rattle.arctangent.specs.declared.sums.Sides.{Sides}

-- x is to X as q to c
module _ (q c : ℕ) (Q : 0 < q) (C : 0 < c) where
  abbrev As : ℕ → ℕ → Type 0
  As x X = x * c ≡ X * q

  as_sum : (x y X Y : ℕ) → As x X → As y Y → As (x + y) (X + Y)
  as_sum x y X Y e f = omega arith

  as_times : (k x X : ℕ) → As x X → As (k * x) (k * X)
  as_times k x X e = mul_assoc k x c ∙ ap (λ (z : ℕ). k * z) e ∙ sym (mul_assoc k X q)

  as_less : (x y X Y : ℕ) → As x X → As y Y → As (x - y) (X - Y)
  as_less x y X Y e f = sub-mul x y c ∙ ap₂ (λ (u v : ℕ). u - v) e f ∙ sym (sub-mul X Y q)
    where
      sub-mul : (x y z : ℕ) → (x - y) * z ≡ x * z - y * z
      sub-mul x y z = mul_comm (x - y) z ∙ mul-sub z x y ∙ ap₂ (λ (u v : ℕ). u - v) (mul_comm z x) (mul_comm z y)

  -- the same tests
  lt_same : (x y X Y : ℕ) → As x X → As y Y → ltb x y ≡ ltb X Y
  lt_same x y X Y e f = go (ltb x y) (ltb→lt x y) (nltb→le x y)
    where
      go : (b : Bool) → (T b → x < y) → (T (not b) → y ≤ x) → b ≡ ltb X Y
      go true h k = sym (is_true (ltb X Y) (lt→ltb X Y (lt_of_mul-lt-mul_right q (subst₂ (λ (u v : ℕ). u < v) e f (mul-lt-mul_of_pos_right (h tt) C)))))
      go false h k = sym (is_false (ltb X Y) (le→nltb X Y (le_of_mul-le-mul_right (subst₂ (λ (u v : ℕ). u ≤ v) f e (mul-le-mul_right c (k tt))) Q)))

  -- the same quotients
  crossed : (x y X Y : ℕ) → As x X → As y Y → x * Y ≡ X * y
  crossed x y X Y e f =
      let g : q * c * (x * Y) ≡ q * c * (X * y) = regroup x Y ∙ ap₂ (λ (u v : ℕ). u * v) e (sym f) ∙ sym (other X y) in
      le_antisymm (le_of_mul-le-mul_left (le_of_eq g) (mul-pos Q C)) (le_of_mul-le-mul_left (le_of_eq (sym g)) (mul-pos Q C))
    where
      regroup : (x Y : ℕ) → q * c * (x * Y) ≡ x * c * (Y * q)
      regroup x Y = simp (mul_assoc, mul_comm, mul_left_comm)

      other : (X y : ℕ) → q * c * (X * y) ≡ X * q * (y * c)
      other X y = simp (mul_assoc, mul_comm, mul_left_comm)

  quotient_same : (x y X Y : ℕ) → 0 < y → 0 < Y → As x X → As y Y → x * 2 ^ 64 / y ≡ X * 2 ^ 64 / Y
  quotient_same x y X Y H K e f = div_same (x * 2 ^ 64) y (X * 2 ^ 64) Y H K (swap x (2 ^ 64) Y ∙ ap (λ (z : ℕ). z * 2 ^ 64) (crossed x y X Y e f) ∙ sym (swap X (2 ^ 64) y))
    where
      swap : (x y z : ℕ) → x * y * z ≡ x * z * y
      swap x y z = simp (mul_assoc, mul_comm, mul_left_comm)

  sum_same : (x y X Y : ℕ) → 0 < y → 0 < Y → As x X → As y Y → sum_of x y ≡ sum_of X Y
  unfolding sum_of
  sum_same x y X Y H K e f = ap (λ (t : ℕ). sides (t * (factor_of t).added / 2 ^ 64) (t * (factor_of t).taken / 2 ^ 64)) (quotient_same x y X Y H K e f)

  pub next_same : (z : Sides) (x y d X Y D : ℕ) → 0 < d → 0 < D → x * c ≡ X * q → y * c ≡ Y * q → d * c ≡ D * q → next_to z x y d ≡ next_to z X Y D
  unfolding next_to
  next_same z x y d X Y D H K e f g =
      ap₂ (λ (u v : Sides). sides (z.added + u.added + v.taken) (z.taken + u.taken + v.added)) (sum_same (x - y) d (X - Y) D H K (as_less x y X Y e f) g) (sum_same (y - x) d (Y - X) D H K (as_less y x Y X f e) g)

-- ---- p / q and a / c
module _ (p q a c : ℕ) (Q : 0 < q) (C : 0 < c) (P : 0 < p) (A : 0 < a) (e : p * c ≡ a * q) where
  f : q * c ≡ c * q
  f = mul_comm q c

  more : (x y : ℕ) → 0 < y → 0 < x + y
  more x y h = omega arith

  pub sides-same : sides_at p q ≡ sides_at a c
  unfolding sides_at
  sides-same = λ i. cond (t₁ i) (n₁ i) (cond (t₂ i) (n₂ i) (cond (t₃ i) (n₃ i) (n₄ i)))
    where
      twice : (x : ℕ) → 0 < x → 0 < 2 * x
      twice x h = omega arith

      t₁ : ltb (4 * p) (3 * q) ≡ ltb (4 * a) (3 * c)
      t₁ = lt_same q c Q C (4 * p) (3 * q) (4 * a) (3 * c) (as_times q c Q C 4 p a e) (as_times q c Q C 3 q c f)

      t₂ : ltb (2 * p) (3 * q) ≡ ltb (2 * a) (3 * c)
      t₂ = lt_same q c Q C (2 * p) (3 * q) (2 * a) (3 * c) (as_times q c Q C 2 p a e) (as_times q c Q C 3 q c f)

      t₃ : ltb p (4 * q) ≡ ltb a (4 * c)
      t₃ = lt_same q c Q C p (4 * q) a (4 * c) e (as_times q c Q C 4 q c f)

      n₁ : next_to half_sides (2 * p) q (p + 2 * q) ≡ next_to half_sides (2 * a) c (a + 2 * c)
      n₁ = next_same q c Q C half_sides (2 * p) q (p + 2 * q) (2 * a) c (a + 2 * c) (more p (2 * q) (twice q Q)) (more a (2 * c) (twice c C)) (as_times q c Q C 2 p a e) f (as_sum q c Q C p (2 * q) a (2 * c) e (as_times q c Q C 2 q c f))

      n₂ : next_to quarter_sides p q (p + q) ≡ next_to quarter_sides a c (a + c)
      n₂ = next_same q c Q C quarter_sides p q (p + q) a c (a + c) (more p q Q) (more a c C) e f (as_sum q c Q C p q a c e f)

      n₃ : next_to two_sides p (2 * q) (2 * p + q) ≡ next_to two_sides a (2 * c) (2 * a + c)
      n₃ = next_same q c Q C two_sides p (2 * q) (2 * p + q) a (2 * c) (2 * a + c) (more (2 * p) q Q) (more (2 * a) c C) e (as_times q c Q C 2 q c f) (as_sum q c Q C (2 * p) q (2 * a) c (as_times q c Q C 2 p a e) f)

      n₄ : next_to right_sides 0 q p ≡ next_to right_sides 0 c a
      n₄ = next_same q c Q C right_sides 0 q p 0 c a P A (none c q) f e
        where
          none : (x y : ℕ) → 0 * x ≡ 0 * y
          none x y = omega arith

pub at_same : (s : Bool) (p q a c : ℕ) → 0 < q → 0 < c → p * c ≡ a * q → arctangent_at s p q ≡ arctangent_at s a c
unfolding arctangent_at
at_same s p q a c Q C e = go (ltb (4 * p) q) refl
  where
    same : ltb (4 * p) q ≡ ltb (4 * a) c
    same = lt_same q c Q C (4 * p) q (4 * a) c (as_times q c Q C 4 p a e) (mul_comm q c)

    gap : ℕ → ℕ
    gap t = (factor_of t).added - (factor_of t).taken

    small : ℕ → ℕ → Float
    small x y = round binary64 s (x * gap (x * 2 ^ 64 / y)) (y * 2 ^ 63)

    large : Sides → Float
    large z = round binary64 s (z.added - z.taken) (2 ^ 63)

    product : (g K : ℕ) → p * g * (c * K) ≡ a * g * (q * K)
    product g K = swap p g c K ∙ ap (λ (x : ℕ). x * (g * K)) e ∙ sym (swap a g q K)
      where
        swap : (x y z w : ℕ) → x * y * (z * w) ≡ x * z * (y * w)
        swap x y z w = simp (mul_assoc, mul_comm, mul_left_comm)

    small_same : small p q ≡ small a c
    small_same =
        ap (λ (t : ℕ). round binary64 s (p * gap t) (q * 2 ^ 63)) (quotient_same q c Q C p q a c Q C e (mul_comm q c))
        ∙ round_same binary64 s (p * gap (a * 2 ^ 64 / c)) (q * 2 ^ 63) (a * gap (a * 2 ^ 64 / c)) (c * 2 ^ 63) (mul-pos Q (pow_pos 63)) (mul-pos C (pow_pos 63)) (product (gap (a * 2 ^ 64 / c)) (2 ^ 63))

    some : (x y : ℕ) → 0 < y → y ≤ 4 * x → 0 < x
    some x y h k = omega arith

    go : (b : Bool) → ltb (4 * p) q ≡ b → cond (ltb (4 * p) q) (small p q) (large (sides_at p q)) ≡ cond (ltb (4 * a) c) (small a c) (large (sides_at a c))
    go true z = sym (held (small p q) (large (sides_at p q)) z refl) ∙ small_same ∙ held (small a c) (large (sides_at a c)) (sym same ∙ z) refl
    go false z =
        sym (passed (small p q) (large (sides_at p q)) z refl)
        ∙ ap large (sides-same p q a c Q C (some p q Q (nltb→le (4 * p) q (fails z))) (some a c C (nltb→le (4 * a) c (fails (sym same ∙ z)))) e)
        ∙ passed (small a c) (large (sides_at a c)) (sym same ∙ z) refl
