-- What the steps of sine and cosine hold: the exact Taylor sums, to a few units, and no more than 1 in size. Assumes nothing.
use mathlib.Core.Path.{◌≡◌, sym, ◌∙◌, subst, subst₂, subst₃}
use mathlib.Core.Bool.{Bool, true, false, not}
use Prim.Native.Nat.{ℕ, suc, ◌+◌, ◌*◌, ◌/◌, ◌^◌, ◌≤◌, ◌<◌}
use native.Mathlib.Nat.{mul-add, add-mul, mul_assoc, mul_comm, mul_left_comm, one-mul, pow-zero, mul-pos, mul-le-mul, mul-le-mul_right, mul-le-mul_left, le_trans, le_of_eq, lt_of_le_of_lt, le_of_mul-le-mul_right, lt-div-mul-add, div-le_of_le-mul, div-eq_of_lt, le_of_lt}
use native.Mathlib.Omega.{arith}
use lib.Dec.{T, leb, leb→le, nleb→lt, lit≤, lit<}
use lib.Pow.{pow_pos}
use Rattle.bounds.specs.Fractions.{Difference}
use Rattle.angle.specs.Series.{factorial, taylor}
use Rattle.bounds.specs.Close.{distance_of}
use Rattle.angle.specs.Alternating.{square_of, alternating_of}
use Rattle.angle.specs.declared.series.Balance.{Balance}
use Rattle.bounds.specs.laws.Held.{Held, carry}
use Rattle.bounds.specs.laws.Powers.{pow-one}
use Rattle.bounds.specs.laws.Squares.{square-low, square-high}
use Rattle.angle.proofs.Taylor.{whole, exact, whole_pos, weight, nested}
use Rattle.angle.proofs.Sums.{short, slight, sizes_small, sum_low, sum-high, sine_slight, sine_short, cosine_slight, cosine_short}
use Rattle.angle.proofs.Pythagoras.{sixteen, sine_unit, cosine_unit}

ruleset sorted = (mul-add, add-mul, mul_assoc, mul_comm, mul_left_comm)

-- A and B, in units of u / w / 2^60, hold what the sum adds and what it takes away, and their difference is hardly more than 1
pub record Holds (u w A B I J F : ℕ) (sum : Difference) : Type 0 where
  pub added : Held u (w * 2 ^ 60) A (A + I) sum.added
  pub taken : Held u (w * 2 ^ 60) B (B + J) sum.taken
  pub gap : u * distance_of A B ≤ (2 ^ 60 + 1 + F) * w

-- ---- the square
module _ (p q : ℕ) (hq : 0 < q) (hp : p ≤ 4 * q) where
  pub x_le : p * 2 ^ 59 / q ≤ 2 ^ 61
  x_le = div-le_of_le-mul q (four p q hp)
    where
      four : (p q : ℕ) → p ≤ 4 * q → p * 2 ^ 59 ≤ q * 2 ^ 61
      four p q h = omega arith

  pub square_le : square_of p q ≤ 2 ^ 63
  unfolding square_of
  square_le = div-le_of_le-mul (2 ^ 59) (mul-le-mul x_le x_le)

  t-low : square_of p q * (q * q) ≤ p * p * 2 ^ 59
  unfolding square_of
  t-low = square-low p q (2 ^ 59) hq (pow_pos 59)

  t-high : p * p * 2 ^ 59 ≤ (square_of p q + 9) * (q * q)
  unfolding square_of
  t-high = square-high p q (2 ^ 59) hq (pow_pos 59) 9 (next (p * 2 ^ 59 / q) (p * 2 ^ 59 / q * (p * 2 ^ 59 / q) / 2 ^ 59) (lt-div-mul-add (pow_pos 59)) x_le)
    where
      next : (x t : ℕ) → x * x < t * 2 ^ 59 + 2 ^ 59 → x ≤ 2 ^ 61 → (x + 1) * (x + 1) ≤ (t + 9) * 2 ^ 59
      next x t b l = omega arith

  square_small : p < q → square_of p q ≤ 1 * 2 ^ 59
  unfolding square_of
  square_small h =
      let l : p * 2 ^ 59 / q ≤ 2 ^ 59 = div-le_of_le-mul q (mul-le-mul_right (2 ^ 59) (le_of_lt h)) in
      div-le_of_le-mul (2 ^ 59) (mul-le-mul l l)

  -- ---- the sums: to `short` units of x^n / n! / 2^60
  abbrev cut : ℕ → ℕ → Balance
  cut n k = alternating_of (square_of p q) n k

  qq : 0 < q * q
  qq = mul-pos hq hq

  lows : (n k : ℕ) → ((cut n k).added * whole (q * q) n k ≤ 2 ^ 60 * (exact (p * p) (q * q) n k).added) × ((cut n k).taken * whole (q * q) n k ≤ 2 ^ 60 * (exact (p * p) (q * q) n k).taken)
  lows n k = sum_low (square_of p q) (p * p) (q * q) square_le t-low n k

  highs : (n k : ℕ) → T (slight n k)
      → (2 ^ 60 * (exact (p * p) (q * q) n k).added ≤ ((cut n k).added + (short n k).added) * whole (q * q) n k) × (2 ^ 60 * (exact (p * p) (q * q) n k).taken ≤ ((cut n k).taken + (short n k).taken) * whole (q * q) n k)
  highs n k s = sum-high (square_of p q) (p * p) (q * q) square_le t-high n k s

  held : (n k : ℕ) → T (slight n k)
      → Held (p ^ n) (weight q n * 2 ^ 60) (cut n k).added ((cut n k).added + (short n k).added) (taylor p q n (suc k)).added
      × Held (p ^ n) (weight q n * 2 ^ 60) (cut n k).taken ((cut n k).taken + (short n k).taken) (taylor p q n (suc k)).taken
  held n k s =
      let N = exact (p * p) (q * q) n k in
      let D = whole (q * q) n k in
      let i = nested p q n k in
      let l = lows n k in
      let h = highs n k s in
      let hD = whole_pos (q * q) n k qq in (
        carry (2 ^ 60) (taylor p q n (suc k)).added (p ^ n) (weight q n) (cut n k).added ((cut n k).added + (short n k).added) N.added D hD i.0 l.0 h.0,
        carry (2 ^ 60) (taylor p q n (suc k)).taken (p ^ n) (weight q n) (cut n k).taken ((cut n k).taken + (short n k).taken) N.taken D hD i.1 l.1 h.1,
      )

  -- ---- their difference is hardly more than 1: u / w * |A - B| ≤ 1 + (1 + F) / P, from the same of the exact sums
  gap_le : (u w A B I J N M D P F : ℕ) → 0 < D → A * D ≤ P * N → P * N ≤ (A + I) * D → B * D ≤ P * M → P * M ≤ (B + J) * D → P * (u * distance_of N M) ≤ (P + 1) * (w * D)
      → u * I ≤ F * w → u * J ≤ F * w → u * distance_of A B ≤ (P + 1 + F) * w
  gap_le u w A B I J N M D P F hD al ah bl bh c i j = le_of_mul-le-mul_right (go (leb A B) (leb→le A B) (nleb→lt A B)) hD
    where
      -- the smaller is y, and the larger y + z
      one : (y z J N M : ℕ) → (y + z) * D ≤ P * N → P * M ≤ (y + J) * D → N ≤ M + distance_of N M → u * J ≤ F * w → P * (u * distance_of N M) ≤ (P + 1) * (w * D) → u * z * D ≤ (P + 1 + F) * w * D
      one y z J N M l h m j c =
          let x₁ : P * N ≤ P * (M + distance_of N M) = mul-le-mul_left P m in
          let x₂ : z * D ≤ J * D + P * distance_of N M = omega arith in
          let x₃ : u * (z * D) ≤ u * (J * D + P * distance_of N M) = mul-le-mul_left u x₂ in
          let x₄ : u * J * D ≤ F * w * D = mul-le-mul_right D j in
          last (distance_of N M) (P + 1) x₃ x₄ c
        where
          last : (g Q : ℕ) → u * (z * D) ≤ u * (J * D + P * g) → u * J * D ≤ F * w * D → P * (u * g) ≤ Q * (w * D) → u * z * D ≤ (Q + F) * w * D
          last g Q x y c = simp sorted (omega (arith, simp sorted at x, simp sorted at y, simp sorted at c))

      turn : (N M : ℕ) → distance_of N M ≡ distance_of M N
      turn N M = omega arith

      reach : (N M : ℕ) → N ≤ M + distance_of N M
      reach N M = omega arith

      go : (b : Bool) → (T b → A ≤ B) → (T (not b) → B < A) → u * distance_of A B * D ≤ (P + 1 + F) * w * D
      go true h k =
          let l : A ≤ B = h tt in
          let e : A + distance_of A B ≡ B = omega arith in
          one A (distance_of A B) I M N (subst (λ (z : ℕ). z * D ≤ P * M) (sym e) bl) ah (reach M N) i (subst (λ (z : ℕ). P * (u * z) ≤ (P + 1) * (w * D)) (turn N M) c)
      go false h k =
          let l : B < A = k tt in
          let e : B + distance_of A B ≡ A = omega arith in
          one B (distance_of A B) J N M (subst (λ (z : ℕ). z * D ≤ P * N) (sym e) al) bh (reach N M) j c

  -- from the sum of degree n on to one by its first term's own names
  holds : (n k u w I J F : ℕ) → T (slight n k) → p ^ n ≡ u → weight q n ≡ w → (short n k).added ≡ I → (short n k).taken ≡ J → u * I ≤ F * w → u * J ≤ F * w
      → 2 ^ 60 * (u * distance_of (exact (p * p) (q * q) n k).added (exact (p * p) (q * q) n k).taken) ≤ (2 ^ 60 + 1) * (w * whole (q * q) n k)
      → Holds u w (cut n k).added (cut n k).taken I J F (taylor p q n (suc k))
  holds n k u w I J F s eu ew ei ej i j c =
      let N = exact (p * p) (q * q) n k in
      let l = lows n k in
      let h = highs n k s in
      let f = held n k s in
      record {
        added = subst₃ (λ (x y z : ℕ). Held x (y * 2 ^ 60) (cut n k).added ((cut n k).added + z) (taylor p q n (suc k)).added) eu ew ei f.0;
        taken = subst₃ (λ (x y z : ℕ). Held x (y * 2 ^ 60) (cut n k).taken ((cut n k).taken + z) (taylor p q n (suc k)).taken) eu ew ej f.1;
        gap = gap_le u w (cut n k).added (cut n k).taken I J N.added N.taken (whole (q * q) n k) (2 ^ 60) F (whole_pos (q * q) n k qq)
            l.0 (subst (λ (z : ℕ). 2 ^ 60 * N.added ≤ ((cut n k).added + z) * whole (q * q) n k) ei h.0)
            l.1 (subst (λ (z : ℕ). 2 ^ 60 * N.taken ≤ ((cut n k).taken + z) * whole (q * q) n k) ej h.1) c i j;
      }

  -- ---- sine, whose first term is p / q
  pub sine_holds : Holds p q (cut 1 20).added (cut 1 20).taken 31 29 124 (taylor p q 1 21)
  unfolding factorial
  sine_holds = holds 1 20 p q 31 29 124 sine_slight (pow-one p) (one-mul (q ^ 1) ∙ pow-one q) sine_short.0 sine_short.1 (omega arith) (omega arith) (sine_unit p q hq hp)

  -- |sin x / x| ≤ 3/2: for |x| ≥ 1 by the above, and below by the sizes
  pub sine_size : distance_of (cut 1 20).added (cut 1 20).taken ≤ 2 ^ 53 * 192
  sine_size = go (leb q p) (leb→le q p) (nleb→lt q p)
    where
      gap : ℕ
      gap = distance_of (cut 1 20).added (cut 1 20).taken

      go : (b : Bool) → (T b → q ≤ p) → (T (not b) → p < q) → distance_of (cut 1 20).added (cut 1 20).taken ≤ 2 ^ 53 * 192
      go true h k = le_trans (le_of_mul-le-mul_right (le_trans (mul-le-mul_left gap (h tt)) (le_trans (le_of_eq (mul_comm gap p)) sine_holds.gap)) hq) (lit≤ tt)
      go false h k = let s = sizes_small (square_of p q) 19 (square_small (k tt)) in under (cut 1 20).added (cut 1 20).taken s.0 s.1
        where
          under : (A B : ℕ) → A ≤ 21 * 2 ^ 56 → B ≤ 5 * 2 ^ 56 → distance_of A B ≤ 2 ^ 53 * 192
          under A B h k = omega arith

  -- for |x| < 2^-30 the square is cut to nothing
  pub tiny-square : p * 2 ^ 30 < q → square_of p q ≡ 0
  unfolding square_of
  tiny-square h =
      let l : p * 2 ^ 59 / q ≤ 2 ^ 29 = div-le_of_le-mul q (go h) in
      div-eq_of_lt (lt_of_le_of_lt (mul-le-mul l l) (lit< tt))
    where
      go : p * 2 ^ 30 < q → p * 2 ^ 59 ≤ q * 2 ^ 29
      go h = omega arith

  -- ---- cosine, whose first term is 1
  pub cosine_holds : Holds 1 1 (cut 0 21).added (cut 0 21).taken 123 125 125 (taylor p q 0 22)
  unfolding factorial
  cosine_holds =
      let c = cosine_unit (p * p) (q * q) (sixteen p q hp) in
      holds 0 21 1 1 123 125 125 cosine_slight (pow-zero p) (one-mul (q ^ 0) ∙ pow-zero q) cosine_short.0 cosine_short.1 (omega arith) (omega arith)
      (subst₂ (λ (x y : ℕ). 2 ^ 60 * x ≤ (2 ^ 60 + 1) * y) (sym (one-mul (distance_of (exact (p * p) (q * q) 0 21).added (exact (p * p) (q * q) 0 21).taken))) (sym (one-mul (whole (q * q) 0 21))) c)

  pub cosine_size : distance_of (cut 0 21).added (cut 0 21).taken ≤ 2 ^ 53 * 129
  cosine_size = go (distance_of (cut 0 21).added (cut 0 21).taken) cosine_holds.gap
    where
      go : (g : ℕ) → 1 * g ≤ (2 ^ 60 + 1 + 125) * 1 → g ≤ 2 ^ 53 * 129
      go g h = omega arith
