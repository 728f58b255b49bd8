-- The sum of the arc tangent from 1/4 on: `sides_at` holds either side of it to 9 units, and their difference is from 0 to 1920 / 1024. Assumes nothing.
use mathlib.Core.Path.{◌≡◌, sym, ap, ap₂, ◌∙◌, subst}
use mathlib.Core.Bool.{Bool, true, false, not, cond}
use Prim.Native.Nat.{ℕ, ◌+◌, ◌-◌, ◌*◌, ◌/◌, ◌^◌, ◌≤◌, ◌<◌}
use native.Mathlib.Nat.{add-zero, le_refl, le_of_eq, zero-mul, zero-div}
use native.Mathlib.Omega.{arith}
use lib.Dec.{T, ltb, ltb→lt, nltb→le, lit≤}
use Rattle.bounds.specs.Fractions.{Fraction, Difference, ◌⊞◌}
use Rattle.arctangent.specs.Sums.{powers}
use Rattle.bounds.specs.laws.Held.{Held, wider, sum-held}
use Rattle.arctangent.specs.Series.{◌and◌, ◌without◌, A, signed_a, half, quarter, arctangent}
use Rattle.arctangent.specs.Arctangent.{sides, factor_of, sum_of, next_to, half_sides, quarter_sides, right_sides, two_sides, sides_at}
use Rattle.arctangent.specs.declared.sums.Sides.{Sides}
use Rattle.arctangent.proofs.Factor.{t-le, sum_added, sum-taken, sum_added_le, sum-taken-le}

-- either side is short by at most i units
pub record Holds (i : ℕ) (z : Sides) (x : Difference) : Type 0 where
  pub added : Held 1 (2 ^ 63) z.added (z.added + i) x.added
  pub taken : Held 1 (2 ^ 63) z.taken (z.taken + i) x.taken

-- what it adds is more than what it takes away, by at most 1920 / 1024
pub record Ordered (z : Sides) : Type 0 where
  pub least : z.taken ≤ z.added
  pub most : z.added ≤ z.taken + 2 ^ 53 * 1920

-- the sides of c leave room for one sum more
pub record Roomy (c : Sides) : Type 0 where
  pub least : c.taken + (9 * 2 ^ 58 + 9 * 2 ^ 54) ≤ c.added
  pub most : c.added + (9 * 2 ^ 58 + 9 * 2 ^ 54) ≤ c.taken + 2 ^ 53 * 1920

-- ---- sums of sides
both-held : (l l' i j : ℕ) (x y : Fraction) → Held 1 (2 ^ 63) l (l + i) x → Held 1 (2 ^ 63) l' (l' + j) y → Held 1 (2 ^ 63) (l + l') (l + l' + (i + j)) (x ⊞ y)
both-held l l' i j x y a b = wider 1 (2 ^ 63) (l + l') (l + i + (l' + j)) (l + l') (l + l' + (i + j)) (x ⊞ y) (le_refl (l + l')) (le_of_eq (sums l l' i j)) (sum-held 1 (2 ^ 63) l (l + i) l' (l' + j) x y a b)
  where
    sums : (l l' i j : ℕ) → l + i + (l' + j) ≡ l + l' + (i + j)
    sums l l' i j = omega arith

pub and_holds : (i j : ℕ) (z y : Sides) (v w : Difference) → Holds i z v → Holds j y w → Holds (i + j) (sides (z.added + y.added) (z.taken + y.taken)) (v and w)
and_holds i j z y v w a b = record {
  added = both-held z.added y.added i j v.added w.added a.added b.added;
  taken = both-held z.taken y.taken i j v.taken w.taken a.taken b.taken;
}

pub without_holds : (i j : ℕ) (z y : Sides) (v w : Difference) → Holds i z v → Holds j y w → Holds (i + j) (sides (z.added + y.taken) (z.taken + y.added)) (v without w)
without_holds i j z y v w a b = record {
  added = both-held z.added y.taken i j v.added w.taken a.added b.taken;
  taken = both-held z.taken y.added i j v.taken w.added a.taken b.added;
}

pub looser : (i j : ℕ) (z : Sides) (x : Difference) → i ≤ j → Holds i z x → Holds j z x
looser i j z x h a = record {
  added = wider 1 (2 ^ 63) z.added (z.added + i) z.added (z.added + j) x.added (le_refl z.added) (more z.added) a.added;
  taken = wider 1 (2 ^ 63) z.taken (z.taken + i) z.taken (z.taken + j) x.taken (le_refl z.taken) (more z.taken) a.taken;
}
  where
    more : (l : ℕ) → l + i ≤ l + j
    more l = omega arith

-- ---- the constants
pub half_holds : Holds 1 half_sides half
unfolding powers
half_holds = record { added = record { low = lit≤ tt; high = lit≤ tt }; taken = record { low = lit≤ tt; high = lit≤ tt } }

pub quarter_holds : Holds 1 quarter_sides quarter
unfolding powers
quarter_holds = record { added = record { low = lit≤ tt; high = lit≤ tt }; taken = record { low = lit≤ tt; high = lit≤ tt } }

pub right_holds : Holds 2 right_sides (quarter and quarter)
right_holds = and_holds 1 1 quarter_sides quarter_sides quarter quarter quarter_holds quarter_holds

two_holds : Holds 3 two_sides ((quarter and quarter) without half)
two_holds = without_holds 2 1 right_sides half_sides (quarter and quarter) half right_holds half_holds

half_roomy : Roomy half_sides
half_roomy = record { least = lit≤ tt; most = lit≤ tt }

quarter_roomy : Roomy quarter_sides
quarter_roomy = record { least = lit≤ tt; most = lit≤ tt }

two_roomy : Roomy two_sides
two_roomy = record { least = lit≤ tt; most = lit≤ tt }

right_roomy : Roomy right_sides
right_roomy = record { least = lit≤ tt; most = lit≤ tt }

pub roomy_ordered : (c : Sides) → Roomy c → Ordered c
roomy_ordered c r = let l = r.least in let m = r.most in record { least = (omega arith); most = (omega arith) }

pub right_ordered : Ordered right_sides
right_ordered = roomy_ordered right_sides right_roomy

-- ---- c + A((a - b) / d), |a - b| / d ≤ 1/4
sum_holds : (p q : ℕ) → 0 < q → 4 * p ≤ q → Holds 3 (sum_of p q) (A p q)
sum_holds p q hq h = record { added = sum_added p q hq h; taken = sum-taken p q hq h }

pub sum_sizes : (p q : ℕ) → 0 < q → 4 * p ≤ q → ((sum_of p q).added ≤ 9 * 2 ^ 58) × ((sum_of p q).taken ≤ 9 * 2 ^ 54)
unfolding sum_of
sum_sizes p q hq h = (sum_added_le (p * 2 ^ 64 / q) (t-le p q hq h), sum-taken-le (p * 2 ^ 64 / q) (t-le p q hq h))

module _ (c : Sides) (a b d : ℕ) (hd : 0 < d) (h : 4 * (a - b) ≤ d) (k : 4 * (b - a) ≤ d) where
  next_holds : (x : Difference) → Holds 3 c x → Holds 9 (next_to c a b d) (x and signed_a a b d)
  unfolding next_to
  next_holds x g =
      let U = sum_of (a - b) d in
      let D = sum_of (b - a) d in
      let y = and_holds 3 6 c (sides (U.added + D.taken) (U.taken + D.added)) x (signed_a a b d) g (without_holds 3 3 U D (A (a - b) d) (A (b - a) d) (sum_holds (a - b) d hd h) (sum_holds (b - a) d hd k)) in
      record {
        added = subst (λ (z : ℕ). Held 1 (2 ^ 63) z (z + 9) (x.added ⊞ (signed_a a b d).added)) (regroup c.added U.added D.taken) y.added;
        taken = subst (λ (z : ℕ). Held 1 (2 ^ 63) z (z + 9) (x.taken ⊞ (signed_a a b d).taken)) (regroup c.taken U.taken D.added) y.taken;
      }
    where
      regroup : (x y z : ℕ) → x + (y + z) ≡ x + y + z
      regroup x y z = omega arith

  next_ordered : Roomy c → Ordered (next_to c a b d)
  unfolding next_to
  next_ordered r =
      let U = sum_sizes (a - b) d hd h in
      let D = sum_sizes (b - a) d hd k in
      record {
        least = lower c.added c.taken (sum_of (a - b) d).added (sum_of (a - b) d).taken (sum_of (b - a) d).added (sum_of (b - a) d).taken U.1 D.0 r.least;
        most = upper c.added c.taken (sum_of (a - b) d).added (sum_of (a - b) d).taken (sum_of (b - a) d).added (sum_of (b - a) d).taken U.0 D.1 r.most;
      }
    where
      lower : (p m ua ut da dt : ℕ) → ut ≤ 9 * 2 ^ 54 → da ≤ 9 * 2 ^ 58 → m + (9 * 2 ^ 58 + 9 * 2 ^ 54) ≤ p → m + ut + da ≤ p + ua + dt
      lower p m ua ut da dt a b c = omega arith

      upper : (p m ua ut da dt : ℕ) → ua ≤ 9 * 2 ^ 58 → dt ≤ 9 * 2 ^ 54 → p + (9 * 2 ^ 58 + 9 * 2 ^ 54) ≤ m + 2 ^ 53 * 1920 → p + ua + dt ≤ m + ut + da + 2 ^ 53 * 1920
      upper p m ua ut da dt a b c = omega arith

-- nothing has no sum
pub none-sum : (d : ℕ) → sum_of 0 d ≡ sides 0 0
unfolding sum_of
none-sum d = ap (λ (t : ℕ). sides (t * (factor_of t).added / 2 ^ 64) (t * (factor_of t).taken / 2 ^ 64)) (ap (λ (z : ℕ). z / d) (zero-mul (2 ^ 64)) ∙ zero-div d) ∙ ap₂ sides (flat (factor_of 0).added) (flat (factor_of 0).taken)
  where
    flat : (x : ℕ) → 0 * x / 2 ^ 64 ≡ 0
    flat x = ap (λ (z : ℕ). z / 2 ^ 64) (zero-mul x)

none : (a b : ℕ) → a ≤ b → a - b ≡ 0
none a b h = omega arith

pub next_down : (c : Sides) (a b d : ℕ) → a ≤ b → next_to c a b d ≡ sides (c.added + (sum_of (b - a) d).taken) (c.taken + (sum_of (b - a) d).added)
unfolding next_to
next_down c a b d h =
    let D = sum_of (b - a) d in
    ap (λ (u : Sides). sides (c.added + u.added + D.taken) (c.taken + u.taken + D.added)) (ap (λ (x : ℕ). sum_of x d) (none a b h) ∙ none-sum d) ∙ ap₂ sides (ap (λ (x : ℕ). x + D.taken) (add-zero c.added)) (ap (λ (x : ℕ). x + D.added) (add-zero c.taken))

pub next_up : (c : Sides) (a b d : ℕ) → b ≤ a → next_to c a b d ≡ sides (c.added + (sum_of (a - b) d).added) (c.taken + (sum_of (a - b) d).taken)
unfolding next_to
next_up c a b d h =
    let U = sum_of (a - b) d in
    ap (λ (u : Sides). sides (c.added + U.added + u.taken) (c.taken + U.taken + u.added)) (ap (λ (x : ℕ). sum_of x d) (none b a h) ∙ none-sum d) ∙ ap₂ sides (add-zero (c.added + U.added)) (add-zero (c.taken + U.taken))

-- from 4 on
pub far_is : (p q : ℕ) → next_to right_sides 0 q p ≡ sides (right_sides.added + (sum_of q p).taken) (right_sides.taken + (sum_of q p).added)
far_is p q = next_down right_sides 0 q p (least q) ∙ ap (λ (x : ℕ). sides (right_sides.added + (sum_of x p).taken) (right_sides.taken + (sum_of x p).added)) (whole q)
  where
    least : (q : ℕ) → 0 ≤ q
    least q = omega arith

    whole : (q : ℕ) → q - 0 ≡ q
    whole q = omega arith

far_holds : (p q : ℕ) → 0 < p → 4 * q ≤ p → Holds 9 (next_to right_sides 0 q p) ((quarter and quarter) without A q p)
far_holds p q hp h =
    subst (λ (z : Sides). Holds 9 z ((quarter and quarter) without A q p)) (sym (far_is p q))
    (looser 5 9 (sides (right_sides.added + (sum_of q p).taken) (right_sides.taken + (sum_of q p).added)) ((quarter and quarter) without A q p) (lit≤ tt) (without_holds 2 3 right_sides (sum_of q p) (quarter and quarter) (A q p) right_holds (sum_holds q p hp h)))

-- ---- all of it
module _ (p q : ℕ) (hq : 0 < q) (hp : q ≤ 4 * p) where
  -- the four ways, by what their tests say
  ways : (P : Sides → Difference → Type 0)
      → (4 * p < 3 * q → P (next_to half_sides (2 * p) q (p + 2 * q)) (half and signed_a (2 * p) q (p + 2 * q)))
      → (3 * q ≤ 4 * p → 2 * p < 3 * q → P (next_to quarter_sides p q (p + q)) (quarter and signed_a p q (p + q)))
      → (3 * q ≤ 2 * p → p < 4 * q → P (next_to two_sides p (2 * q) (2 * p + q)) ((quarter and quarter) without half and signed_a p (2 * q) (2 * p + q)))
      → (4 * q ≤ p → P (next_to right_sides 0 q p) ((quarter and quarter) without A q p))
      → P (sides_at p q) (arctangent p q)
  unfolding sides_at arctangent
  ways P f g h k = go (ltb (4 * p) q) (ltb (4 * p) (3 * q)) (ltb (2 * p) (3 * q)) (ltb p (4 * q)) (ltb→lt (4 * p) q) (ltb→lt (4 * p) (3 * q)) (nltb→le (4 * p) (3 * q)) (ltb→lt (2 * p) (3 * q)) (nltb→le (2 * p) (3 * q)) (ltb→lt p (4 * q)) (nltb→le p (4 * q))
    where
      not-both : 4 * p < q → ⊥
      not-both l = let m = hp in omega arith

      go : (o x y z : Bool) → (T o → 4 * p < q) → (T x → 4 * p < 3 * q) → (T (not x) → 3 * q ≤ 4 * p) → (T y → 2 * p < 3 * q) → (T (not y) → 3 * q ≤ 2 * p) → (T z → p < 4 * q) → (T (not z) → 4 * q ≤ p)
          → P (cond x (next_to half_sides (2 * p) q (p + 2 * q)) (cond y (next_to quarter_sides p q (p + q)) (cond z (next_to two_sides p (2 * q) (2 * p + q)) (next_to right_sides 0 q p))))
          (cond o (A p q) (cond x (half and signed_a (2 * p) q (p + 2 * q)) (cond y (quarter and signed_a p q (p + q)) (cond z ((quarter and quarter) without half and signed_a p (2 * q) (2 * p + q)) ((quarter and quarter) without A q p)))))
      go true x y z o xt xf yt yf zt zf = absurd (not-both (o tt))
      go false true y z o xt xf yt yf zt zf = f (xt tt)
      go false false true z o xt xf yt yf zt zf = g (xf tt) (yt tt)
      go false false false true o xt xf yt yf zt zf = h (yf tt) (zt tt)
      go false false false false o xt xf yt yf zt zf = k (zf tt)

  p_pos : 0 < p
  p_pos = omega arith

  pub sides_holds : Holds 9 (sides_at p q) (arctangent p q)
  sides_holds =
      ways (Holds 9)
      (λ l. next_holds half_sides (2 * p) q (p + 2 * q) (omega arith) (omega arith) (omega arith) half (looser 1 3 half_sides half (lit≤ tt) half_holds))
      (λ k l. next_holds quarter_sides p q (p + q) (omega arith) (omega arith) (omega arith) quarter (looser 1 3 quarter_sides quarter (lit≤ tt) quarter_holds))
      (λ k l. next_holds two_sides p (2 * q) (2 * p + q) (omega arith) (omega arith) (omega arith) ((quarter and quarter) without half) two_holds)
      (λ l. far_holds p q p_pos l)

  pub sides_ordered : Ordered (sides_at p q)
  sides_ordered =
      ways (λ (z : Sides) (x : Difference). Ordered z)
      (λ l. next_ordered half_sides (2 * p) q (p + 2 * q) (omega arith) (omega arith) (omega arith) half_roomy)
      (λ k l. next_ordered quarter_sides p q (p + q) (omega arith) (omega arith) (omega arith) quarter_roomy)
      (λ k l. next_ordered two_sides p (2 * q) (2 * p + q) (omega arith) (omega arith) (omega arith) two_roomy)
      (λ l. next_ordered right_sides 0 q p p_pos (omega arith) (omega arith) right_roomy)
