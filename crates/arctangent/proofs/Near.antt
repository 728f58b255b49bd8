-- The arc tangent, as its steps give it, lies near the exact sum. Assumes nothing.
use Rattle.std.specs.Prelude.{Result}
use mathlib.Core.Path.{◌≡◌, refl, sym, ap, ◌∙◌, subst}
use mathlib.Core.Logic.{◌⊎◌, inr}
use mathlib.Core.Bool.{Bool, true, false, not, cond}
use Prim.Native.Nat.{ℕ, ◌+◌, ◌-◌, ◌*◌, ◌/◌, ◌^◌, ◌≤◌, ◌<◌}
use native.Mathlib.Nat.{mul_assoc, mul_comm, mul_left_comm, mul-pos, mul-le-mul, le_trans, le_of_lt, lt_of_le_of_lt, div-lt_iff_lt-mul, div-eq_of_lt}
use native.Mathlib.Omega.{arith}
use lib.IntN.{ℤ}
use lib.Arith.{le→nltb}
use lib.Dec.{T, leb, ltb, leb→le, nleb→lt, ltb→lt, nltb→le, lit≤, lit<}
use lib.Pow.{pow_pos}
use lib.Ieee.{Float, nan, inf, fin, binary64, up, down, unlike, round, fits}
use lib.Ieee.Bits.{is_false}
use lib.Ieee.Exact.{HasValue}
use lib.Ieee.Fits.{down_pos}
use lib.Ieee.Scale.{round_same}
use Rattle.laws.specs.Ladder.{held}
use Rattle.laws.specs.laws.Exact.{round_self}
use Rattle.laws.specs.laws.Flags.{holds, fails}
use Rattle.answer.specs.declared.Answer.{Answer}
use Rattle.answer.specs.declared.Refusal.{Refusal}
use Rattle.answer.specs.Answer.{OneThat}
use Rattle.bounds.specs.Fractions.{Difference, ◌over◌}
use Rattle.bounds.specs.Close.{distance_of, Close}
use Rattle.arctangent.specs.Sums.{run_of}
use Rattle.bounds.specs.laws.Held.{Held}
use Rattle.bounds.specs.laws.Rounds.{in_range, closes}
use Rattle.arctangent.specs.Series.{◌and◌, A, quarter, arctangent, allowed, ArctangentWithin}
use Rattle.arctangent.specs.Arctangent.{sides, factor_of, right_sides, sides_at, arctangent_at, arctangent_of}
use Rattle.arctangent.specs.declared.sums.Sides.{Sides}
use Rattle.arctangent.proofs.Factor.{t-le, added_le, taken_added, factor_added, factor_taken}
use Rattle.arctangent.proofs.Sides.{Holds, Ordered, looser, right_holds, right_ordered, sides_holds, sides_ordered}

-- where nothing is turned
kept : (s : Bool) → unlike s false ≡ s
kept true = refl
kept false = refl

sign_is : (s : Bool) (x y : ℕ) → y ≤ x → unlike s (ltb x y) ≡ s
sign_is s x y h = ap (unlike s) (is_false (ltb x y) (le→nltb x y h)) ∙ kept s

gap_is : (x y : ℕ) → y ≤ x → distance_of x y ≡ x - y
gap_is x y h = omega arith

-- ---- from 1/4 on
sides_close : (s : Bool) (z : Sides) (x : Difference) → Holds 9 z x → Ordered z → (k d : ℕ) → k * 2 ^ d ≡ 2 ^ 63 → 2048 ≤ k → Close (1 over 2 ^ d) x s (round binary64 s (z.added - z.taken) (2 ^ 63))
sides_close s z x h o k d e l =
    subst (Close (1 over 2 ^ d) x s) (λ i. round binary64 (sign_is s z.added z.taken o.least i) (one z.added z.taken o.least i) (2 ^ 63))
    (closes s 1 1 (2 ^ 63) z.added z.taken 9 9 1920 (pow_pos 63) x h.added h.taken small most (in_range s 1 1 (2 ^ 63) z.added z.taken 9 9 1920 (pow_pos 63) x h.added h.taken small most 1 (lit≤ tt) (lit≤ tt)) k (1 over 2 ^ d) (unit (2 ^ d) (2 ^ 63) e) (omega arith) (omega arith))
  where
    one : (x y : ℕ) → y ≤ x → 1 * distance_of x y ≡ x - y
    one x y h = omega arith

    small : distance_of z.added z.taken ≤ 2 ^ 53 * 1920
    small = go z.added z.taken o.least o.most
      where
        go : (x y : ℕ) → y ≤ x → x ≤ y + 2 ^ 53 * 1920 → distance_of x y ≤ 2 ^ 53 * 1920
        go x y a b = omega arith

    most : 1 * distance_of z.added z.taken ≤ 2 ^ 11 * (1 * 2 ^ 63)
    most = go (distance_of z.added z.taken) small
      where
        go : (g : ℕ) → g ≤ 2 ^ 53 * 1920 → 1 * g ≤ 2 ^ 11 * (1 * 2 ^ 63)
        go g h = omega arith

    unit : (D P : ℕ) → k * D ≡ P → Held 1 P k k (1 over D)
    unit D P h = record { low = (omega arith); high = (omega arith) }

-- ---- below 1/4
module _ (s : Bool) (m : ℕ) (e : ℤ) (f : T (fits binary64 (fin s m e))) (hp : 4 * (m * up e) < down e) where
  abbrev p : ℕ
  p = m * up e

  abbrev q : ℕ
  q = down e

  Q : 0 < q * 2 ^ 63
  Q = mul-pos (down_pos e) (pow_pos 63)

  quarter-le : 4 * (m * up e) ≤ down e
  quarter-le = le_of_lt hp

  abbrev t : ℕ
  t = p * 2 ^ 64 / q

  B : ℕ
  B = (factor_of t).added

  C : ℕ
  C = (factor_of t).taken

  below : C ≤ B
  unfolding B C
  below = taken_added t (t-le p q (down_pos e) quarter-le)

  size : distance_of B C ≤ 2 ^ 53 * 1152
  unfolding B C
  size = go (factor_of t).added (factor_of t).taken (added_le t (t-le p q (down_pos e) quarter-le)) below
    where
      go : (x y : ℕ) → x ≤ 9 * 2 ^ 60 → y ≤ x → distance_of x y ≤ 2 ^ 53 * 1152
      go x y a b = omega arith

  most : p * distance_of B C ≤ 2 ^ 11 * (q * 2 ^ 63)
  most = le_trans (mul-le-mul (whole p q quarter-le) size) (large q)
    where
      whole : (p q : ℕ) → 4 * p ≤ q → p ≤ q
      whole p q h = omega arith

      large : (q : ℕ) → q * (2 ^ 53 * 1152) ≤ 2 ^ 11 * (q * 2 ^ 63)
      large q = omega arith

  a : Held p (q * 2 ^ 63) B (B + 4) (A p q).added
  unfolding B
  a = factor_added p q (down_pos e) quarter-le

  b : Held p (q * 2 ^ 63) C (C + 4) (A p q).taken
  unfolding C
  b = factor_taken p q (down_pos e) quarter-le

  abbrev IsExact : ℕ → Type 0
  IsExact t =
      let f = factor_of t in
      let s' = unlike s (ltb f.added f.taken) in
      HasValue (round binary64 s' (p * distance_of f.added f.taken) (q * 2 ^ 63)) s' (p * distance_of f.added f.taken) (q * 2 ^ 63)

  -- with no square left the factor is 1, and the arc tangent x
  plain : (t : ℕ) → t * t / 2 ^ 64 ≡ 0 → factor_of t ≡ sides (2 ^ 63) 0
  unfolding factor_of run_of
  plain t z = ap (λ (w : ℕ). sides (run_of (w * w / 2 ^ 64) 1 4 11) (w * run_of (w * w / 2 ^ 64) 3 4 10 / 2 ^ 64)) z

  tiny : (t : ℕ) → t * t / 2 ^ 64 ≡ 0 → IsExact t
  tiny t z =
      subst (λ (f : Sides). HasValue (round binary64 (unlike s (ltb f.added f.taken)) (p * distance_of f.added f.taken) (q * 2 ^ 63)) (unlike s (ltb f.added f.taken)) (p * distance_of f.added f.taken) (q * 2 ^ 63)) (sym (plain t z))
      (subst (λ (b : Bool). HasValue (round binary64 b (p * 2 ^ 63) (q * 2 ^ 63)) b (p * 2 ^ 63) (q * 2 ^ 63)) (sym (kept s))
      (subst (λ (r : Float). HasValue r s (p * 2 ^ 63) (q * 2 ^ 63)) (sym own) (refl, move p q (2 ^ 63))))
    where
      move : (p q K : ℕ) → p * (q * K) ≡ p * K * q
      move p q K = simp (mul_assoc, mul_comm, mul_left_comm)

      own : round binary64 s (p * 2 ^ 63) (q * 2 ^ 63) ≡ fin s m e
      own = round_same binary64 s (p * 2 ^ 63) (q * 2 ^ 63) p q Q (down_pos e) (sym (move p q (2 ^ 63))) ∙ round_self binary64 s m e f

  tiny-square : p * 2 ^ 32 < q → t * t / 2 ^ 64 ≡ 0
  tiny-square h =
      let l : t < 2 ^ 32 = (div-lt_iff_lt-mul (down_pos e)).1 (go p q h) in
      let k : t ≤ 2 ^ 32 - 1 = omega arith in
      div-eq_of_lt (lt_of_le_of_lt (mul-le-mul k k) (lit< tt))
    where
      go : (p q : ℕ) → p * 2 ^ 32 < q → p * 2 ^ 64 < 2 ^ 32 * q
      go p q h = omega arith

  range : (2 ^ 52 * (q * 2 ^ 63) ≤ p * distance_of B C * 2 ^ 1074) ⊎ IsExact t
  unfolding B C
  range = go (leb q (p * 2 ^ 32)) (leb→le q (p * 2 ^ 32)) (nleb→lt q (p * 2 ^ 32))
    where
      go : (b : Bool) → (T b → q ≤ p * 2 ^ 32) → (T (not b) → p * 2 ^ 32 < q) → (2 ^ 52 * (q * 2 ^ 63) ≤ p * distance_of B C * 2 ^ 1074) ⊎ IsExact t
      go false h k = inr (tiny t (tiny-square (k tt)))
      go true h k = in_range s p q (2 ^ 63) B C 4 4 1152 Q (A p q) a b size most (2 ^ 32) (h tt) (lit≤ tt)

  factor_close : (k d : ℕ) → k * 2 ^ d ≡ 2 ^ 63 → 2048 ≤ k → Close (p over (q * 2 ^ d)) (A p q) s (round binary64 s (p * ((factor_of t).added - (factor_of t).taken)) (q * 2 ^ 63))
  unfolding B C
  factor_close k d e' l =
      subst (Close (p over (q * 2 ^ d)) (A p q) s) (λ i. round binary64 (sign_is s B C below i) (p * gap_is B C below i) (q * 2 ^ 63))
      (closes s p q (2 ^ 63) B C 4 4 1152 Q (A p q) a b size most range k (p over (q * 2 ^ d)) (unit p q (2 ^ d) (2 ^ 63) e') (omega arith) (omega arith))
    where
      unit : (p q D P : ℕ) → k * D ≡ P → Held p (q * P) k k (p over (q * D))
      unit p q D P h = let x : p * q * (k * D) ≡ p * q * P = ap (λ (z : ℕ). p * q * z) h in record { low = (omega arith); high = (omega arith) }

-- ---- the answer
module _ (s : Bool) (m : ℕ) (e : ℤ) (f : T (fits binary64 (fin s m e))) (k d : ℕ) (h : k * 2 ^ d ≡ 2 ^ 63) (l : 2048 ≤ k) where
  abbrev P : ℕ
  P = m * up e

  abbrev R : ℕ
  R = down e

  near-sum : ltb (4 * P) R ≡ true → A P R ≡ arctangent P R
  unfolding arctangent
  near-sum z = held (A P R) _ z refl

  finite_close : Close (allowed d P R) (arctangent P R) s (arctangent_at s P R)
  unfolding allowed arctangent_at
  finite_close = go (ltb (4 * P) R) refl
    where
      x : Float
      x = round binary64 s (P * ((factor_of (P * 2 ^ 64 / R)).added - (factor_of (P * 2 ^ 64 / R)).taken)) (R * 2 ^ 63)

      y : Float
      y = round binary64 s ((sides_at P R).added - (sides_at P R).taken) (2 ^ 63)

      At : Bool → Difference → Type 0
      At b z = Close (cond b (P over (R * 2 ^ d)) (1 over 2 ^ d)) z s (cond b x y)

      go : (b : Bool) → ltb (4 * P) R ≡ b → At (ltb (4 * P) R) (arctangent P R)
      go true z = subst (λ (b : Bool). At b (arctangent P R)) (sym z) (subst (At true) (near-sum z) (factor_close s m e f (ltb→lt (4 * P) R (holds z)) k d h l))
      go false z =
          let n = nltb→le (4 * P) R (fails z) in
          subst (λ (b : Bool). At b (arctangent P R)) (sym z) (sides_close s (sides_at P R) (arctangent P R) (sides_holds P R (down_pos e) n) (sides_ordered P R (down_pos e) n) k d h l)

within : (k d : ℕ) → k * 2 ^ d ≡ 2 ^ 63 → 2048 ≤ k → (x : Float) → T (fits binary64 x) → ArctangentWithin d x (arctangent_of x)
unfolding ArctangentWithin OneThat arctangent_of
within k d h l nan f = refl
within k d h l (inf s) f = sides_close s right_sides (quarter and quarter) (looser 2 9 right_sides (quarter and quarter) (lit≤ tt) right_holds) right_ordered k d h l
within k d h l (fin s m e) f = finite_close s m e f k d h l

-- ---- the contract, from the steps: 2^63 units are 2^11 of 2^-52
pub promise : (x : Float) (r : Result Answer Refusal) → T (fits binary64 x) → r ≡ arctangent_of x → (r ≡ arctangent_of x) × ArctangentWithin 52 x r
promise x r f e = subst (λ (a : Result Answer Refusal). (a ≡ arctangent_of x) × ArctangentWithin 52 x a) (sym e) (refl, within (2 ^ 11) 52 refl (lit≤ tt) x f)
