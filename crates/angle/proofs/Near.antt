-- Sine and cosine, as their steps give them, lie near the exact sums and within ±1. One closing for both. Assumes nothing.
use Rattle.std.specs.Prelude.{Result, Ok, Err}
use mathlib.Core.Path.{◌≡◌, refl, sym, ap, ◌∙◌, subst}
use mathlib.Core.Logic.{◌⊎◌, inr}
use mathlib.Core.Bool.{Bool, true, false, not, cond}
use Prim.Native.Nat.{ℕ, ◌+◌, ◌*◌, ◌^◌, ◌≤◌, ◌<◌}
use native.Mathlib.Nat.{mul-add, add-mul, mul_assoc, mul_comm, mul_left_comm, mul-pos, le_trans}
use native.Mathlib.Omega.{arith}
use lib.IntN.{ℤ}
use lib.Dec.{T, leb, ltb, leb→le, nleb→lt, nltb→le, lit≤}
use lib.Pow.{pow_pos}
use lib.Ieee.{Float, nan, inf, fin, binary64, up, down, unlike, round, fits}
use lib.Ieee.Fits.{down_pos}
use lib.Ieee.Exact.{HasValue}
use lib.Ieee.Scale.{round_same}
use Rattle.laws.specs.laws.Exact.{round_self}
use Rattle.answer.specs.declared.Answer.{Answer}
use Rattle.answer.specs.declared.Refusal.{Refusal}
use Rattle.answer.specs.declared.Answer.TheVariants.{One}
use Rattle.answer.specs.declared.Refusal.TheVariants.{OutOfRange}
use Rattle.answer.specs.Answer.{OneThat}
use Rattle.bounds.specs.Fractions.{◌over◌, AtMost}
use Rattle.angle.specs.Series.{taylor, UpToFour, SineWithin, CosineWithin, UpToOne}
use Rattle.bounds.specs.Close.{distance_of, Close}
use Rattle.angle.specs.Alternating.{square_of, alternating_of, up_to_four}
use Rattle.angle.specs.Sine.{sine_at, sine_of}
use Rattle.angle.specs.Cosine.{cosine_by, cosine_at, cosine_of}
use Rattle.bounds.specs.laws.Held.{Held}
use Rattle.bounds.specs.laws.Rounds.{in_range, closes, stays, plainly}
use Rattle.angle.proofs.Angles.{Holds, sine_holds, sine_size, tiny-square, cosine_holds, cosine_size}

ruleset sorted = (mul-add, add-mul, mul_assoc, mul_comm, mul_left_comm)

-- ---- sine
module _ (s : Bool) (m : ℕ) (e : ℤ) (f : T (fits binary64 (fin s m e))) (hp : m * up e ≤ 4 * down e) where
  abbrev p : ℕ
  p = m * up e

  abbrev q : ℕ
  q = down e

  Q : 0 < q * 2 ^ 60
  Q = mul-pos (down_pos e) (pow_pos 60)

  H : Holds p q (alternating_of (square_of p q) 1 20).added (alternating_of (square_of p q) 1 20).taken 31 29 124 (taylor p q 1 21)
  H = sine_holds p q (down_pos e) hp

  most : p * distance_of (alternating_of (square_of p q) 1 20).added (alternating_of (square_of p q) 1 20).taken ≤ 2 ^ 11 * (q * 2 ^ 60)
  most = le_trans H.gap (large q)
    where
      large : (q : ℕ) → (2 ^ 60 + 1 + 124) * q ≤ 2 ^ 11 * (q * 2 ^ 60)
      large q = omega arith

  abbrev IsExact : ℕ → Type 0
  IsExact t =
      let b = alternating_of t 1 20 in
      let s' = unlike s (ltb b.added b.taken) in
      HasValue (round binary64 s' (p * distance_of b.added b.taken) (q * 2 ^ 60)) s' (p * distance_of b.added b.taken) (q * 2 ^ 60)

  -- with no square left the sum is 1, and sine x is x
  tiny : IsExact 0
  unfolding alternating_of
  tiny =
      subst (λ (b : Bool). HasValue (round binary64 b (p * 2 ^ 60) (q * 2 ^ 60)) b (p * 2 ^ 60) (q * 2 ^ 60)) (sym (kept s))
      (subst (λ (r : Float). HasValue r s (p * 2 ^ 60) (q * 2 ^ 60)) (sym own) (refl, move p q (2 ^ 60)))
    where
      kept : (s : Bool) → unlike s false ≡ s
      kept true = refl
      kept false = refl

      move : (p q K : ℕ) → p * (q * K) ≡ p * K * q
      move p q K = simp (mul_assoc, mul_comm, mul_left_comm)

      own : round binary64 s (p * 2 ^ 60) (q * 2 ^ 60) ≡ fin s m e
      own = round_same binary64 s (p * 2 ^ 60) (q * 2 ^ 60) p q Q (down_pos e) (sym (move p q (2 ^ 60))) ∙ round_self binary64 s m e f

  A : ℕ
  A = (alternating_of (square_of p q) 1 20).added

  B : ℕ
  B = (alternating_of (square_of p q) 1 20).taken

  range : (2 ^ 52 * (q * 2 ^ 60) ≤ p * distance_of A B * 2 ^ 1074) ⊎ IsExact (square_of p q)
  unfolding A B
  range = go (leb q (p * 2 ^ 30)) (leb→le q (p * 2 ^ 30)) (nleb→lt q (p * 2 ^ 30))
    where
      go : (b : Bool) → (T b → q ≤ p * 2 ^ 30) → (T (not b) → p * 2 ^ 30 < q) → (2 ^ 52 * (q * 2 ^ 60) ≤ p * distance_of A B * 2 ^ 1074) ⊎ IsExact (square_of p q)
      go false h k = inr (subst IsExact (sym (tiny-square p q (down_pos e) hp (k tt))) tiny)
      go true h k = in_range s p q (2 ^ 60) A B 31 29 192 Q (taylor p q 1 21) H.added H.taken (sine_size p q (down_pos e) hp) most (2 ^ 30) (h tt) (lit≤ tt)

  sine_close : (k d : ℕ) → k * 2 ^ d ≡ 2 ^ 60 → 256 ≤ k → Close (p over (q * 2 ^ d)) (taylor p q 1 21) s (sine_at s p q)
  unfolding sine_at A B
  sine_close k d e' l =
      closes s p q (2 ^ 60) A B 31 29 192 Q (taylor p q 1 21) H.added H.taken (sine_size p q (down_pos e) hp) most range k (p over (q * 2 ^ d)) (unit p q (2 ^ d) (2 ^ 60) e') (omega arith) (omega arith)
    where
      unit : (p q D P : ℕ) → k * D ≡ P → Held p (q * P) k k (p over (q * D))
      unit p q D P h =
          let x : k * D * (p * q) ≡ P * (p * q) = ap (λ (z : ℕ). z * (p * q)) h in
          record { low = (omega arith); high = (omega arith) }

  sine_le : (t : Bool) (n : ℕ) (g : ℤ) → sine_at s p q ≡ fin t n g → AtMost (n * up g over down g) (1 over 1)
  unfolding sine_at A B
  sine_le = stays s p q (2 ^ 60) A B 31 29 192 Q (taylor p q 1 21) H.added H.taken (sine_size p q (down_pos e) hp) most range (enough q (p * distance_of A B) H.gap)
    where
      enough : (q a : ℕ) → a ≤ (2 ^ 60 + 1 + 124) * q → a * 2 ^ 53 ≤ (2 ^ 53 + 1) * (q * 2 ^ 60)
      enough q a h = omega arith

-- ---- cosine
module _ (p q : ℕ) (hq : 0 < q) (hp : p ≤ 4 * q) (s : Bool) where
  C : ℕ
  C = (alternating_of (square_of p q) 0 21).added

  D : ℕ
  D = (alternating_of (square_of p q) 0 21).taken

  K : Holds 1 1 C D 123 125 125 (taylor p q 0 22)
  unfolding C D
  K = cosine_holds p q hq hp

  cosine_most : 1 * distance_of C D ≤ 2 ^ 11 * (1 * 2 ^ 60)
  cosine_most = le_trans K.gap (lit≤ tt)

  cosine_close : (k d : ℕ) → k * 2 ^ d ≡ 2 ^ 60 → 256 ≤ k → Close (1 over 2 ^ d) (taylor p q 0 22) false (cosine_at s p q)
  unfolding cosine_by cosine_at C D
  cosine_close k d e l =
      subst (Close (1 over 2 ^ d) (taylor p q 0 22) false) (plainly (2 ^ 60) C D)
      (closes false 1 1 (2 ^ 60) C D 123 125 129 (pow_pos 60) (taylor p q 0 22) K.added K.taken (cosine_size p q hq hp) cosine_most
      (in_range false 1 1 (2 ^ 60) C D 123 125 129 (pow_pos 60) (taylor p q 0 22) K.added K.taken (cosine_size p q hq hp) cosine_most 1 (lit≤ tt) (lit≤ tt)) k (1 over 2 ^ d) (unit (2 ^ d) (2 ^ 60) e) (omega arith) (omega arith))
    where
      unit : (D P : ℕ) → k * D ≡ P → Held 1 (1 * P) k k (1 over D)
      unit D P h = record { low = (omega arith); high = (omega arith) }

  cosine_le : (t : Bool) (n : ℕ) (g : ℤ) → cosine_at s p q ≡ fin t n g → AtMost (n * up g over down g) (1 over 1)
  unfolding cosine_by cosine_at C D
  cosine_le t n g e =
      stays false 1 1 (2 ^ 60) C D 123 125 129 (pow_pos 60) (taylor p q 0 22) K.added K.taken (cosine_size p q hq hp) cosine_most
      (in_range false 1 1 (2 ^ 60) C D 123 125 129 (pow_pos 60) (taylor p q 0 22) K.added K.taken (cosine_size p q hq hp) cosine_most 1 (lit≤ tt) (lit≤ tt))
      (enough (1 * distance_of C D) K.gap) t n g (plainly (2 ^ 60) C D ∙ e)
    where
      enough : (a : ℕ) → a ≤ (2 ^ 60 + 1 + 125) * 1 → a * 2 ^ 53 ≤ (2 ^ 53 + 1) * (1 * 2 ^ 60)
      enough a h = omega arith

-- ---- the answers
module _ (f : Bool → ℕ → ℕ → Float) where
  angle : (Q : Bool → ℕ → ℕ → Result Answer Refusal → Type 0) → ((s : Bool) (m : ℕ) (e : ℤ) → T (fits binary64 (fin s m e)) → m * up e ≤ 4 * down e → Q s (m * up e) (down e) (Ok (One (f s (m * up e) (down e)))))
      → (x : Float) → T (fits binary64 x) → UpToFour Q x (up_to_four f x)
  unfolding UpToFour up_to_four
  angle Q h nan g = refl
  angle Q h (inf s) g = refl
  angle Q h (fin s m e) g = go (ltb (4 * down e) (m * up e)) (nltb→le (4 * down e) (m * up e))
    where
      go : (b : Bool) → (T (not b) → m * up e ≤ 4 * down e)
          → cond b (cond b (Err OutOfRange) (Ok (One (f s (m * up e) (down e)))) ≡ Err OutOfRange) (Q s (m * up e) (down e) (cond b (Err OutOfRange) (Ok (One (f s (m * up e) (down e))))))
      go true c = refl
      go false c = h s m e g (c tt)

  in_unit : ((s : Bool) (m : ℕ) (e : ℤ) → T (fits binary64 (fin s m e)) → m * up e ≤ 4 * down e → (t : Bool) (n : ℕ) (g : ℤ) → f s (m * up e) (down e) ≡ fin t n g → AtMost (n * up g over down g) (1 over 1))
      → (x : Float) → T (fits binary64 x) → UpToOne (up_to_four f x)
  unfolding UpToOne up_to_four
  in_unit h nan g t n k e = absurd (let z : ◌≡◌ {A = ℕ} 0 1 = cc in omega arith)
  in_unit h (inf s) g t n k e = absurd (let z : ◌≡◌ {A = ℕ} 0 1 = cc in omega arith)
  in_unit h (fin s m e') g t n k e = go (ltb (4 * down e') (m * up e')) (nltb→le (4 * down e') (m * up e')) e
    where
      go : (b : Bool) → (T (not b) → m * up e' ≤ 4 * down e') → cond b (Err OutOfRange) (Ok (One (f s (m * up e') (down e')))) ≡ Ok (One (fin t n k)) → AtMost (n * up k over down k) (1 over 1)
      go true c e = absurd (let z : ◌≡◌ {A = ℕ} 0 1 = cc in omega arith)
      go false c e = h s m e' g (c tt) t n k (cc)

pub sine_within : (k d : ℕ) → k * 2 ^ d ≡ 2 ^ 60 → 256 ≤ k → (x : Float) → T (fits binary64 x) → SineWithin d x (sine_of x)
unfolding SineWithin OneThat sine_of
sine_within k d h l = angle sine_at (λ (s : Bool) (p q : ℕ). OneThat (Close (p over (q * 2 ^ d)) (taylor p q 1 21) s)) (λ s m e f c. sine_close s m e f c k d h l)

pub cosine_within : (k d : ℕ) → k * 2 ^ d ≡ 2 ^ 60 → 256 ≤ k → (x : Float) → T (fits binary64 x) → CosineWithin d x (cosine_of x)
unfolding CosineWithin OneThat cosine_of
cosine_within k d h l = angle cosine_at (λ (s : Bool) (p q : ℕ). OneThat (Close (1 over 2 ^ d) (taylor p q 0 22) false)) (λ s m e f c. cosine_close (m * up e) (down e) (down_pos e) c s k d h l)

pub sine_up_to_one : (x : Float) → T (fits binary64 x) → UpToOne (sine_of x)
unfolding sine_of
sine_up_to_one = in_unit sine_at (λ s m e f c t n g h. sine_le s m e f c t n g h)

pub cosine_up_to_one : (x : Float) → T (fits binary64 x) → UpToOne (cosine_of x)
unfolding cosine_of
cosine_up_to_one = in_unit cosine_at (λ s m e f c t n g h. cosine_le (m * up e) (down e) (down_pos e) c s t n g h)

-- ---- the contracts, from the steps: 2^60 units are 2^12 of 2^-48, 2^14 of 2^-46 and 2^8 of 2^-52
pub sine_promise : (x : Float) (r : Result Answer Refusal) → T (fits binary64 x) → r ≡ sine_of x → (r ≡ sine_of x) × SineWithin 48 x r × SineWithin 52 x r × UpToOne r
sine_promise x r f e =
    subst (λ (a : Result Answer Refusal). (a ≡ sine_of x) × SineWithin 48 x a × SineWithin 52 x a × UpToOne a) (sym e)
    (refl, sine_within (2 ^ 12) 48 refl (lit≤ tt) x f, sine_within (2 ^ 8) 52 refl (lit≤ tt) x f, sine_up_to_one x f)

pub cosine_promise : (x : Float) (r : Result Answer Refusal) → T (fits binary64 x) → r ≡ cosine_of x → (r ≡ cosine_of x) × CosineWithin 46 x r × CosineWithin 52 x r × UpToOne r
cosine_promise x r f e =
    subst (λ (a : Result Answer Refusal). (a ≡ cosine_of x) × CosineWithin 46 x a × CosineWithin 52 x a × UpToOne a) (sym e)
    (refl, cosine_within (2 ^ 14) 46 refl (lit≤ tt) x f, cosine_within (2 ^ 8) 52 refl (lit≤ tt) x f, cosine_up_to_one x f)
