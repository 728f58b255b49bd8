-- How large and how small the computed sine and cosine of an angle within 4 can be, crudely: sizes that keep what is made of them moderate. Assumes nothing.
use Rattle.std.specs.Prelude.{◌≡◌, refl, ◌⊎◌, Bool, ℕ, zero, suc, ◌+◌, ◌*◌, ◌/◌, ◌^◌, ◌≤◌, ◌<◌, T, ltb, Float, Result}
use Rattle.std.proofs.Common.{sym, ap, ◌∙◌, subst, inl, inr, le_trans, le_of_eq, zero-lt-suc, mul_comm, mul_assoc, mul_left_comm, mul_right_comm, mul-pos, mul-le-mul, mul-le-mul_left, mul-le-mul_right, le_of_mul-le-mul_right, div-mul-le_self, arith, lit≤, lit<, pow-add, pow_pos, pow_mono}
use Rattle.std.proofs.Math.Nat.{div-le_of_le-mul}
use Rattle.std.specs.Float.{nan, inf, fin, binary64}
use Rattle.std.specs.Float.Ieee.{up, down, unlike, round}
use Rattle.std.specs.Float.Ieee.Fits.{down_pos}
use Rattle.std.specs.Float.Ieee.Exact.{HasValue}
use Rattle.std.specs.Float.Ieee.Scale.{grid}
use Rattle.laws.specs.Arithmetic.{◌⊗◌, ◌≤·◌, 4·0}
use Rattle.laws.specs.laws.Bounds.{Small, Within, small_round}
use Rattle.laws.specs.laws.Rounding.{round-value}
use Rattle.laws.specs.laws.Sizes.{grid_most, grid_least, below_overflow}
use Rattle.whole.specs.Whole.{magnitude_of}
use Rattle.answer.specs.Answer.{value_of}
use Rattle.answer.specs.declared.Answer.{Answer}
use Rattle.answer.specs.declared.Refusal.{Refusal}
use Rattle.bounds.specs.Close.{distance_of}
use Rattle.angle.specs.Alternating.{square_of, alternating_of}
use Rattle.angle.specs.Sine.{sine_at, sine_of}
use Rattle.angle.specs.Cosine.{cosine_by, cosine_at, cosine_of}
use Rattle.identities.specs.laws.SineAnswered.{sine_answers, cosine_answers}
use Rattle.identities.specs.laws.Angles.{in_reach, in_reach-size}
use Rattle.scaling.specs.laws.Ranges.{Ranged, ranged_round, within-square}
use Rattle.scaling.specs.laws.Moderate.{least_back}

-- ---- the alternating sum of a square of at most 16: each of its k steps multiplies the sizes by 16 at most
-- x² for |x| ≤ 4, in units of 2 ^ -59
square-most : (p q : ℕ) → p ≤ 4 * q → square_of p q ≤ 2 ^ 63
unfolding square_of
square-most p q h =
    let x : p * 2 ^ 59 / q ≤ 2 ^ 61 = div-le_of_le-mul q (le_trans (mul-le-mul_right (2 ^ 59) h) (le_of_eq (let e : 4 * q * 2 ^ 59 ≡ q * 2 ^ 61 = omega arith in e))) in
    div-le_of_le-mul (2 ^ 59) (le_trans (mul-le-mul x x) (lit≤ tt))

-- t over d, times v, in units: at most B where that holds of larger t and v and a smaller d
part : (t d v T W e B : ℕ) → 0 < e → e ≤ d → t ≤ T → v ≤ W → T * W ≤ 2 ^ 59 * B * e → t / d * v / 2 ^ 59 ≤ B
part t d v T W e B E D h k m =
    div-le_of_le-mul (2 ^ 59) (le_of_mul-le-mul_right
    (le_trans (le_of_eq (mul_right_comm (t / d) v e)) (le_trans (mul-le-mul (le_trans (mul-le-mul_left (t / d) D) (le_trans (div-mul-le_self t d) h)) k) m)) E)

-- of a product of at least 2, as every step has
step : (t n v M : ℕ) → t ≤ 2 ^ 63 → v ≤ M → t / ((n + 1) * (n + 2)) * v / 2 ^ 59 ≤ 8 * M
step t n v M h k = part t ((n + 1) * (n + 2)) v (2 ^ 63) M 2 (8 * M) (lit< tt) (let e : 2 ≤ (n + 1) * (n + 2) = omega arith in e) h k (le_of_eq (let e : 2 ^ 63 * M ≡ 2 ^ 59 * (8 * M) * 2 = omega arith in e))

sixteen : (k : ℕ) → 2 ^ 60 + 8 * 2 ^ (60 + 4 * k) ≤ 2 ^ (60 + 4 * suc k)
sixteen k =
    let a : 2 ^ 60 ≤ 2 ^ (60 + 4 * k) = pow_mono (let e : 60 ≤ 60 + 4 * k = omega arith in e) in
    let b : 2 ^ (60 + 4 * suc k) ≡ 2 ^ (60 + 4 * k) * 16 = ap (λ (z : ℕ). 2 ^ z) (let e : 60 + 4 * suc k ≡ 60 + 4 * k + 4 = omega arith in e) ∙ pow-add 2 (60 + 4 * k) 4 in
    go (2 ^ 60) (2 ^ (60 + 4 * k)) (2 ^ (60 + 4 * suc k)) a b
  where
    go : (a b c : ℕ) → a ≤ b → c ≡ b * 16 → a + 8 * b ≤ c
    go a b c h e = omega arith

alternating_most : (t n k : ℕ) → t ≤ 2 ^ 63 → ((alternating_of t n k).added ≤ 2 ^ (60 + 4 * k)) × ((alternating_of t n k).taken ≤ 2 ^ (60 + 4 * k))
unfolding alternating_of
alternating_most t n zero h = (lit≤ tt, lit≤ tt)
alternating_most t n (suc k) h =
    let r = alternating_most t (n + 2) k h in
    let a = step t n (alternating_of t (n + 2) k).taken (2 ^ (60 + 4 * k)) h r.1 in
    let b = step t n (alternating_of t (n + 2) k).added (2 ^ (60 + 4 * k)) h r.0 in
    let m = sixteen k in
    (le_trans (plus (2 ^ 60) a) m, le_trans (le_trans b (above (2 ^ 60) (8 * 2 ^ (60 + 4 * k)))) m)
  where
    plus : (c : ℕ) {a b : ℕ} → a ≤ b → c + a ≤ c + b
    plus c h = omega arith

    above : (c b : ℕ) → b ≤ c + b
    above c b = omega arith

distance_most : (a b m : ℕ) → a ≤ m → b ≤ m → distance_of a b ≤ m
distance_most a b m h k = omega arith

-- ---- cosine is zero, or from 2 ^ -60 to 2 ^ 84 in size: its last place is 2 ^ -60
whole : (d : ℕ) → (d ≡ 0) ⊎ (1 ≤ d)
whole zero = inl refl
whole (suc d) = inr (zero-lt-suc d)

cosine_sized : (s : Bool) (p q : ℕ) → p ≤ 4 * q → (t : Bool) × Ranged t 1014 1158 (cosine_at s p q)
unfolding cosine_by cosine_at
cosine_sized s p q h =
    let b = alternating_of (square_of p q) 0 21 in
    let d = distance_of b.added b.taken in
    let m = alternating_most (square_of p q) 0 21 (square-most p q h) in
    let most : d ≤ 2 ^ 144 = distance_most b.added b.taken (2 ^ 144) m.0 m.1 in
    let t = ltb b.added b.taken in (
      t,
      ranged_round t d (2 ^ 60) 1014 1158 (pow_pos 60) (lit< tt) (lit< tt)
          (elim (whole d) [ inl e ↦ inl e | inr l ↦ inr (le_trans (lit≤ tt) (mul-le-mul_right (2 ^ 1074) l)) ])
          (le_trans (mul-le-mul_right (2 ^ 1074) most) (lit≤ tt)),
    )

-- ---- sine is at most 2 ^ 82
abbrev sum_of : ℕ → ℕ → ℕ
sum_of p q = let b = alternating_of (square_of p q) 1 20 in distance_of b.added b.taken

sine_most : (p q : ℕ) → p ≤ 4 * q → p * sum_of p q * 2 ^ 1074 ≤ 2 ^ 1156 * (q * 2 ^ 60)
sine_most p q h =
    let b = alternating_of (square_of p q) 1 20 in
    let m = alternating_most (square_of p q) 1 20 (square-most p q h) in
    let most : sum_of p q ≤ 2 ^ 140 = distance_most b.added b.taken (2 ^ 140) m.0 m.1 in
    le_trans (mul-le-mul_right (2 ^ 1074) (mul-le-mul h most))
    (le_trans (le_of_eq (turn q (2 ^ 140) (2 ^ 1074))) (le_trans (mul-le-mul_left q (let e : 4 * (2 ^ 140 * 2 ^ 1074) ≤ 2 ^ 1156 * 2 ^ 60 = lit≤ tt in e)) (le_of_eq (mul_left_comm q (2 ^ 1156) (2 ^ 60)))))
  where
    turn : (q D U : ℕ) → 4 * q * D * U ≡ q * (4 * (D * U))
    turn q D U = mul_assoc (4 * q) D U ∙ ap (λ (z : ℕ). z * (D * U)) (mul_comm 4 q) ∙ mul_assoc q 4 (D * U)

sine_sized : (s : Bool) (p q : ℕ) → 0 < q → p ≤ 4 * q → Small 1156 (sine_at s p q)
unfolding sine_at
sine_sized s p q Q h = small_round _ (p * sum_of p q) (q * 2 ^ 60) 1156 (mul-pos Q (pow_pos 60)) (lit< tt) (sine_most p q h)

-- ---- for |x| ≤ 7/4 the sum that sine multiplies x by is at least a quarter
square_narrow : (p q : ℕ) → p * 4 ≤ 7 * q → square_of p q ≤ 49 * 2 ^ 55
unfolding square_of
square_narrow p q h =
    let x : p * 2 ^ 59 / q ≤ 7 * 2 ^ 57 = div-le_of_le-mul q (let e : p * 2 ^ 59 ≤ q * (7 * 2 ^ 57) = omega arith in e) in
    div-le_of_le-mul (2 ^ 59) (le_trans (mul-le-mul x x) (lit≤ tt))

-- from the first step on every product is at least 6
narrow_most : (t n k : ℕ) → 1 ≤ n → t ≤ 49 * 2 ^ 55 → ((alternating_of t n k).added ≤ 2 ^ 61) × ((alternating_of t n k).taken ≤ 5 * 2 ^ 58)
unfolding alternating_of
narrow_most t n zero l h = (lit≤ tt, lit≤ tt)
narrow_most t n (suc k) l h =
    let r = narrow_most t (n + 2) k (let e : 1 ≤ n + 2 = omega arith in e) h in
    let six : 6 ≤ (n + 1) * (n + 2) = mul-le-mul (let e : 2 ≤ n + 1 = omega arith in e) (let e : 3 ≤ n + 2 = omega arith in e) in
    let a = part t ((n + 1) * (n + 2)) (alternating_of t (n + 2) k).taken (49 * 2 ^ 55) (5 * 2 ^ 58) 6 (2 ^ 60) (lit< tt) six h r.1 (lit≤ tt) in
    let b = part t ((n + 1) * (n + 2)) (alternating_of t (n + 2) k).added (49 * 2 ^ 55) (2 ^ 61) 6 (5 * 2 ^ 58) (lit< tt) six h r.0 (lit≤ tt) in
    (twice (2 ^ 60) a, b)
  where
    twice : (c : ℕ) {a : ℕ} → a ≤ c → c + a ≤ c + c
    twice c h = omega arith

narrow_least : (t : ℕ) → t ≤ 49 * 2 ^ 55 → 2 ^ 58 ≤ distance_of (alternating_of t 1 20).added (alternating_of t 1 20).taken
unfolding alternating_of
narrow_least t h =
    let five = (narrow_most t 5 18 (lit≤ tt) h).1 in
    let three : 2 ^ 60 + t / 20 * (alternating_of t 5 18).taken / 2 ^ 59 ≤ 77 * 2 ^ 54 = plus (2 ^ 60) (part t 20 (alternating_of t 5 18).taken (49 * 2 ^ 55) (5 * 2 ^ 58) 20 (13 * 2 ^ 54) (lit< tt) (lit≤ tt) h five (lit≤ tt)) (lit≤ tt) in
    let one = part t 6 (2 ^ 60 + t / 20 * (alternating_of t 5 18).taken / 2 ^ 59) (49 * 2 ^ 55) (77 * 2 ^ 54) 6 (629 * 2 ^ 50) (lit< tt) (lit≤ tt) h three (lit≤ tt) in
    far (2 ^ 60) (t / 6 * (alternating_of t 3 19).taken / 2 ^ 59) (t / 6 * (alternating_of t 3 19).added / 2 ^ 59) (629 * 2 ^ 50) (2 ^ 58) one (lit≤ tt)
  where
    plus : (c : ℕ) {a b m : ℕ} → a ≤ b → c + b ≤ m → c + a ≤ m
    plus c h k = omega arith

    far : (c a b m d : ℕ) → b ≤ m → m + d ≤ c → d ≤ distance_of (c + a) b
    far c a b m d h k = omega arith

wide : (p q : ℕ) → p * 4 ≤ 7 * q → p ≤ 4 * q
wide p q h = omega arith

-- so the square of a sine of 2 ^ -33 to 7/4 is at least 2 ^ -70
sine_square : (s : Bool) (p q : ℕ) → 0 < q → p * 4 ≤ 7 * q → q ≤ p * 2 ^ 33 → Within 1004 1238 (sine_at s p q ⊗ sine_at s p q)
unfolding sine_at
sine_square s p q Q h l =
    let b = alternating_of (square_of p q) 1 20 in
    let t = unlike s (ltb b.added b.taken) in
    let d = sum_of p q in
    let C : 0 < q * 2 ^ 60 = mul-pos Q (pow_pos 60) in
    let g = grid binary64 (p * d) (q * 2 ^ 60) in
    let most : g ≤ 2 ^ 1156 = grid_most (p * d) (q * 2 ^ 60) 1156 C (lit< tt) (sine_most p q (wide p q h)) in
    let o = below_overflow g 1156 most (lit< tt) in
    let least : 2 ^ 1039 ≤ g = grid_least (p * d) (q * 2 ^ 60) 1039 C (lit< tt) (enough p q d (narrow_least (square_of p q) (square_narrow p q h)) l) o in
    within-square 1039 1156 1004 1238 (round binary64 t (p * d) (q * 2 ^ 60)) t g (lit< tt) (lit< tt) (lit≤ tt) (lit≤ tt) (round-value binary64 t (p * d) (q * 2 ^ 60) o) least most
  where
    enough : (p q d : ℕ) → 2 ^ 58 ≤ d → q ≤ p * 2 ^ 33 → 2 ^ 1039 * (q * 2 ^ 60) ≤ p * d * 2 ^ 1074
    enough p q d h l =
        le_trans (mul-le-mul_left (2 ^ 1039) (mul-le-mul_right (2 ^ 60) l))
        (le_trans (le_of_eq (mul_left_comm (2 ^ 1039) (p * 2 ^ 33) (2 ^ 60) ∙ mul_assoc p (2 ^ 33) (2 ^ 1039 * 2 ^ 60)))
        (le_trans (mul-le-mul_left p (let e : 2 ^ 33 * (2 ^ 1039 * 2 ^ 60) ≤ 2 ^ 58 * 2 ^ 1074 = lit≤ tt in e)) (le_trans (mul-le-mul_left p (mul-le-mul_right (2 ^ 1074) h)) (le_of_eq (sym (mul_assoc p d (2 ^ 1074)))))))

-- ---- the values that the functions go on with
pub cosine_within : (x : Float) → T (magnitude_of x ≤· 4·0) → (t : Bool) × Ranged t 1014 1158 (value_of (cosine_of x))
unfolding value_of
cosine_within nan h = absurd (in_reach nan h)
cosine_within (inf s) h = absurd (in_reach (inf s) h)
cosine_within (fin s m e) h = let l = in_reach-size s m e h in subst (λ (a : Result Answer Refusal). (t : Bool) × Ranged t 1014 1158 (value_of a)) (sym (cosine_answers s m e l)) (cosine_sized s (m * up e) (down e) l)

pub sine_within : (x : Float) → T (magnitude_of x ≤· 4·0) → Small 1156 (value_of (sine_of x))
unfolding value_of
sine_within nan h = absurd (in_reach nan h)
sine_within (inf s) h = absurd (in_reach (inf s) h)
sine_within (fin s m e) h = let l = in_reach-size s m e h in subst (λ (a : Result Answer Refusal). Small 1156 (value_of a)) (sym (sine_answers s m e l)) (sine_sized s (m * up e) (down e) (down_pos e) l)

-- the same of an angle in units
pub sine_square-within : (x : Float) (t : Bool) (n : ℕ) → HasValue x t n (2 ^ 1074) → n ≤ 7 * 2 ^ 1072 → 2 ^ 1041 ≤ n → Within 1004 1238 (value_of (sine_of x) ⊗ value_of (sine_of x))
unfolding value_of
sine_square-within nan t n v h l = absurd v
sine_square-within (inf s) t n v h l = absurd v
sine_square-within (fin s m e) t n v h l =
    let p = m * up e in
    let q = down e in
    let a : p * 4 ≤ 7 * q = le_of_mul-le-mul_right (le_trans (le_of_eq (mul_assoc p 4 (2 ^ 1072) ∙ v.1)) (le_trans (mul-le-mul_right q h) (le_of_eq (mul_right_comm 7 (2 ^ 1072) q)))) (pow_pos 1072) in
    let b : q ≤ p * 2 ^ 33 = least_back p q n (2 ^ 33) (2 ^ 1041) (2 ^ 1074) (pow_pos 1041) refl v.1 l in
    subst (λ (r : Result Answer Refusal). Within 1004 1238 (value_of r ⊗ value_of r)) (sym (sine_answers s m e (wide p q a))) (sine_square s p q (down_pos e) a b)
