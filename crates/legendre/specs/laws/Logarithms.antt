-- What is used of the logarithm: it is finite, and at most 2 ^ 16 in size. No other file looks inside it. Assumes nothing.
use Rattle.std.specs.Prelude.{◌≡◌, true, false, ℕ, zero, suc, ◌+◌, ◌-◌, ◌*◌, ◌/◌, ◌^◌, ◌≤◌, ◌<◌, ℤ, Float}
use Rattle.std.proofs.Common.{sym, ap, ◌∙◌, true≢false, le_trans, lt_of_le_of_lt, lt_of_lt_of_le, lt_irrefl, le_of_eq, mul-pos, zero-mul, mul-le-mul, mul-le-mul_right, div-le_self, arith, ne_eqb, lit≤, lit<, pow_pos, pow_mono}
use Rattle.std.proofs.Math.Nat.{div-le_of_le-mul, mul-div_left}
use Rattle.std.specs.Float.{nan, inf, fin}
use Rattle.std.specs.Float.Ieee.{up, down}
use Rattle.std.specs.Float.Ieee.Fits.{down_pos}
use Rattle.bounds.specs.Close.{distance_of}
use Rattle.logarithm.specs.Series.{units_of, places}
use Rattle.logarithm.specs.laws.Places.{places-le}
use Rattle.logarithm.specs.Logarithm.{odds_of, part_of, third, logarithm_at, logarithm_of}
use Rattle.answer.specs.Answer.{value_of}
use Rattle.legendre.specs.Ellipe.{ln_of}
use Rattle.laws.specs.laws.Bounds.{Small, Within, positive, small_round}

-- ---- the sum of the steps stays small: each term is at most 1, and t is
odds-le : (w n k : ℕ) → w ≤ 2 ^ 64 → odds_of w n k ≤ k * 2 ^ 63
unfolding odds_of
odds-le w n zero h = omega arith
odds-le w n (suc k) h =
    let x : 2 ^ 63 / n ≤ 2 ^ 63 = div-le_self (2 ^ 63) n in
    let y : w * odds_of w (n + 2) k / 2 ^ 64 ≤ odds_of w (n + 2) k = div-le_of_le-mul (2 ^ 64) (mul-le-mul_right (odds_of w (n + 2) k) h) in
    join (2 ^ 63) k (2 ^ 63 / n) (w * odds_of w (n + 2) k / 2 ^ 64) (odds_of w (n + 2) k) x y (odds-le w (n + 2) k h)
  where
    join : (P k x y o : ℕ) → x ≤ P → y ≤ o → o ≤ k * P → x + y ≤ suc k * P
    join P k x y o a b c = omega arith

part_le : (a b : ℕ) → a ≤ b → part_of a b ≤ 21 * 2 ^ 63
unfolding part_of
part_le a b h =
    let t : a * 2 ^ 64 / b ≤ 2 ^ 64 = div-le_of_le-mul b (mul-le-mul_right (2 ^ 64) h) in
    let o = odds-le (a * 2 ^ 64 / b * (a * 2 ^ 64 / b) / 2 ^ 64) 1 21 (div-le_of_le-mul (2 ^ 64) (mul-le-mul t t)) in
    div-le_of_le-mul (2 ^ 64) (mul-le-mul t o)

at_size : (N : ℕ) → 0 < N → N < 2 ^ 1091 → Small 1090 (logarithm_at N)
unfolding logarithm_at
at_size N p l =
    let w = places N in
    let W : w ≤ 1091 = places-le N 1091 p l in
    let x = part_le (N - 2 ^ w) (N + 2 ^ w) (less N (2 ^ w)) in
    let y = part_le (2 ^ w - N) (N + 2 ^ w) (more N (2 ^ w)) in
    small_round _ (distance_of ((w - 1074) * third + part_of (N - 2 ^ w) (N + 2 ^ w)) ((1074 - w) * third + part_of (2 ^ w - N) (N + 2 ^ w))) (2 ^ 62) 1090 (pow_pos 62) (lit< tt)
    (le_trans (mul-le-mul_right (2 ^ 1074) (bound w (part_of (N - 2 ^ w) (N + 2 ^ w)) (part_of (2 ^ w - N) (N + 2 ^ w)) W x y)) (lit≤ tt))
  where
    less : (n k : ℕ) → n - k ≤ n + k
    less n k = omega arith

    more : (n k : ℕ) → k - n ≤ n + k
    more n k = omega arith

    above : (w : ℕ) → w ≤ 1091 → w - 1074 ≤ 17
    above w h = omega arith

    below : (w : ℕ) → 1074 - w ≤ 1074
    below w = omega arith

    apart-le : (A B x y a b c : ℕ) → A ≤ a → B ≤ b → x ≤ c → y ≤ c → distance_of (A + x) (B + y) ≤ a + b + (c + c)
    apart-le A B x y a b c h k i j = omega arith

    bound : (w x y : ℕ) → w ≤ 1091 → x ≤ 21 * 2 ^ 63 → y ≤ 21 * 2 ^ 63 → distance_of ((w - 1074) * third + x) ((1074 - w) * third + y) ≤ 2 ^ 78
    bound w x y W X Y =
        le_trans
        (apart-le ((w - 1074) * third) ((1074 - w) * third) x y (17 * third) (1074 * third) (21 * 2 ^ 63) (mul-le-mul_right third (above w W)) (mul-le-mul_right third (below w)) X Y)
        (lit≤ tt)

-- ---- at a float
units_are : (m : ℕ) (e : ℤ) (a : ℕ) → m * up e * 2 ^ 1074 ≡ a * down e → units_of (fin false m e) ≡ a
unfolding units_of
units_are m e a h = ap (λ (z : ℕ). z / down e) h ∙ mul-div_left a (down_pos e)

none : (m : ℕ) (e : ℤ) (a : ℕ) → 0 < a → m * up e * 2 ^ 1074 ≡ a * down e → m ≡ 0 → ⊥
none m e a p h z = lt_irrefl 0 (lt_of_lt_of_le (mul-pos p (down_pos e)) (le_of_eq (sym h ∙ ap (λ (k : ℕ). k * up e * 2 ^ 1074) z ∙ ap (λ (k : ℕ). k * 2 ^ 1074) (zero-mul (up e)) ∙ zero-mul (2 ^ 1074))))

pub ln_small : {i j : ℕ} (x : Float) → j ≤ 1090 → Within i j x → Small 1090 (ln_of x)
unfolding ln_of value_of logarithm_of
ln_small nan h w = absurd w.value
ln_small (inf s) h w = absurd w.value
ln_small (fin true m e) h w = absurd (true≢false w.value.0)
ln_small {i} {j} (fin false m e) h w =
    rw (ne_eqb m 0 (none m e w.units (positive w) w.value.1), units_are m e w.units w.value.1)
    (at_size w.units (positive w) (lt_of_le_of_lt (le_trans w.most (pow_mono h)) (lit< tt)))
