-- The other angle whose sine ellipeinc asks for is at most 4 in size too, so refusal 12 can't arise: |φ| - mm·π for |φ| ≤ 2^52 (step 7). Assumes nothing.
use Rattle.std.specs.Prelude.{◌≡◌, refl, ℕ, ◌+◌, ◌*◌, ◌^◌, ◌≤◌, ◌<◌, false, ℤ, pos, T, Float}
use Rattle.std.proofs.Common.{sym, ap, subst, le_trans, mul-pos, mul-le-mul_right, mul-lt-mul_of_pos_right, le_of_mul-le-mul_right, arith, lit≤, lit<, pow_pos}
use Rattle.std.specs.Float.{nan, inf, fin, binary64}
use Rattle.std.specs.Float.Ieee.{up, down, round, div, of_bits}
use Rattle.std.specs.Float.Ieee.Fits.{down_pos}
use Rattle.std.specs.Float.Ieee.Exact.{HasValue}
use Rattle.std.specs.Float.Ieee.Back.{round_whole}
use Rattle.std.specs.Float.Ieee.Scale.{finite}
use Rattle.laws.specs.Arithmetic.{◌⊗◌, ◌⊘◌, ◌<·◌, ◌≤·◌, ◌≠·◌, π, 4·0}
use Rattle.laws.specs.laws.Kinds.{not-nan}
use Rattle.laws.specs.laws.Rounding.{Near}
use Rattle.whole.specs.Whole.{magnitude_of, round_of, half_up}
use Rattle.whole.specs.laws.Wholes.{fraction}
use Rattle.whole.specs.laws.Meaning.{round_picks}
use Rattle.floor.specs.laws.Meaning.{half_is}
use Rattle.incomplete.specs.Period.{far_out}
use Rattle.identities.specs.laws.Angles.{P, small_le}
use Rattle.ellipeinc.specs.Ellipeinc.{half_turns, line_rest}
use Rattle.identities.specs.laws.Magnitude.{magnitude_fin, within, within-size}
use Rattle.laws.specs.laws.Operations.{mul_is}
use Rattle.identities.specs.laws.Cuts.{U, Cut, cut, left_of, left_small}

-- the f64 π is P / Q
abbrev Q : ℕ
Q = 281474976710656

-- ---- step 7: |φ| is a / c ≤ 2 ^ 52. The quotient g is off by at most 1/8, mm by 1/2 from it, the product h by 1/2, so that a / c and h are at most 5/2 apart
-- 2 ^ 52, and what |φ| / π stays below
abbrev reach : ℕ
reach = 4503599627370496

abbrev turns : ℕ
turns = 2251799813685248

quot_fits : (p q B S a c u : ℕ) → 0 < c → 0 < u → B * q < S * p → a ≤ B * c → a * q * u < S * u * (p * 1 * c)
quot_fits p q B S a c u C H k h =
    let x : a * (q * u) ≤ B * c * (q * u) = mul-le-mul_right (q * u) h in
    let y : B * q * (c * u) < S * p * (c * u) = mul-lt-mul_of_pos_right k (mul-pos C H) in
    omega (arith, x, y)

quot_small : (p q B S a c g u E : ℕ) → 0 < c → 0 < p → 8 * (B * q) + p ≤ 8 * (S * p) → a ≤ B * c → 4 * E ≡ u → g * (p * 1 * c) * 2 ≤ a * q * u * 2 + p * 1 * c * E → g ≤ S * u
quot_small p q B S a c g u E C H k h e n =
    let x : a * (q * u) ≤ B * c * (q * u) = mul-le-mul_right (q * u) h in
    let y : (8 * (B * q) + p) * (c * u) ≤ 8 * (S * p) * (c * u) = mul-le-mul_right (c * u) k in
    let z : p * c * (4 * E) ≡ p * c * u = ap (λ (w : ℕ). p * c * w) e in
    let g-le : g * (p * c) ≤ S * u * (p * c) = omega (arith, x, y, z, n) in
    le_of_mul-le-mul_right g-le (mul-pos H C)

whole_small : (S g M u : ℕ) → 0 < u → g ≤ S * u → 2 * M * u ≤ 2 * g + u → M ≤ S + 1
whole_small S g M u H h k =
    let m : M * u ≤ (S + 1) * u = omega arith in
    le_of_mul-le-mul_right m H

prod_fits : (p q S R M u : ℕ) → 0 < u → S * p < R * q → M ≤ S → M * p * u < R * u * (1 * q)
prod_fits p q S R M u H k h =
    let x : M * (p * u) ≤ S * (p * u) = mul-le-mul_right (p * u) h in
    let y : S * p * u < R * q * u = mul-lt-mul_of_pos_right k H in
    omega (arith, x, y)

chain : (a c g M h u E : ℕ) → 4 * E ≡ u → Near (g * (P * 1 * c) * 2) (a * Q * u * 2) (P * 1 * c * E) → Near (2 * M * u) (2 * g) u → Near (h * (1 * Q) * 2) (M * P * u * 2) (1 * Q * u)
    → Near (2 * h * c) (2 * a * u) (5 * u * c)
chain a c g M h u E e n k w =
    let ce : 4 * (c * E) ≡ c * u = omega (arith, ap (λ (z : ℕ). c * z) e) in
    let n0 = n.0 in
    let n1 = n.1 in
    let k0 : 2 * M * u * c ≤ (2 * g + u) * c = mul-le-mul_right c k.0 in
    let k1 : 2 * g * c ≤ (2 * M * u + u) * c = mul-le-mul_right c k.1 in
    let w0 : h * (1 * Q) * 2 * c ≤ (M * P * u * 2 + 1 * Q * u) * c = mul-le-mul_right c w.0 in
    let w1 : M * P * u * 2 * c ≤ (h * (1 * Q) * 2 + 1 * Q * u) * c = mul-le-mul_right c w.1 in
    (omega (arith, ce, n0, k0, w0), omega (arith, ce, n1, k1, w1))

half-near : (M g u : ℕ) → (2 * (M * u) ≤ 2 * g + u) × (2 * g < 2 * (M * u) + u) → Near (2 * M * u) (2 * g) u
half-near M g u h = let a = h.0 in let b = h.1 in (omega (arith, a), omega (arith, b))

div-pi : (m : ℕ) (e : ℤ) → fin false m e ⊘ π ≡ round binary64 false (m * up e * Q) (P * 1 * down e)
unfolding div of_bits
div-pi m e = refl

line_small : (m : ℕ) (e : ℤ) → m * up e ≤ reach * down e → T (magnitude_of (line_rest (fin false m e)) ≤· 4·0)
unfolding of_bits
line_small m e h =
    let a = m * up e in
    let c = down e in
    let C = down_pos e in
    let H : 0 < U = pow_pos 1074 in
    let mm = half_turns (fin false m e) in
    let q : Cut (fin false m e ⊘ π) false (a * Q) (P * 1 * c) (2 ^ 1072) =
    subst (λ (x : Float). Cut x false (a * Q) (P * 1 * c) (2 ^ 1072)) (sym (div-pi m e))
    (cut false (a * Q) (P * 1 * c) 1072 (turns * U) (mul-pos (lit< tt) C) refl (quot_fits P Q reach turns a c U C H (lit< tt) h) (lit< tt)) in
    let M = half_up q.g U in
    let n = half-near M q.g U (half_is q.g U H) in
    let w : M ≤ turns + 1 = whole_small turns q.g M U H (quot_small P Q reach turns a c q.g U (2 ^ 1072) C (lit< tt) (lit≤ tt) h refl q.near.0) n.0 in
    let v : HasValue mm false M 1 = subst (λ (x : Float). HasValue x false M 1) (sym (fraction round_of _ round_picks (fin false m e ⊘ π) false q.g U H q.value)) (round_whole binary64 false M (le_trans w (lit≤ tt))) in
    let p : Cut (mm ⊗ π) false (M * P) (1 * Q) (2 ^ 1074) =
    subst (λ (x : Float). Cut x false (M * P) (1 * Q) (2 ^ 1074)) (sym (mul_is binary64 mm π false false M P 1 Q (lit< tt) (lit< tt) v (refl, refl)))
    (cut false (M * P) (1 * Q) 1074 (9007199254740992 * U) (lit< tt) refl (prod_fits P Q (turns + 1) 9007199254740992 M U H (lit< tt) w) (lit< tt)) in
    let l = left_of m e (mm ⊗ π) p.g p.value (chain a c q.g M p.g U (2 ^ 1072) refl q.near n p.near) in
    small_le _ l.s (left_small _ l)

pub step_7 : (φ : Float) → (φ ≠· φ) ≡ false → (far_out <· magnitude_of φ) ≡ false → T (magnitude_of (line_rest (magnitude_of φ)) ≤· 4·0)
unfolding of_bits
step_7 φ k h = go φ (within φ 1 (pos 52) (not-nan φ k) h) h
  where
    plain : (a c : ℕ) → a * 1 ≤ 1 * 4503599627370496 * c → a ≤ 4503599627370496 * c
    plain a c h = omega arith

    go : (φ : Float) → T (finite φ) → (far_out <· magnitude_of φ) ≡ false → T (magnitude_of (line_rest (magnitude_of φ)) ≤· 4·0)
    go (fin s m e) f h = subst (λ (a : Float). T (magnitude_of (line_rest a) ≤· 4·0)) (sym (magnitude_fin s m e)) (line_small m e (plain (m * up e) (down e) (within-size s m e 1 (pos 52) h)))
    go nan f h = elim f [ ]
    go (inf _) f h = elim f [ ]
