-- The reduced angle is at most 7/4, and where it does not stand for its own integral and 0 ≤ m ≤ 2^12 it is at least 2^-33: so 1 / sin² is far below 2^200 there. Assumes nothing.
use Rattle.std.specs.Prelude.{◌≡◌, refl, ◌⊎◌, Bool, true, false, cond, ◌||◌, ℕ, ◌+◌, ◌*◌, ◌%◌, ◌^◌, ◌≤◌, ◌<◌, ℤ, T, ltb, Float}
use Rattle.std.proofs.Common.{sym, ◌∙◌, subst, inl, inr, true≢false, le_trans, le_of_eq, le_of_lt, lt_of_le_of_lt, mul_assoc, mul_right_comm, mul-pos, mul-le-mul_right, mod-lt, arith, lt→ltb, lit≤, lit<, pow_pos}
use Rattle.std.proofs.Math.Pow.{pow-lt}
use Rattle.std.specs.Float.{nan, inf, fin, binary64}
use Rattle.std.specs.Float.Ieee.{up, down, round, rem, of_bits, below}
use Rattle.std.specs.Float.Ieee.Bits.{is_true}
use Rattle.std.specs.Float.Ieee.Exact.{HasValue}
use Rattle.std.specs.Float.Ieee.Fits.{down_pos}
use Rattle.std.specs.Float.Ieee.Scale.{finite, grid, overflow}
use Rattle.laws.specs.Arithmetic.{◌⊖◌, ◌⊗◌, ◌⊘◌, ◌%%◌, ◌<·◌, ◌=·◌, +0, π/2, ε, ½, 2·0}
use Rattle.laws.specs.laws.Bounds.{Small, small_mul}
use Rattle.laws.specs.laws.Flags.{lt-or-le}
use Rattle.laws.specs.laws.Operations.{difference, gap_most}
use Rattle.laws.specs.laws.Rounding.{round-value}
use Rattle.laws.specs.laws.Sizes.{grid_mono}
use Rattle.whole.specs.Whole.{magnitude_of, round_of}
use Rattle.identities.specs.laws.Magnitude.{magnitude_fin}
use Rattle.incomplete.specs.declared.Fold.{Fold}
use Rattle.incomplete.specs.Period.{folded_of}
use Rattle.ellipeinc.specs.Ellipeinc.{own_of}
use Rattle.identities.specs.laws.Angles.{P}
use Rattle.scaling.specs.laws.Operations.{grid_exact, lt-units}

-- ± units, at most 7/4
pub record Narrow (x : Float) : Type 0 where
  pub sign : Bool
  pub units : ℕ
  pub value : HasValue x sign units (2 ^ 1074)
  pub most : units ≤ 7 * 2 ^ 1072

-- 7/4 is an f64, and rounding keeps the order
narrow_grid : (a c : ℕ) → 0 < c → a * 4 ≤ 7 * c → grid binary64 a c ≤ 7 * 2 ^ 1072
narrow_grid a c C h =
    let seven = grid_exact binary64 7 1072 (lit< tt) in
    le_trans (grid_mono a c (7 * 2 ^ 1072) (2 ^ 1074) C (pow_pos 1074) (le_trans (le_of_eq (sym (mul_assoc a 4 (2 ^ 1072)))) (le_trans (mul-le-mul_right (2 ^ 1072) h) (le_of_eq (mul_right_comm 7 c (2 ^ 1072))))) (subst (λ (g : ℕ). g < overflow binary64) (sym seven) (lit< tt))) (le_of_eq seven)

narrow_value : (s : Bool) (a c : ℕ) → 0 < c → a * 4 ≤ 7 * c → HasValue (round binary64 s a c) s (grid binary64 a c) (2 ^ 1074)
narrow_value s a c C h = round-value binary64 s a c (lt_of_le_of_lt (narrow_grid a c C h) (lit< tt))

narrow_round : (s : Bool) (a c : ℕ) → 0 < c → a * 4 ≤ 7 * c → Narrow (round binary64 s a c)
narrow_round s a c C h = record { sign = s; units = grid binary64 a c; value = narrow_value s a c C h; most = narrow_grid a c C h }

-- ---- the remainder by π/2, and what is left of π/2
rest_of : ℕ → ℤ → ℕ
rest_of m e = m * up e * 2 ^ 49 % (P * 1 * down e)

rest_is : (m : ℕ) (e : ℤ) → fin false m e %% π/2 ≡ round binary64 false (rest_of m e) (down e * 2 ^ 49)
unfolding rem of_bits rest_of
rest_is m e = refl

rest_most : (m : ℕ) (e : ℤ) → rest_of m e * 4 ≤ 7 * (down e * 2 ^ 49)
unfolding rest_of
rest_most m e = go (m * up e * 2 ^ 49 % (P * 1 * down e)) (down e) (mod-lt (m * up e * 2 ^ 49) (mul-pos (lit< tt) (down_pos e)))
  where
    go : (r d : ℕ) → r < P * 1 * d → r * 4 ≤ 7 * (d * 2 ^ 49)
    go r d h = omega arith

rest_narrow : (m : ℕ) (e : ℤ) → Narrow (fin false m e %% π/2)
rest_narrow m e = subst Narrow (sym (rest_is m e)) (narrow_round false (rest_of m e) (down e * 2 ^ 49) (mul-pos (down_pos e) (pow_pos 49)) (rest_most m e))

left_narrow : (m : ℕ) (e : ℤ) → Narrow (π/2 ⊖ fin false m e %% π/2)
unfolding of_bits
left_narrow m e =
    let D = mul-pos (down_pos e) (pow_pos 49) in
    let g = grid binary64 (rest_of m e) (down e * 2 ^ 49) in
    let v = subst (λ (z : Float). HasValue z false g (2 ^ 1074)) (sym (rest_is m e)) (narrow_value false (rest_of m e) (down e * 2 ^ 49) D (rest_most m e)) in
    let d = difference binary64 π/2 (fin false m e %% π/2) (P * 2 ^ 1025) g (2 ^ 1074) (pow_pos 1074) (refl, refl) v in
    let h : d.size ≤ 7 * 2 ^ 1072 = gap_most d.size (P * 2 ^ 1025) g (7 * 2 ^ 1072) d.how (lit≤ tt) (narrow_grid (rest_of m e) (down e * 2 ^ 49) D (rest_most m e)) in
    subst Narrow (sym d.is) (narrow_round d.sign d.size (2 ^ 1074) (pow_pos 1074) (le_trans (four (2 ^ 1072) h) (let z : 7 * (2 ^ 1072 * 4) ≤ 7 * 2 ^ 1074 = lit≤ tt in z)))
  where
    four : {d : ℕ} (Q : ℕ) → d ≤ 7 * Q → d * 4 ≤ 7 * (Q * 4)
    four Q h = omega arith

either : (b : Bool) (f g : Fold) → Narrow f.angle → Narrow g.angle → Narrow (cond b f g).angle
either true f g h k = h
either false f g h k = k

pub folded_narrow : (φ : Float) → T (finite φ) → Narrow (folded_of (magnitude_of φ)).angle
unfolding folded_of
folded_narrow (fin s m e) h =
    subst (λ (a : Float). Narrow (folded_of a).angle) (sym (magnitude_fin s m e))
    (either (½ <· round_of ((fin false m e ⊖ fin false m e %% π/2) ⊘ π/2) %% 2·0) _ _ (left_narrow m e) (rest_narrow m e))
folded_narrow nan h = elim h [ ]
folded_narrow (inf _) h = elim h [ ]

-- ---- an angle below 2^-33 stands for its own integral where |m| ≤ 2^12
below-ε : (x : Float) → Small 1020 x → (x <· ε) ≡ true
unfolding of_bits
below-ε x v = lt-units x ε v.sign false v.units (2 ^ 1022) (2 ^ 1074) (pow_pos 1074) v.value (refl, refl) ∙ go v.sign
  where
    go : (s : Bool) → below s v.units false (2 ^ 1022) ≡ true
    go true = is_true (ltb 0 (v.units + 2 ^ 1022)) (lt→ltb 0 (v.units + 2 ^ 1022) (some v.units (pow_pos 1022)))
      where
        some : (n : ℕ) {p : ℕ} → 0 < p → 0 < n + p
        some n h = omega arith
    go false = is_true (ltb v.units (2 ^ 1022)) (lt→ltb v.units (2 ^ 1022) (lt_of_le_of_lt v.most (pow-lt (let z : 1020 < 1022 = lit< tt in z))))

pub neither : (a b : Bool) → (a || b) ≡ false → (a ≡ false) × (b ≡ false)
neither false b e = (refl, e)
neither true b e = absurd (true≢false e)

pub not_own : (m : Float) {angle : Float} (a : Narrow angle) → Small 1086 (magnitude_of m) → own_of angle m ≡ false → 2 ^ 1041 ≤ a.units
unfolding own_of
not_own m {angle} a v h = go (lt-or-le a.units (2 ^ 1041))
  where
    go : (a.units < 2 ^ 1041) ⊎ (2 ^ 1041 ≤ a.units) → 2 ^ 1041 ≤ a.units
    go (inr l) = l
    go (inl l) =
        let x : Small 1041 angle = record { sign = a.sign; units = a.units; value = a.value; most = le_of_lt l } in
        absurd (true≢false (sym (below-ε (magnitude_of m ⊗ angle ⊗ angle) (small_mul 1020 (lit< tt) (lit≤ tt) (small_mul 1053 (lit< tt) (lit≤ tt) v x) x)) ∙ (neither (angle =· +0) (magnitude_of m ⊗ angle ⊗ angle <· ε) h).1))
