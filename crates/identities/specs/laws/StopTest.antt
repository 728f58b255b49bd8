-- Where the two means are near enough, the stop test of ellipe.rs fails. Assumes nothing.
use Rattle.std.specs.Prelude.{◌≡◌, refl, ◌⊎◌, Bool, true, false, not, ◌&&◌, ℕ, ◌+◌, ◌-◌, ◌*◌, ◌^◌, ◌≤◌, ◌<◌, T, leb, ltb, Float}
use Rattle.std.proofs.Common.{sym, ap, ◌∙◌, subst, inl, inr, mul-add, mul_assoc, mul_comm, mul_left_comm, mul-pos, le_trans, le_of_eq, lt_of_lt_of_le, not-le_of_lt, mul-le-mul_left, mul-le-mul_right, le_of_mul-le-mul_right, arith, leb→le, ltb→lt, lit≤, lit<, pow_pos}
use Rattle.std.proofs.Math.Nat.{lt_of_mul-lt-mul_left}
use Rattle.std.proofs.Math.Dec.{nleb→lt, not_T}
use Rattle.std.specs.Float.{binary64}
use Rattle.std.specs.Float.Ieee.{of_bits, mul}
use Rattle.std.specs.Float.Ieee.Exact.{HasValue}
use Rattle.std.specs.Float.Ieee.Fits.{and_l, and_r}
use Rattle.std.specs.Float.Ieee.Scale.{grid, normal_of_rounded}
use Rattle.laws.specs.Arithmetic.{◌⊖◌, ◌⊗◌, ◌≤·◌, dec}
use Rattle.laws.specs.laws.Rounding.{grid_near, round-value}
use Rattle.whole.specs.Whole.{magnitude_of}
use Rattle.legendre.specs.Mean.{goes_on_of}
use Rattle.legendre.specs.Ellipe.{e_tolerance}
use Rattle.laws.specs.laws.Operations.{mul_is, gap_most, difference}
use Rattle.whole.specs.laws.Magnitude.{magnitude_value}
use Rattle.laws.specs.laws.Sizes.{units-le, grid_most, below_overflow}
use Rattle.identities.specs.laws.Ratios.{near_hi, cancel}
use Rattle.identities.specs.laws.MeanRound.{Rounded, rounded, State}

-- ---- the constant 2.7 · 2^-52, exactly
pub tolerance_value : HasValue e_tolerance false 3039929748475085 (2 ^ 102)
unfolding mul dec of_bits
tolerance_value = (refl, refl)

-- ---- a rounded fraction of any size, from above: one part in W, or 2 ^ 52 units
slack_small : (W g d L : ℕ) → g ≤ L → W * g ≤ (W + 1) * d + W * L
slack_small W g d L h = let k : W * g ≤ W * L = mul-le-mul_left W h in omega arith

slack_near : (W g d L : ℕ) → W * g ≤ (W + 1) * d → W * g ≤ (W + 1) * d + W * L
slack_near W g d L h = omega arith

slack : (d : ℕ) → 2 ^ 53 * grid binary64 d (2 ^ 1074) ≤ (2 ^ 53 + 1) * d + 2 ^ 53 * 2 ^ 52
slack d = go (leb (grid binary64 d (2 ^ 1074)) (2 ^ 52)) (leb→le (grid binary64 d (2 ^ 1074)) (2 ^ 52)) (nleb→lt (grid binary64 d (2 ^ 1074)) (2 ^ 52))
  where
    go : (t : Bool) → (T t → grid binary64 d (2 ^ 1074) ≤ 2 ^ 52) → (T (not t) → 2 ^ 52 < grid binary64 d (2 ^ 1074)) → 2 ^ 53 * grid binary64 d (2 ^ 1074) ≤ (2 ^ 53 + 1) * d + 2 ^ 53 * 2 ^ 52
    go true u v = slack_small (2 ^ 53) (grid binary64 d (2 ^ 1074)) d (2 ^ 52) (u tt)
    go false u v =
        slack_near (2 ^ 53) (grid binary64 d (2 ^ 1074)) d (2 ^ 52)
        (cancel (2 ^ 53) (2 ^ 53 + 1) (grid binary64 d (2 ^ 1074)) d (2 ^ 1074) (pow_pos 1074)
        (near_hi (2 ^ 53) (d * 2 ^ 1074) (grid binary64 d (2 ^ 1074) * 2 ^ 1074) (grid_near binary64 d (2 ^ 1074) (pow_pos 1074) (normal_of_rounded binary64 d (2 ^ 1074) (v tt))).0))

-- ---- over whole numbers
-- d ≤ a * (N / D - 1), for N = D + G
apart_by : (a b d D G : ℕ) → (d + b ≡ a) ⊎ (d + a ≡ b) → a * D ≤ b * (D + G) → b * D ≤ a * (D + G) → d * D ≤ a * G
apart_by a b d D G (inl e) p q =
    let x : (d + b) * D ≡ a * D = ap (λ (z : ℕ). z * D) e in
    let y : b * G ≤ a * G = mul-le-mul_right G (omega arith) in
    omega arith
apart_by a b d D G (inr e) p q =
    let x : (d + a) * D ≡ b * D = ap (λ (z : ℕ). z * D) e in
    omega arith

-- with the rounded difference g and the rounded product h
test_fails : (Z W C E L D G a d g h : ℕ) → d * D ≤ a * G → W * g ≤ (W + 1) * d + W * L → Z * (C * a) ≤ W * (h * E) → (W + 1) * G * E + 1 ≤ Z * C * D → W * L * D * E < a → W * D * E * g < W * D * E * h
test_fails Z W C E L D G a d g h p q r u v =
    let p' : (W + 1) * E * (d * D) ≤ (W + 1) * E * (a * G) = mul-le-mul_left ((W + 1) * E) p in
    let q' : D * E * (W * g) ≤ D * E * ((W + 1) * d + W * L) = mul-le-mul_left (D * E) q in
    let r' : D * (Z * (C * a)) ≤ D * (W * (h * E)) = mul-le-mul_left D r in
    let u' : ((W + 1) * G * E + 1) * a ≤ Z * C * D * a = mul-le-mul_right a u in
    join (W * D * E * g) (D * E * ((W + 1) * d)) (W * L * D * E) ((W + 1) * G * E) a (Z * C * D * a) (W * D * E * h)
    (le_trans (le_of_eq (acg W D E g)) (le_trans q' (le_of_eq (mul-add (D * E) ((W + 1) * d) (W * L) ∙ ap (λ (z : ℕ). D * E * ((W + 1) * d) + z) (acl D E W L)))))
    (le_trans (le_of_eq (acd D E (W + 1) d)) (le_trans p' (le_of_eq (aca (W + 1) E a G))))
    v u'
    (le_trans (le_of_eq (acz Z C D a)) (le_trans r' (le_of_eq (ach D W h E))))
  where
    join : (l m Y X a R o : ℕ) → l ≤ m + Y → m ≤ X * a → Y < a → (X + 1) * a ≤ R → R ≤ o → l < o
    join l m Y X a R o e f g h i = omega arith

    acg : (W D E g : ℕ) → W * D * E * g ≡ D * E * (W * g)
    acg W D E g = simp (mul_assoc, mul_comm, mul_left_comm)

    acl : (D E W L : ℕ) → D * E * (W * L) ≡ W * L * D * E
    acl D E W L = simp (mul_assoc, mul_comm, mul_left_comm)

    acd : (D E W d : ℕ) → D * E * (W * d) ≡ W * E * (d * D)
    acd D E W d = simp (mul_assoc, mul_comm, mul_left_comm)

    aca : (W E a G : ℕ) → W * E * (a * G) ≡ W * G * E * a
    aca W E a G = simp (mul_assoc, mul_comm, mul_left_comm)

    acz : (Z C D a : ℕ) → Z * C * D * a ≡ D * (Z * (C * a))
    acz Z C D a = simp (mul_assoc, mul_comm, mul_left_comm)

    ach : (D W h E : ℕ) → D * (W * (h * E)) ≡ W * D * E * h
    ach D W h E = simp (mul_assoc, mul_comm, mul_left_comm)

cancel_lo : (Z W n h E U : ℕ) → 0 < U → Z * (n * U) ≤ W * (h * (E * U)) → Z * n ≤ W * (h * E)
cancel_lo Z W n h E U k p = let q : Z * n * U ≤ W * (h * E) * U = omega arith in le_of_mul-le-mul_right q k

-- ---- the test at the ratio 1 + G / D
unfoldable pub near : ℕ → ℕ → Bool
near D G = leb ((2 ^ 53 + 1) * G * 2 ^ 102 + 1) ((2 ^ 53 - 1) * 3039929748475085 * D) && ltb (2 ^ 53 * 2 ^ 52 * D * 2 ^ 102) (2 ^ 1048)

pub stops : (x y : Float) (D G : ℕ) → T (near D G) → State x y (D + G) D → T (not (goes_on_of e_tolerance x y))
unfolding goes_on_of near
stops x y D G g z =
    let a = z.vx.units in
    let b = z.vy.units in
    let C : ℕ = 3039929748475085 in
    let t1 = leb→le ((2 ^ 53 + 1) * G * 2 ^ 102 + 1) ((2 ^ 53 - 1) * C * D) (and_l (leb ((2 ^ 53 + 1) * G * 2 ^ 102 + 1) ((2 ^ 53 - 1) * C * D)) (ltb (2 ^ 53 * 2 ^ 52 * D * 2 ^ 102) (2 ^ 1048)) g) in
    let t2 = ltb→lt (2 ^ 53 * 2 ^ 52 * D * 2 ^ 102) (2 ^ 1048) (and_r (leb ((2 ^ 53 + 1) * G * 2 ^ 102 + 1) ((2 ^ 53 - 1) * C * D)) (ltb (2 ^ 53 * 2 ^ 52 * D * 2 ^ 102) (2 ^ 1048)) g) in
    let w = difference binary64 x y a b (2 ^ 1074) (pow_pos 1074) z.vx.value z.vy.value in
    let d = w.size in
    let m : Rounded (e_tolerance ⊗ magnitude_of x) (C * a) (2 ^ 102 * 2 ^ 1074) =
    subst (λ (q : Float). Rounded q (C * a) (2 ^ 102 * 2 ^ 1074)) (sym (mul_is binary64 e_tolerance (magnitude_of x) false false C a (2 ^ 102) (2 ^ 1074) (pow_pos 102) (pow_pos 1074) tolerance_value (magnitude_value x false a (2 ^ 1074) z.vx.value)))
    (rounded (C * a) (2 ^ 102 * 2 ^ 1074) 1074 (mul-pos (pow_pos 102) (pow_pos 1074)) (lit< tt)
    (le_trans (lit≤ {m = 2 ^ 52 * (2 ^ 102 * 2 ^ 1074)} {n = C * 2 ^ 1048 * 2 ^ 1074} tt) (mul-le-mul_right (2 ^ 1074) (mul-le-mul_left C z.vx.least)))
    (le_trans (mul-le-mul_right (2 ^ 1074) (mul-le-mul_left C z.vx.most)) (lit≤ {m = C * 2 ^ 1074 * 2 ^ 1074} {n = 2 ^ 1074 * (2 ^ 102 * 2 ^ 1074)} tt))) in
    let h = m.g in
    let k = grid binary64 d (2 ^ 1074) in
    let fine = below_overflow k 1074 (grid_most d (2 ^ 1074) 1074 (pow_pos 1074) (lit< tt) (mul-le-mul_right (2 ^ 1074) (gap_most d a b (2 ^ 1074) w.how z.vx.most z.vy.most))) (lit< tt) in
    let vk : HasValue (magnitude_of (x ⊖ y)) false k (2 ^ 1074) = magnitude_value (x ⊖ y) w.sign k (2 ^ 1074) (subst (λ (q : Float). HasValue q w.sign k (2 ^ 1074)) (sym w.is) (round-value binary64 w.sign d (2 ^ 1074) fine)) in
    let l : k < h =
    lt_of_mul-lt-mul_left (2 ^ 53 * D * 2 ^ 102)
    (test_fails (2 ^ 53 - 1) (2 ^ 53) C (2 ^ 102) (2 ^ 52) D G a d k h (apart_by a b d D G w.how z.up z.dn) (slack d)
    (cancel_lo (2 ^ 53 - 1) (2 ^ 53) (C * a) h (2 ^ 102) (2 ^ 1074) (pow_pos 1074) m.lo) t1 (lt_of_lt_of_le t2 z.vx.least)) in
    not_T (e_tolerance ⊗ magnitude_of x ≤· magnitude_of (x ⊖ y)) (λ q. not-le_of_lt l (units-le (e_tolerance ⊗ magnitude_of x) (magnitude_of (x ⊖ y)) h k (2 ^ 1074) (pow_pos 1074) m.value vk q))
