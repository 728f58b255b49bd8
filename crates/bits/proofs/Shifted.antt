-- The leading 64 of a number's digits, with the half of a last place below them where there is room. Assumes nothing.
use Rattle.std.proofs.Common.{◌≡◌, ℕ, suc, ◌+◌, ◌-◌, ◌*◌, ◌/◌, ◌%◌, ◌^◌, ◌<◌, ◌≤◌, Bool, true, false, cond, ◌||◌, ltb, sym, refl, ap, ◌∙◌, subst, le_refl, le_trans, le_of_eq, lt_of_lt_of_le, le-div_iff_mul-le, mul-le-mul_right, mul-lt-mul_of_pos_right, mod-eq_of_lt, zero-mul, arith, lit≤, pow_pos, pow-add}
use Rattle.std.proofs.lemmas.Nat.{leading_top}
use Rattle.std.specs.Int.{from_bool}
use Rattle.std.specs.Int.Count.{count_leading_zeros}
use lib.Ieee.{Float, binary64, round, units}
use Rattle.bits.specs.Rounded.{Kept, rounded_of}
use Rattle.bits.specs.Steps.{spare}
use Rattle.bits.specs.laws.Keeping.{kept-cut, kept_self, kept_scaled}
use Rattle.bits.specs.laws.Once.{round-shift, with_half}

-- what `round_full` promises of r
abbrev Rounds : Float → Bool → ℕ → ℕ → Bool → Type 0
Rounds r s w e m = (n : ℕ) → Kept n w e m → r ≡ round binary64 s n (2 ^ (spare + 1074))

-- the exact number, 127 places up
abbrev raised : ℕ → Bool → ℕ → ℕ
raised w m e = (2 * w + cond m 1 0) * 2 ^ e * 2 ^ 127

lowered : (s : Bool) (w e : ℕ) (m : Bool) → round binary64 s (raised w m e) (2 ^ (spare + 1074)) ≡ rounded_of s w m e
unfolding rounded_of
lowered s w e m = round-shift binary64 s ((2 * w + cond m 1 0) * 2 ^ e) 2341 127

half_is : (m : Bool) → from_bool m ≡ cond m 1 0
half_is true = refl
half_is false = refl

-- ---- all 128 digits are there
pub full_leads : (r : Float) (s : Bool) (w e : ℕ) (m : Bool) → Rounds r s (w / 2 ^ 64) (e + 192) (m || ltb 0 (w % 2 ^ 64)) → r ≡ rounded_of s w m e
full_leads r s w e m h =
    let k : Kept (raised w m e) w (e + 128) m = subst (λ (x : ℕ). Kept (raised w m e) w x m) (let z : e + 1 + 127 ≡ e + 128 = omega arith in z) (kept_scaled ((2 * w + cond m 1 0) * 2 ^ e) w (e + 1) 127 m (with_half w e m)) in
    h (raised w m e) (subst (λ (x : ℕ). Kept (raised w m e) (w / 2 ^ 64) x (m || ltb 0 (w % 2 ^ 64))) (let z : 64 + (e + 128) ≡ e + 192 = omega arith in z) (kept-cut (raised w m e) w (e + 128) 64 m k))
    ∙ lowered s w e m

-- ---- with room for x, the half, n are the digits; with z zeros above them they move up by z
module _ (w x : ℕ) (m : Bool) (b : w < 2 ^ 127) (d : x ≡ from_bool m) (p : 2 * w + x ≡ 0 → ⊥) where
  abbrev n : ℕ
  n = 2 * w + x

  abbrev z : ℕ
  z = count_leading_zeros 128 n

  one : (m : Bool) → from_bool m ≤ 1
  one true = le_refl 1
  one false = lit≤ tt

  fits : n < 2 ^ 128
  fits = let y = one m in omega (arith, b, d, y)

  up : (z ≤ 127) × (2 ^ 127 ≤ n * 2 ^ z) × (n * 2 ^ z < 2 ^ 128)
  up =
      let t = leading_top 128 n (omega (arith, p)) fits in
      let j = t.0 in
      let e : z + suc j ≡ 128 = t.1 in (
        omega (arith, e),
        le_trans (le_of_eq (ap (λ (x : ℕ). 2 ^ x) (let y : 127 ≡ j + z = omega (arith, e) in y) ∙ pow-add 2 j z)) (mul-le-mul_right (2 ^ z) t.2),
        lt_of_lt_of_le (mul-lt-mul_of_pos_right t.3 (pow_pos z)) (le_of_eq (sym (pow-add 2 (suc j) z) ∙ ap (λ (x : ℕ). 2 ^ x) (let y : suc j + z ≡ 128 = omega (arith, e) in y))),
      )

  whole : n * 2 ^ z % 2 ^ 128 ≡ n * 2 ^ z
  whole = mod-eq_of_lt up.2

  pub leads : 2 ^ 63 ≤ n * 2 ^ z % 2 ^ 128 / 2 ^ 64
  leads = subst (λ (x : ℕ). 2 ^ 63 ≤ x / 2 ^ 64) (sym whole) ((le-div_iff_mul-le (pow_pos 64)).1 up.1)

  moved_up : (e : ℕ) → n * 2 ^ e * 2 ^ 127 ≡ n * 2 ^ z * 2 ^ (e + 127 - z)
  moved_up e =
      let u = up.0 in
      let v : e + 127 ≡ z + (e + 127 - z) = omega (arith, u) in
      (let y : n * 2 ^ e * 2 ^ 127 ≡ n * (2 ^ e * 2 ^ 127) = omega arith in y)
      ∙ ap (λ (x : ℕ). n * x) (sym (pow-add 2 e 127) ∙ ap (λ (x : ℕ). 2 ^ x) v ∙ pow-add 2 z (e + 127 - z))
      ∙ (let y : n * (2 ^ z * 2 ^ (e + 127 - z)) ≡ n * 2 ^ z * 2 ^ (e + 127 - z) = omega arith in y)

  pub some_lead : (r : Float) (s : Bool) (e : ℕ) → Rounds r s (n * 2 ^ z % 2 ^ 128 / 2 ^ 64) (e + 191 - z) (ltb 0 (n * 2 ^ z % 2 ^ 128 % 2 ^ 64)) → r ≡ rounded_of s w m e
  some_lead r s e h =
      let u = up.0 in
      let W = n * 2 ^ z in
      let X = raised w m e in
      let v : X ≡ W * 2 ^ (e + 127 - z) = ap (λ (y : ℕ). y * 2 ^ e * 2 ^ 127) (ap (λ (y : ℕ). 2 * w + y) (sym (d ∙ half_is m))) ∙ moved_up e in
      let k : Kept X W (e + 127 - z) false = subst (λ (y : ℕ). Kept y W (e + 127 - z) false) (sym v) (kept_self W (e + 127 - z)) in
      let c : Kept X (W / 2 ^ 64) (e + 191 - z) (ltb 0 (W % 2 ^ 64)) = subst (λ (y : ℕ). Kept X (W / 2 ^ 64) y (ltb 0 (W % 2 ^ 64))) (let y : 64 + (e + 127 - z) ≡ e + 191 - z = omega (arith, u) in y) (kept-cut X W (e + 127 - z) 64 false k) in
      h X (subst (λ (y : ℕ). Kept X (y / 2 ^ 64) (e + 191 - z) (ltb 0 (y % 2 ^ 64))) (sym whole) c) ∙ lowered s w e m

-- ---- nothing is there
pub none_lead : (s : Bool) (w x e : ℕ) (m : Bool) → x ≡ from_bool m → 2 * w + x ≡ 0 → units binary64 s 0 0 ≡ rounded_of s w m e
unfolding rounded_of round
none_lead s w x e m d q = ap (λ (y : ℕ). round binary64 s y (2 ^ 2341)) (sym (ap (λ (y : ℕ). y * 2 ^ e) (ap (λ (y : ℕ). 2 * w + y) (sym (d ∙ half_is m)) ∙ q) ∙ zero-mul (2 ^ e)))
