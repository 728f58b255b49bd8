-- The code finds the sign bit by tests: of a zero, 1 / φ is the infinity with it. Assumes nothing.
use Rattle.std.specs.Prelude.{◌≡◌, refl, ℕ, zero, suc, ◌+◌, ◌*◌, ◌<◌, ◌≤◌, Bool, true, false, cond, ◌&&◌, ◌||◌, Float}
use Rattle.std.proofs.Common.{◌∙◌, ap, mul-pos, arith, ne_eqb, le-ltb}
use Rattle.std.specs.Float.{nan, inf, fin}
use Rattle.std.specs.Float.Ieee.{up, down, neg, div, below, level, eq, lt, of_bits}
use Rattle.std.specs.Float.Ieee.Fits.{up_pos}
use Rattle.laws.specs.Arithmetic.{◌⊘◌, ◌=·◌, ◌<·◌, +0, 1·0}
use Rattle.laws.specs.laws.Flags.{is_some}
use Rattle.ellipf.specs.Ellipf.{signum_of}

signed : (s : Bool) (a z : ℕ) (w : Bool) → z ≡ 0 → (a ≡ 0 → w ≡ s) → (below s a false z || level s a false z && w) ≡ s
signed s a z w e h = ap (λ (z : ℕ). below s a false z || level s a false z && w) e ∙ go s a h
  where
    go : (s : Bool) (a : ℕ) → (a ≡ 0 → w ≡ s) → (below s a false 0 || level s a false 0 && w) ≡ s
    go true zero h = h refl
    go false zero h = h refl
    go true (suc a) h = ap (λ (t : Bool). t || level true (suc a) false 0 && w) (is_some (suc a + 0) (let p : 0 < suc a + 0 = omega arith in p))
    go false (suc a) h = rw (le-ltb (suc a) 0 (let p : 0 ≤ suc a = omega arith in p), ne_eqb (suc a) 0 (λ e. omega arith))

pub signum_is : (φ : Float) → cond (φ <· +0 || φ =· +0 && 1·0 ⊘ φ <· +0) (neg 1·0) 1·0 ≡ signum_of φ
unfolding signum_of lt eq div of_bits
signum_is nan = refl
signum_is (inf true) = refl
signum_is (inf false) = refl
signum_is (fin true zero e) = ap (λ (t : Bool). cond t (neg 1·0) 1·0) (signed true (0 * up e * 1) (0 * 1 * down e) true (omega arith) (λ k. refl))
signum_is (fin false zero e) = ap (λ (t : Bool). cond t (neg 1·0) 1·0) (signed false (0 * up e * 1) (0 * 1 * down e) false (omega arith) (λ k. refl))
signum_is (fin s (suc m) e) = ap (λ (t : Bool). cond t (neg 1·0) 1·0) (signed s (suc m * up e * 1) (0 * 1 * down e) (1·0 ⊘ fin s (suc m) e <· +0) (omega arith) (λ k. absurd (some (suc m * up e) (mul-pos (let p : 0 < suc m = omega arith in p) (up_pos e)) k)))
  where
    some : (a : ℕ) → 0 < a → a * 1 ≡ 0 → ⊥
    some a h k = omega arith
