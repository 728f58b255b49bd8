-- Every finite f64 is a whole number of units of 2^-1074: no digit of it is cut off. Assumes nothing.
use Rattle.std.specs.Prelude.{◌≡◌, refl, ℕ, suc, ◌+◌, ◌*◌, ◌^◌, ◌/◌, ◌-◌, ◌≤◌, T, ℤ, pos, negsuc, Float}
use Rattle.std.proofs.Common.{ap, ◌∙◌, sym, mul-div_cancel, div-one, mul-one, mul_assoc, arith, pow_pos, pow-add}
use Rattle.std.specs.Float.{nan, inf, fin, binary64}
use Rattle.std.specs.Float.Ieee.{up, down, fits}
use Rattle.std.specs.Float.Ieee.Exact.{HasValue}
use Rattle.std.specs.Float.Ieee.Scale.{finite}
use Rattle.total.specs.Total.{negative, size_of}
use Rattle.laws.specs.laws.Exact.{pow_back}
use Rattle.total.specs.laws.Units.{fit_parts}

divides : (m : ℕ) (e : ℤ) → down e ≤ 2 ^ 1074 → m * up e * 2 ^ 1074 / down e * down e ≡ m * up e * 2 ^ 1074
divides m (pos k) h = mul-one (m * 2 ^ k * 2 ^ 1074 / 1) ∙ div-one (m * 2 ^ k * 2 ^ 1074)
divides m (negsuc k) h =
    let l : suc k ≤ 1074 = pow_back (suc k) 1074 h in
    let j = 1074 - suc k in
    let e : 2 ^ 1074 ≡ 2 ^ j * 2 ^ suc k = ap (λ (n : ℕ). 2 ^ n) (let z : 1074 ≡ j + suc k = omega arith in z) ∙ pow-add 2 j (suc k) in
    let g : m * 1 * 2 ^ 1074 ≡ m * 1 * 2 ^ j * 2 ^ suc k = ap (λ (n : ℕ). m * 1 * n) e ∙ sym (mul_assoc (m * 1) (2 ^ j) (2 ^ suc k)) in
    ap (λ (n : ℕ). n / 2 ^ suc k * 2 ^ suc k) g ∙ ap (λ (n : ℕ). n * 2 ^ suc k) (mul-div_cancel (m * 1 * 2 ^ j) (pow_pos (suc k))) ∙ sym g

pub whole : (x : Float) → T (fits binary64 x) → T (finite x) → HasValue x (negative x) (size_of x) (2 ^ 1074)
unfolding size_of negative
whole nan h f = absurd f
whole (inf s) h f = absurd f
whole (fin s m e) h f = (refl, sym (divides m e (fit_parts s m e h).0))
