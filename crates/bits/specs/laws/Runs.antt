-- A sum of powers in fixed point is at most 9/8, and each turn of `run` puts one term before it. Assumes nothing.
use Rattle.std.specs.Prelude.{◌≡◌, ℕ, zero, suc, ◌+◌, ◌-◌, ◌*◌, ◌/◌, ◌^◌, ◌≤◌, ◌<◌}
use Rattle.std.proofs.Common.{sym, ap, ◌∙◌, zero-le, le_trans, mul-le-mul, div-le_self, arith, lit≤}
use Rattle.std.proofs.Math.Nat.{div-le_of_le-mul}
use Rattle.bits.specs.Runs.{run_of}

pub run-le : (u n d k : ℕ) → u ≤ 2 ^ 60 → run_of u n d k ≤ 9 * 2 ^ 60
unfolding run_of
run-le u n d zero h = zero-le
run-le u n d (suc k) h =
    let x : 2 ^ 63 / n ≤ 2 ^ 63 = div-le_self (2 ^ 63) n in
    let y : u * run_of u (n + d) d k / 2 ^ 64 ≤ 9 * 2 ^ 56 = div-le_of_le-mul (2 ^ 64) (le_trans (mul-le-mul h (run-le u (n + d) d k h)) (lit≤ tt)) in
    omega arith

-- the term i - 1 before those from i on
pub run_turn : (u n d k i h p : ℕ) → 0 < i → i ≤ k → h ≡ run_of u (n + d * i) d (k - i) → p ≡ u * h / 2 ^ 64 → 2 ^ 63 / (n + d * (i - 1)) + p ≡ run_of u (n + d * (i - 1)) d (k - (i - 1))
unfolding run_of
run_turn u n d k i h p l m eh ep =
    let j = i - 1 in
    let c : k - j ≡ suc (k - i) = omega arith in
    let s : n + d * j + d ≡ n + d * i = next d j ∙ ap (λ (z : ℕ). n + d * z) (let y : j + 1 ≡ i = omega arith in y) in
    ap (λ (z : ℕ). 2 ^ 63 / (n + d * j) + z) (ep ∙ ap (λ (z : ℕ). u * z / 2 ^ 64) (eh ∙ ap (λ (z : ℕ). run_of u z d (k - i)) (sym s)))
    ∙ ap (λ (z : ℕ). run_of u (n + d * j) d z) (sym c)
  where
    next : (d j : ℕ) → n + d * j + d ≡ n + d * (j + 1)
    next d j = omega arith
