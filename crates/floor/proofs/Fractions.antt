-- The shifts of truncation and floor: w / 2 ^ s for a w of 53 digits. Assumes nothing.
use mathlib.Core.Path.{◌≡◌, sym, ap, ◌∙◌}
use mathlib.Core.Bool.{Bool, cond}
use Prim.Native.Nat.{ℕ, ◌+◌, ◌*◌, ◌/◌, ◌%◌, ◌^◌, ◌≤◌, ◌<◌}
use native.Mathlib.Nat.{le_trans, lt_of_lt_of_le, zero-add, div-eq_of_lt, mod-eq_of_lt, div-le_self}
use native.Mathlib.Omega.{arith}
use lib.Dec.{ltb, lit≤}
use lib.Pow.{pow_mono}
use Rattle.laws.specs.laws.Digits.{one_shl}
use Rattle.floor.specs.Floor.{ceiling}

pub lower_far : (w s : ℕ) → w < 2 ^ 53 → 64 ≤ s → 0 ≡ w / 2 ^ s
lower_far w s h l = sym (div-eq_of_lt (lt_of_lt_of_le h (pow_mono {i = 53} (le_trans (lit≤ tt) l))))

pub lower_le : (w s : ℕ) → w < 2 ^ 53 → w / 2 ^ s ≤ 2 ^ 53
lower_le w s h = let d = div-le_self w (2 ^ s) in omega arith

rest_far : (w s : ℕ) → w < 2 ^ 53 → 64 ≤ s → w % 2 ^ s ≡ w
rest_far w s h l = mod-eq_of_lt (lt_of_lt_of_le h (pow_mono {i = 53} (le_trans (lit≤ tt) l)))

pub upper-far : (w s : ℕ) (b : Bool) → w < 2 ^ 53 → 64 ≤ s → ltb 0 w ≡ b → cond b 1 0 ≡ ceiling w (2 ^ s)
unfolding ceiling
upper-far w s b h l e = sym (zero-add (cond b 1 0)) ∙ (λ i. lower_far w s h l i + cond ((sym e ∙ ap (ltb 0) (sym (rest_far w s h l))) i) 1 0)

pub upper-near : (w s : ℕ) (b : Bool) → s < 64 → ltb 0 (w % (1 * 2 ^ s % 2 ^ 64)) ≡ b → w / 2 ^ s + cond b 1 0 ≡ ceiling w (2 ^ s)
unfolding ceiling
upper-near w s b h e = ap (λ (t : Bool). w / 2 ^ s + cond t 1 0) (sym e ∙ ap (λ (x : ℕ). ltb 0 (w % x)) (one_shl s h))

pub upper-le : (w s : ℕ) → w < 2 ^ 53 → w / 2 ^ s + 1 ≤ 2 ^ 53
upper-le w s h = let d = div-le_self w (2 ^ s) in omega arith
