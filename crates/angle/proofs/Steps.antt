-- One step of the sums, from degree n + 2 to n. Assumes nothing.
use mathlib.Core.Path.{◌≡◌, refl, sym, ap, ap₂, ◌∙◌, subst}
use Prim.Native.Nat.{ℕ, suc, ◌+◌, ◌-◌, ◌*◌, ◌/◌, ◌^◌, ◌≤◌, ◌<◌, zero-le}
use native.Mathlib.Nat.{mul-le-mul, mul-le-mul_right, le_trans, lt_of_le_of_lt, div-le_of_le-mul}
use native.Mathlib.Omega.{arith}
use lib.Dec.{lit<}
use Rattle.angle.specs.Alternating.{alternating_of, tail_of}
use Rattle.angle.specs.declared.series.Balance.{Balance}
use Rattle.angle.proofs.Taylor.{two}
use Rattle.angle.proofs.Sums.{two-least, from_two, sizes}

module _ (n t : ℕ) (b : Balance) (l : n ≤ 40) (ht : t ≤ 2 ^ 63) (e : b ≡ tail_of t (n + 2)) where
  -- the products keep within 123 places
  pub room : (t / two n * b.added < 2 ^ 123) × (t / two n * b.taken < 2 ^ 123)
  room =
      let g : t / two n ≤ 2 ^ 62 = div-le_of_le-mul (two n) (le_trans ht (mul-le-mul_right (2 ^ 62) (two-least n 0 zero-le))) in
      let s = subst (λ (z : Balance). (z.added ≤ 30 * 2 ^ 56) × (z.taken ≤ 27 * 2 ^ 56)) (sym e) (from_two t ht (n + 2) ((42 - (n + 2)) / 2) (omega arith)) in
      (lt_of_le_of_lt (mul-le-mul g s.0) (lit< tt), lt_of_le_of_lt (mul-le-mul g s.1) (lit< tt))

  -- and give the next sums
  pub turn : (x y : ℕ) → x ≡ t / two n * b.taken / 2 ^ 59 → y ≡ t / two n * b.added / 2 ^ 59 → record { added = 2 ^ 60 + x; taken = y } ≡ tail_of t n
  unfolding alternating_of
  turn x y ex ey =
      let k : (42 - n) / 2 ≡ suc ((42 - (n + 2)) / 2) = omega arith in
      ap₂ (λ (u v : ℕ). balance u v) ex ey ∙ ap (λ (z : Balance). balance (t / two n * z.taken / 2 ^ 59) (t / two n * z.added / 2 ^ 59)) e ∙ ap (alternating_of t n) (sym k)
    where
      balance : ℕ → ℕ → Balance
      balance u v = record { added = 2 ^ 60 + u; taken = v }

  pub fits : (x : ℕ) → x ≡ t / two n * b.taken / 2 ^ 59 → 2 ^ 60 + x ≤ 232 * 2 ^ 56
  fits x ex = subst (λ (z : Balance). z.added ≤ 232 * 2 ^ 56) (sym (turn x (t / two n * b.added / 2 ^ 59) ex refl)) (sizes t ht n ((42 - n) / 2)).0
