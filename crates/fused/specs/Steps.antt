-- What the steps of the multiply-add promise each other. Definitions only.
use Rattle.std.specs.Prelude.{◌≡◌, Bool, cond, ℕ, ◌+◌, ◌-◌, ◌*◌, ◌/◌, ◌%◌, ◌^◌, ◌≤◌, ◌<◌, ltb}

-- sig * 2 ^ exp as digits * 2 ^ e' / 2 ^ 63: 63 digits, of which the lowest 10 are 0
pub record Lifted (sig exp digits e' : ℕ) : Type 0 where
  pub same : sig * 2 ^ exp * 2 ^ 63 ≡ digits * 2 ^ e'
  pub most : digits < 2 ^ 63
  pub round : digits % 2 ^ 10 ≡ 0
  pub lead : 0 < sig → 2 ^ 62 ≤ digits
  pub scale : e' ≤ exp + 63

-- a - b, where b was cut: one place less where something of b was lost
abbrev pub without : ℕ → ℕ → Bool → ℕ
without a b more = a - (b + cond more 1 0)

-- v without its lowest k digits, and whether any of those is set
pub record Shifted (v k digits : ℕ) (more : Bool) : Type 0 where
  pub whole : digits ≡ v / 2 ^ k
  pub rest : ltb 0 (v % 2 ^ k) ≡ more
