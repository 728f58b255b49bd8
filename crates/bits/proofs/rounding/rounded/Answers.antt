-- `rounded` meets its contract: from 2^4096 on the exponent does not matter (`Once`).
use Rattle.std.proofs.Common.{◌≡◌, ℕ, ◌≤◌, Bool, ◌⊎◌, inl, inr, ap, ◌∙◌, min, arith}
use Rattle.bits.specs.Rounded.{rounded_of}
use Rattle.bits.specs.laws.Once.{rounded_far}
use Rattle.bits.proofs.rounding.rounded.Goals as goal

-- the exponent at most 4096
capped : (s : Bool) (w e : ℕ) (more : Bool) (k : ℕ) → ((k ≡ e) ⊎ ((k ≡ 4096) × (4096 ≤ e))) → rounded_of s w more k ≡ rounded_of s w more e
capped s w e more k (inl q) = ap (rounded_of s w more) q
capped s w e more k (inr q) = ap (rounded_of s w more) q.0 ∙ rounded_far s w e more q.1

pub returns : goal.returns
returns c = let a = c.args in c.round_digits.ensures ∙ capped a.negative a.digits a.exponent a.more c.min.result (let z : c.min.result ≡ min a.exponent 4096 = c.min.ensures in grind arith)
