-- The limbs above the place that was found are zero; where none was found, all are.
use Rattle.std.proofs.Common.{◌≡◌, ℕ, ◌+◌, ◌<◌, Option, None, Some, List, length, get_or, take, MatchOption, rules}
use Rattle.total.specs.Total.{val}
use Rattle.total.proofs.FirstLimbs.{all-zero, zeros_above}
use Rattle.total.proofs.rounding.highest.Goals as goal

value : (l : List ℕ) (r : Option ℕ)
    → MatchOption r ((k : ℕ) → k < length l → get_or l k 0 ≡ 0) (λ at. (at < length l) × (0 < get_or l at 0) × ((k : ℕ) → at < k → k < length l → get_or l k 0 ≡ 0))
    → MatchOption r (val l ≡ 0) (λ at. (at < length l) × (val (take (at + 1) l) ≡ val l) × (0 < get_or l at 0))
value l None h = all-zero l h
value l (Some at) h = (h.0, zeros_above l at h.2, h.1)

pub returns : goal.returns
returns c = value c.args.limbs.now c.rposition.result (search rules)
