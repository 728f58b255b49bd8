-- A line's function and times are small. Assumes nothing.
use Rattle.std.specs.Prelude.{◌≡◌, refl, ℕ, ◌≤◌, Bool, true, false, cond, Option, Some, None, List, ltb}
use Rattle.std.proofs.Common.{arith, ltb-false}
use Rattle.std.specs.Option.{unwrap_or}
use Rattle.answer.specs.Numbers.{last}
use Rattle.hexline.specs.Fields.{up_to, field_of, says_of, value_in}

up_to_small : (most : ℕ) (n : Option ℕ) → unwrap_or (up_to most n) 0 ≤ most
unfolding up_to
up_to_small most None = omega arith
up_to_small most (Some k) = by (ltb most k) refl
  where
    by : (t : Bool) → ltb most k ≡ t → unwrap_or (cond t None (Some k)) 0 ≤ most
    by true e = omega arith
    by false e = ltb-false most k e

-- the function is none above the last
pub function_small : (l : List ℕ) → value_in l 0 ≤ last
unfolding value_in says_of field_of
function_small l = up_to_small last _

-- the times fit 16 bits
pub times_small : (l : List ℕ) → value_in l 4 ≤ 65535
unfolding value_in says_of field_of
times_small l = up_to_small 65535 _
