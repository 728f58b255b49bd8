-- What the steps of the one rounding promise each other. Definitions only.
use Rattle.std.specs.Prelude.{◌≡◌, ℕ, zero, suc, ◌+◌, ◌<◌, ◌≤◌, Bool, true, false}
use Prim.Native.Nat.{Ordering}

-- The steps count in 2 ^ -(spare + 1074): 127 places below the 2 ^ -2341 of `rounded_of`, so that digits moved up by as many are whole.
abbrev pub spare : ℕ
spare = 1394

-- Where a number lies between q and q + 1, from its next binary digit and from whether anything but zeros comes after that: below the middle, at it or above it.
unfoldable pub ord_of : ℕ → Bool → Ordering
ord_of zero more = Ordering.lt
ord_of (suc d) false = Ordering.eq
ord_of (suc d) true = Ordering.gt

-- d of 64 leading digits are dropped where e follow them: 11, or all below the smallest f64
pub record Drop (e d : ℕ) : Type 0 where
  pub some : 11 ≤ d
  pub reaches : spare ≤ d + e
  pub less : 11 < d → d + e ≡ spare
