-- After so many steps the rest is what y leaves of x's digits and as many zeros.
use Rattle.std.proofs.Common.{◌≡◌, ◌*◌, ◌%◌, ◌^◌, ◌<◌}
use Rattle.remainder.proofs.rest_after.Given as goal

abbrev pub invariant-loop : goal.invariant-loop
invariant-loop l = (l.rest < l.y) × (l.rest ≡ l.x * 2 ^ l.counter % l.y)
