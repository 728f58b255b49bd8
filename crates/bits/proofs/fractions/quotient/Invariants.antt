-- Long division by eight binary digits at a time (`Division`).
use Rattle.std.proofs.Common.{◌≡◌, ◌+◌, ◌*◌, ◌^◌, ◌<◌}
use Rattle.bits.proofs.fractions.quotient.Given as goal

abbrev pub invariant-loop : goal.invariant-loop
invariant-loop l = (l.rest < l.b) × (l.q * l.b + l.rest ≡ l.a * 256 ^ l.counter)
