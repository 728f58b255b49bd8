-- `parts` meets its contract: each kind of field has its own case (`Reading`).
use Rattle.std.proofs.Common.{T, arith, rules}
use lib.Ieee.{binary64, fits}
use Rattle.laws.specs.laws.Flags.{holds}
use Rattle.bits.proofs.Reading.{parts_none, parts_low, parts_high}
use Rattle.bits.proofs.decoding.parts.Goals as goal
use Rattle.bits.proofs.decoding.parts.Goals.{Start}

held : (c : Start) → T (fits binary64 c.args.x)
held c = holds c.well_formed.0.1

pub returns-in-2047 : goal.returns-in-2047
returns-in-2047 c = parts_none c.args.x c.to_pattern-pattern.result (held (goal.at.returns-in-2047 c).Start) c.to_pattern-pattern.ensures c.in-2047.is

pub returns-in-0 : goal.returns-in-0
returns-in-0 c = parts_low c.args.x c.to_pattern-pattern.result (held (goal.at.returns-in-0 c).Start) c.to_pattern-pattern.ensures (λ e. omega (arith, c.in-0.is, e)) c.in-0.is

pub returns-in_default : goal.returns-in_default
returns-in_default c = parts_high c.args.x c.to_pattern-pattern.result (held (goal.at.returns-in_default c).Start) c.to_pattern-pattern.ensures (search rules) (search rules)
