-- The law of patterns.
use mathlib.Core.Path.{sym}
use Rattle.difference.specs.laws.Patterns.{finite_pattern}
use Rattle.difference.proofs.is_finite.Goals as goal

pub returns : goal.returns
returns c = sym (finite_pattern _)
