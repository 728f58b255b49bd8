-- A pattern is a NaN's where its float is not itself.
use mathlib.Core.Path.{◌∙◌}
use Rattle.hexfloat.proofs.Patterns.{nan-read, nan-none, no_nan}
use Rattle.hexfloat.proofs.field.nan.Goals as goal

pub returns-in_err-p : goal.returns-in_err-p
returns-in_err-p c = c.from_residual.ensures ∙ nan-none c.args.s.now c.in_err-p.ensures

pub returns-then-x : goal.returns-then-x
returns-then-x c = nan-read c.args.s.now _ c.in_ok-p.ensures (rw c.from_pattern-x.ensures at c.if-x.true)

pub returns-else-x : goal.returns-else-x
returns-else-x c = no_nan c.args.s.now _ c.in_ok-p.ensures (rw c.from_pattern-x.ensures at c.if-x.false)
