-- `sine` meets its contract: its calls give the steps (`Reaching`), and these lie near the sum (`Near`).
use Rattle.std.proofs.Common.{Err, ap, ◌∙◌}
use Rattle.std.proofs.lemmas.Result.{err_from_is_err_and}
use Rattle.laws.specs.laws.Flags.{holds}
use Rattle.angle.specs.Sine.{sine_at, sine_of}
use Rattle.angle.proofs.Reaching.{view_square, is_sine}
use Rattle.angle.proofs.Near.{sine_promise}
use Rattle.angle.proofs.sine.Goals as goal

pub returns-in_err-a : goal.returns-in_err-a
unfolding sine_of
returns-in_err-a c =
    let p = err_from_is_err_and c.from_residual.result c.from_residual.ensures.1 in
    sine_promise c.args.x _ (holds c.well_formed.0.1) (p.1 ∙ ap Err p.2 ∙ c.in_err-a.ensures sine_at)

pub odd-requires : goal.odd-requires
odd-requires c = view_square c.in_ok-a.ensures

pub sine_from-requires : goal.sine_from-requires
sine_from-requires c = c.in_ok-a.ensures.room

pub returns : goal.returns
returns c =
    sine_promise c.args.x _ (holds c.well_formed.0.1) (is_sine c.in_ok-a.ensures c.odd.ensures c.sine_from.ensures)
