-- `sine_cosine` meets its contract: its calls give the steps (`Reaching`), and these lie near the sums (`Near`).
use Rattle.laws.specs.laws.Flags.{holds}
use Rattle.angle.specs.Sine.{sine_at, sine_of}
use Rattle.angle.specs.Cosine.{cosine_at, cosine_of}
use Rattle.angle.proofs.Reaching.{view_square, is_sine, is_cosine}
use Rattle.angle.proofs.Near.{sine_promise, cosine_promise}
use Rattle.angle.proofs.sine_cosine.Goals as goal

pub returns-in-Err : goal.returns-in-Err
unfolding sine_of cosine_of
returns-in-Err c =
    let f = holds c.well_formed.0.1 in
    record {
      sine_value = sine_promise c.args.x _ f (c.in-Err.ensures sine_at);
      cosine_value = cosine_promise c.args.x _ f (c.in-Err.ensures cosine_at);
    }

pub odd-requires : goal.odd-requires
odd-requires c = view_square c.in-Ok.ensures

pub sine_from-requires : goal.sine_from-requires
sine_from-requires c = c.in-Ok.ensures.room

pub returns-in-Ok : goal.returns-in-Ok
returns-in-Ok c =
    let v = c.in-Ok.ensures in
    let f = holds c.well_formed.0.1 in record {
      sine_value = sine_promise c.args.x _ f (is_sine v c.odd.ensures c.sine_from.ensures);
      cosine_value = cosine_promise c.args.x _ f (is_cosine v c.cosine_by-c.ensures);
    }
