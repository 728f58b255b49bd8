-- `finished` meets its contract: the pattern is that of the rounded root (`Trials`).
use Rattle.std.proofs.Common.{◌∙◌, arith}
use Rattle.root.specs.Steps.{Sized}
use Rattle.root.proofs.Trials.{bounds, no_nan-pattern, root_pattern}
use Rattle.root.proofs.finished.Goals as goal
use Rattle.root.proofs.finished.Goals.{In-None}

sized : (c : In-None) → Sized c.args.r.radicand.digits c.args.r.radicand.half
sized c = let d = c.args.r.radicand in record { least = d.least; most = d.most; scale = d.scale }

pub overflow_add-result-in-None : goal.overflow_add-result-in-None
overflow_add-result-in-None c =
    let d = c.args.r.radicand in
    let b = (bounds d.digits d.half c.args.digits (sized (goal.at.overflow_add-result-in-None c).In-None) c.requires).1 in
    omega arith

pub float_from_bits-result : goal.float_from_bits-result
float_from_bits-result c = let d = c.args.r.radicand in no_nan-pattern d.digits d.half c.args.digits (sized (goal.at.float_from_bits-result c).In-None) c.requires

pub returns-in-None : goal.returns-in-None
returns-in-None c x w = let d = c.args.r.radicand in root_pattern d.digits d.half c.args.digits (sized (goal.at.returns-in-None c).In-None) c.requires ∙ w.worked c.in-None.is
