-- One was free, or ten were taken.
use Rattle.std.proofs.Common.{arith, rules}
use Rattle.files.specs.Save.{taken}
use Rattle.files.proofs.NewName.{none_tried, one_free, one-taken}
use Rattle.files.proofs.naming.try_names.Goals as goal

pub returns-in-Some : goal.returns-in-Some
returns-in-Some c =
    one_free c.args.at c.loop-k.k c.args.path.now c.loop-k.path c.try_name.new.path c.loop-k.invariant.0 c.loop-k-test.true c.in-Some.ensures.path_after _ c.in-Some.ensures.called

pub loop-k-init : goal.loop-k-init
loop-k-init c = (none_tried _ _, search rules)

pub loop-k-preserved : goal.loop-k-preserved
loop-k-preserved c = (
  one-taken c.args.at c.loop-k.k c.args.path.now c.loop-k.path c.try_name.new.path c.loop-k.invariant.0 c.loop-k-test.true c.in_default.ensures.path_after c.in_default.ensures.called
      c.in_default.ensures.path_unchanged c.try_name.auto.path,
  omega (arith, c.try_name.auto.path),
)

pub try_name-requires : goal.try_name-requires
try_name-requires c = (c.loop-k.invariant.1, c.loop-k-test.true, rw c.loop-k.invariant.0.stem c.requires.1)

pub returns : goal.returns
returns c = taken (λ k h. c.loop-k.invariant.0.all k (omega arith))
