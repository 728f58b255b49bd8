-- The body is the definition, each call replaced by what it ensures.
use Rattle.ellipeinc.specs.Ellipeinc.{above_of}
use Rattle.ellipeinc.proofs.Few.{both_few}
use Rattle.ellipeinc.proofs.above.Goals as goal

pub both-requires : goal.both-requires
both-requires c = both_few _ _ _ c.with_rf.ensures

pub returns : goal.returns
unfolding above_of
returns c =
    let both = c.with_rf.ensures in
    rw (c.both.ensures, c.root-t.ensures, both.0, both.1)
