-- The body is the definition, each call replaced by what it ensures.
use Rattle.ellipeinc.specs.Ellipeinc.{trusted_terms_of}
use Rattle.ellipeinc.proofs.Few.{both_few}
use Rattle.ellipeinc.proofs.trusted_terms.Goals as goal

pub terms_from-requires : goal.terms_from-requires
terms_from-requires c = both_few _ _ _ c.with_rf.ensures

pub returns : goal.returns
unfolding trusted_terms_of
returns c =
    let both = c.with_rf.ensures in
    rw (c.terms_from.ensures, c.trusted-v.ensures, both.0, both.1)
