-- The first one's place, or the length.
use Rattle.std.proofs.Common.{◌∙◌, ap, ℕ, Option, length}
use Rattle.std.specs.Option.{unwrap_or}
use Rattle.hexfloat.proofs.Parts.{before_is, before_within}
use Rattle.hexfloat.proofs.bytes.find.Goals as goal

pub returns : goal.returns
returns c =
    let a = c.args in
    let is = c.unwrap_or.ensures ∙ ap (λ (o : Option ℕ). unwrap_or o (length a.s.now)) c.place.ensures ∙ before_is a.a a.b a.s.now in
    (is, rw is (before_within a.a a.b a.s.now))
