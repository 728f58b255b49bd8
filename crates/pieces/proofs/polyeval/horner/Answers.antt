use Rattle.std.proofs.Common.{◌≡◌, reverse, ◌∙◌, rules}
use Rattle.std.specs.List.{fold}
use Rattle.std.proofs.iter.runs.Made.{chains}
use lib.Ieee.{Float}
use Rattle.laws.specs.Arithmetic.{◌⊕◌, ◌⊗◌, +0}
use Rattle.pieces.proofs.Rows.{from_last}
use Rattle.pieces.proofs.polyeval.horner.Goals as goal

pub returns : goal.returns
returns c =
    let f : Float → Float → Float = λ sum k. sum ⊗ c.args.x ⊕ k in
    let e : c.fold.result ≡ fold f +0 (reverse c.args.c.now) = search (rules, chains) in
    e ∙ from_last c.args.x c.args.c.now
