-- `remainder_of` meets its contract (`Digits`).
use Rattle.std.proofs.Common.{ℕ, ◌^◌, ap, ◌∙◌}
use lib.Ieee.{binary64, round}
use Rattle.remainder.proofs.Digits.{rest_units}
use Rattle.remainder.proofs.remainder_of.Goals as goal

pub returns : goal.returns
returns c =
    let x = c.args.x in
    let y = c.args.y in
    c.written.ensures ∙ ap (λ (n : ℕ). round binary64 x.negative n (2 ^ 1074)) (rest_units x.digits x.exponent y.digits y.exponent c.rest_after-rest.result c.requires.0 c.requires.1 c.rest_after-rest.ensures)
