-- The product's digits, shifted, are three words.
use Rattle.std.proofs.Common.{◌*◌, ◌^◌, ◌<◌, arith}
use Rattle.total.specs.laws.Units.{times-lt}
use Rattle.total.proofs.Carrying.{words_are, third_fits}
use Rattle.total.proofs.limbs.spread.Goals as goal

pub overflow_cast-result-4 : goal.overflow_cast-result-4
overflow_cast-result-4 c = record { fits = third_fits _ c.args.by c.requires (grind arith) }

pub returns : goal.returns
returns c =
    let a = c.args in
    let below : a.times * a.digits < 2 ^ 80 = times-lt a.times a.digits 64 (omega arith) (omega arith) in
    words_are _ a.by (a.times * a.digits) c.requires (grind arith)
