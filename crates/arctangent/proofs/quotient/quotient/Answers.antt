-- `quotient` meets its contract: where the test holds the division is made, and else it is 0.
use Rattle.std.proofs.Common.{◌*◌, ◌/◌, ◌^◌, ltb, refl, ltb→lt}
use Rattle.laws.specs.Ladder.{held, passed}
use Rattle.laws.specs.laws.Flags.{holds, both_true}
use Rattle.arctangent.specs.Quotient.{quotient_of}
use Rattle.arctangent.proofs.quotient.quotient.Goals as goal

pub quotient-requires : goal.quotient-requires
quotient-requires c =
    let a = c.args in
    let b = both_true (ltb a.a a.b) (ltb a.b (2 ^ 56)) c.if-a-b.true in
    (ltb→lt a.a a.b (holds b.0), ltb→lt a.b (2 ^ 56) (holds b.1))

pub returns-then-a-b : goal.returns-then-a-b
unfolding quotient_of
returns-then-a-b c = let a = c.args in held (a.a * 2 ^ 64 / a.b) 0 c.if-a-b.true c.quotient.ensures

pub returns : goal.returns
unfolding quotient_of
returns c = let a = c.args in passed (a.a * 2 ^ 64 / a.b) 0 c.if-a-b.false refl
