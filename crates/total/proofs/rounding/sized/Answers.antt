-- From 2^2175 on the number is negative, and its size is N less it.
use borrow.Author.Tests.{lt-leb}
use Rattle.std.proofs.Common.{◌≡◌, get_or, refl, length, le-leb, rules}
use Rattle.total.specs.Total.{val, Half, size_of_total}
use Rattle.total.specs.laws.Limbs.{Fit, limbs_val}
use Rattle.total.proofs.TopLimbs.{plus, minus, size_minus}
use Rattle.total.proofs.rounding.sized.Goals as goal

pub returns-then-negative : goal.returns-then-negative
unfolding size_of_total
returns-then-negative c = let l = c.args.limbs.now in
    let long : length l ≡ 34 = search rules in
    let fit : Fit l = λ i. search rules in
    let n = c.negate in
    let h = minus l long c.if-negative.true in
    rw (le-leb 0x8000_0000_0000_0000 (get_or l 33 0) c.if-negative.true, le-leb Half (val l) h) (refl, n.ensures, size_minus l n.new.limbs long fit h n.ensures)

pub returns-else-negative : goal.returns-else-negative
unfolding size_of_total
returns-else-negative c = let l = c.args.limbs.now in
    let long : length l ≡ 34 = search rules in
    let fit : Fit l = λ i. search rules in
    rw (lt-leb 0x8000_0000_0000_0000 (get_or l 33 0) c.if-negative.false, plus l long fit c.if-negative.false) (refl, limbs_val l long fit, refl)
