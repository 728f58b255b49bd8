-- What is not below zero is its own size; else the sign and the size go to the one rounding.
use Rattle.std.proofs.Common.{◌≡◌, ◌^◌, ◌∙◌, ℕ, refl, false, length, rules}
use lib.Dec.{leb}
use lib.Ieee.{round, binary64}
use Rattle.total.specs.Total.{val, Half, signed_of, round_total}
use Rattle.total.specs.laws.Limbs.{Fit}
use Rattle.total.proofs.TopLimbs.{plus, round-signed}
use Rattle.total.proofs.Total.rounded.Goals as goal

own_size : (v : ℕ) → leb Half v ≡ false → round binary64 false v (2 ^ 1074) ≡ round_total v
unfolding round_total
own_size v e = rw e refl

pub returns-then-self-lt-TOP_BIT : goal.returns-then-self-lt-TOP_BIT
returns-then-self-lt-TOP_BIT c = let l = c.args.self.limbs in
    let long : length l ≡ 34 = search rules in
    let fit : Fit l = λ i. search rules in
    c.round_size.ensures ∙ own_size (val l) (plus l long fit c.if-self-lt-TOP_BIT.true)

pub returns : goal.returns
unfolding signed_of
returns c = let s = c.size-size in
    c.round_size-2.ensures ∙ (λ i. round binary64 (s.ensures.0 i).negative (s.ensures.1 i) (2 ^ 1074)) ∙ round-signed (val c.args.self.limbs)
