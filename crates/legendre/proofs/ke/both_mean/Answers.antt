-- K and E by what their functions ensure of the last sums.
use mathlib.Core.Path.{◌≡◌, ap, ◌∙◌}
use lib.Ieee.{Float, of_bits}
use Rattle.laws.specs.Ladder.{held, passed}
use Rattle.legendre.specs.Ellipk.{k_from_of}
use Rattle.legendre.specs.Ellipe.{e_from_of}
use Rattle.legendre.specs.Ellipke.{both_mean_of}
use Rattle.legendre.specs.declared.ke.Both.{Both}
use Rattle.legendre.proofs.LastSums.{last_is}
use Rattle.legendre.proofs.ke.both_mean.Goals as goal

both : {k k' e e' : Float} → k ≡ k' → e ≡ e' → ◌≡◌ {A = Both} (record { k = k; e = e }) (record { k = k'; e = e' })
both p q = (λ i. record { k = p i; e = q i })

pub returns-then-y0 : goal.returns-then-y0
unfolding both_mean_of of_bits
returns-then-y0 c = both (c.k_from-k.ensures ∙ (λ i. k_from_of ((last_is _ _ c.start.ensures c.last-s.ensures) i).x ((last_is _ _ c.start.ensures c.last-s.ensures) i).y)) (held _ _ c.if-y0.true c.near_one.ensures)

pub returns : goal.returns
unfolding both_mean_of of_bits
returns c = both (c.k_from-k.ensures ∙ (λ i. k_from_of ((last_is _ _ c.start.ensures c.last-s.ensures) i).x ((last_is _ _ c.start.ensures c.last-s.ensures) i).y)) (passed _ _ c.if-y0.false (c.e_from.ensures ∙ ap e_from_of (last_is _ _ c.start.ensures c.last-s.ensures)))
