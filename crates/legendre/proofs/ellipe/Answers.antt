-- Where m lies decides (`Domain::of`).
use Rattle.std.proofs.Common.{Err, refl, ap, ◌∙◌}
use Rattle.std.proofs.lemmas.Result.{err_from_is_err_and}
use Rattle.legendre.specs.Domain.{chosen_of}
use Rattle.legendre.specs.laws.Decided.{chosen}
use Rattle.legendre.specs.Ellipe.{ellipe_within, ellipe_of}
use Rattle.legendre.proofs.ellipe.Goals as goal

pub returns-in_err-place : goal.returns-in_err-place
unfolding ellipe_of ellipe_within
returns-in_err-place c =
    let p = err_from_is_err_and c.from_residual.result c.from_residual.ensures.1 in
    p.1 ∙ ap Err p.2 ∙ c.in_err-place.ensures _ _ _ _

pub returns-in-One : goal.returns-in-One
unfolding ellipe_of ellipe_within chosen_of
returns-in-One c = chosen _ _ _ _ _ c.in_ok-place.ensures c.in-One.is refl

pub returns-in-Bottom : goal.returns-in-Bottom
unfolding ellipe_of ellipe_within chosen_of
returns-in-Bottom c = chosen _ _ _ _ _ c.in_ok-place.ensures c.in-Bottom.is refl

pub returns-in-Negative : goal.returns-in-Negative
unfolding ellipe_of ellipe_within chosen_of
returns-in-Negative c = chosen _ _ _ _ _ c.in_ok-place.ensures c.in-Negative.is (rw c.e_negative.ensures)

pub returns-in-Unit : goal.returns-in-Unit
unfolding ellipe_of ellipe_within chosen_of
returns-in-Unit c = chosen _ _ _ _ _ c.in_ok-place.ensures c.in-Unit.is (rw c.e_below_one.ensures)
