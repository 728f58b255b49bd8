-- What the reads so far brought, and one more.
use Rattle.std.proofs.Common.{◌≡◌, ◌≤◌, length, drop, length-drop, refl, sym, ◌∙◌, arith, rules}
use Rattle.files.specs.Reads.{count_of, failed_of}
use Rattle.loading.proofs.Filling.{none_yet, all_full, stopped, ended, goes_on_lem, rest_whole}
use Rattle.loading.proofs.read_whole.Goals as goal

pub loop-at-init : goal.loop-at-init
loop-at-init c = (none_yet _ _ _, omega arith, refl)

pub returns-then-is_none-clause-brought : goal.returns-then-is_none-clause-brought
unfolding failed_of
returns-then-is_none-clause-brought c =
    let l = c.loop-at in
    let call = c.read_at-got in
    stopped _ _ l.at l.into call.new.into call.result l.invariant.0 call.ensures.into_unchanged call.ensures.called (search rules)

pub returns-then-n-eq0-clause-brought : goal.returns-then-n-eq0-clause-brought
unfolding failed_of
returns-then-n-eq0-clause-brought c =
    let l = c.loop-at in
    let call = c.read_at-got in
    let n = c.count-n in
    let is : n.result ≡ count_of call.result (length (drop l.at call.new.into)) = rw (rest_whole call.new.into l.at) at n.ensures.value in
    ended _ _ l.at l.into call.new.into call.result l.invariant.0 call.ensures.into_unchanged call.ensures.called (search rules)
    (sym c.if-n-eq0.true ∙ is)

pub loop-at-preserved : goal.loop-at-preserved
unfolding failed_of
loop-at-preserved c =
    let l = c.loop-at in
    let call = c.read_at-got in
    let n = c.count-n in
    let is : n.result ≡ count_of call.result (length (drop l.at call.new.into)) = rw (rest_whole call.new.into l.at) at n.ensures.value in
    let fits : n.result ≤ length (drop l.at call.new.into) = rw (rest_whole call.new.into l.at) at n.ensures.upper_bound in
    let long = call.auto.into ∙ l.invariant.2 in (
      goes_on_lem _ _ l.at l.into call.new.into call.result l.invariant.0 call.ensures.into_unchanged call.ensures.called (search rules) n.result is fits
          (omega arith),
      omega (arith, length-drop l.at call.new.into),
      long,
    )

pub returns-clause-brought : goal.returns-clause-brought
returns-clause-brought c = all_full _ _ c.loop-at.at c.loop-at.into c.loop-at.invariant.0 (omega arith)
