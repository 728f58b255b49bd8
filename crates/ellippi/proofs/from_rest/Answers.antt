-- The body is the definition, each call replaced by what it ensures; the sum of the rounds is at most 64 + 64 + 4096.
use native.Mathlib.Omega.{arith}
use Rattle.carlson.specs.laws.Counts.{few}
use Rattle.rf.specs.laws.Counts.{rf_counts}
use Rattle.rj.specs.laws.Counts.{rj_counts, few_inside}
use Rattle.ellippi.specs.Ellippi.{from_rest_of}
use Rattle.ellippi.proofs.from_rest.Goals as goal

pub overflow_add-result : goal.overflow_add-result
overflow_add-result c =
    let both = c.with_rf.ensures in
    let f = few both.0 (rf_counts _ _ _) in
    let j = few both.1 (rj_counts _ _ _ _) in
    omega arith

pub overflow_add-result-2 : goal.overflow_add-result-2
overflow_add-result-2 c =
    let both = c.with_rf.ensures in
    let f = few both.0 (rf_counts _ _ _) in
    let j = few both.1 (rj_counts _ _ _ _) in
    let i = few_inside _ _ _ _ _ both.1 in
    omega arith

pub returns : goal.returns
unfolding from_rest_of
returns c =
    let both = c.with_rf.ensures in
    rw (both.0, both.1)
