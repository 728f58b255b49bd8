-- `natural` meets its contract: the factors and their parts give the two sums, and these the difference (`Factoring`).
use mathlib.Core.Path.{◌≡◌, sym, ◌∙◌}
use mathlib.Core.Bool.{Bool, true, false}
use Prim.Native.Nat.{ℕ, ◌+◌, ◌*◌, ◌^◌, ◌≤◌, ◌<◌}
use native.Mathlib.Nat.{le_of_lt, mul-pos}
use lib.Dec.{ltb, ltb→lt, nltb→le}
use lib.Ieee.{Float}
use lib.Pow.{pow_pos}
use borrow.Author.Rules.{rules}
use Rattle.laws.specs.laws.Flags.{holds, fails}
use Rattle.bits.specs.Rounded.{rounded_of}
use Rattle.bits.specs.laws.Wide.{minus_whole}
use Rattle.bounds.specs.Close.{distance_of}
use Rattle.logarithm.specs.Logarithm.{logarithm_at}
use Rattle.logarithm.proofs.Factoring.{sum_unit, part_needs, is_log, distance_up, distance_down}
use Rattle.logarithm.proofs.natural.Goals as goal
use Rattle.logarithm.proofs.natural.Goals.{After-factored-f, After-sum-b}

-- the number of units, which is not 0
abbrev N : After-factored-f → ℕ
N c = c.args.p.digits * 2 ^ c.args.p.exponent

positive : (c : After-factored-f) → 0 < N c
positive c = mul-pos c.requires (pow_pos c.args.p.exponent)

needed : (c : After-factored-f) → ((2 * c.factored-f.result.n ≤ 3 * 2 ^ 53) × (c.factored-f.result.n + 2 ^ 53 < 2 ^ 56)) × ((2 * 2 ^ 53 ≤ 3 * c.factored-f.result.n) × (2 ^ 53 + c.factored-f.result.n < 2 ^ 56))
needed c = let r = c.factored-f.result in part_needs (N c) r.n r.above r.below (positive c) c.factored-f.ensures

pub part-requires : goal.part-requires
part-requires c = (needed (goal.at.part-requires c).After-factored-f).0

pub part-requires-2 : goal.part-requires-2
part-requires-2 c = (needed (goal.at.part-requires-2 c).After-factored-f).1

-- the two sums have 128 digits
fit : (c : After-sum-b) → (c.sum-a.result < 2 ^ 128) × (c.sum-b.result < 2 ^ 128)
fit c = search rules

-- the rounded difference
result : (c : After-sum-b) (t : Bool) (v : ℕ) (r : Float) → t ≡ ltb c.sum-a.result c.sum-b.result → v ≡ distance_of c.sum-a.result c.sum-b.result → r ≡ rounded_of t v false sum_unit → r ≡ logarithm_at (c.args.p.digits * 2 ^ c.args.p.exponent)
result c t v r =
    let f = c.factored-f in
    let k = f.result in
    is_log (c.args.p.digits * 2 ^ c.args.p.exponent) k.n k.above k.below (mul-pos c.requires (pow_pos c.args.p.exponent)) f.ensures c.part.result c.part-2.result c.sum-a.result c.sum-b.result c.part.ensures c.part-2.ensures c.sum-a.ensures c.sum-b.ensures t v r

pub returns-then-less : goal.returns-then-less
returns-then-less c =
    let s = (goal.at.returns-then-less c).After-sum-b in
    let a = c.sum-a.result in
    let b = c.sum-b.result in
    let v = c.minus.result in
    let t : true ≡ ltb a b = sym c.if-less.true ∙ c.less.ensures in
    let l = ltb→lt a b (holds (sym t)) in
    result s true v c.rounded.result t (distance_up a b v l (minus_whole b a v (le_of_lt l) (fit s).1 c.minus.ensures)) c.rounded.ensures

pub returns-else-less : goal.returns-else-less
returns-else-less c =
    let s = (goal.at.returns-else-less c).After-sum-b in
    let a = c.sum-a.result in
    let b = c.sum-b.result in
    let v = c.minus-else-less.result in
    let t : false ≡ ltb a b = sym c.if-less.false ∙ c.less.ensures in
    let l = nltb→le a b (fails (sym t)) in
    result s false v c.rounded-else-less.result t (distance_down a b v l (minus_whole a b v l (fit s).0 c.minus-else-less.ensures)) c.rounded-else-less.ensures
