-- The last 272 bytes.
use mathlib.Core.Path.{◌≡◌, ◌∙◌}
use Prim.Native.Nat.{◌+◌, ◌-◌}
use native.Mathlib.Omega.{arith}
use lib.ListN.{length, take, drop}
use Rattle.ledger.specs.Bytes.{number}
use Rattle.ledger.specs.Calls.{total_in}
use Rattle.ledger.proofs.totals.read_total.Goals as goal

pub returns : goal.returns
unfolding total_in
returns c =
    let s = c.args.s.now in
    let at = c.totals_place-from in
    let m : length s - (at.result + 24) ≡ 272 = omega (arith, at.ensures.1) in
    c.read_limbs.ensures ∙ (λ i. number (take (m i) (drop (at.ensures.0 i + 24) s)))
