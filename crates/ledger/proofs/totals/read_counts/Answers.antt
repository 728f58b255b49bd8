-- Count by count.
use Rattle.std.proofs.Common.{◌≡◌, ◌+◌, ◌*◌, ◌<◌, ◌∙◌, ℕ, List, refl, sym, ap, arith, length, take, drop, slice_index, rules}
use Rattle.std.specs.Int.{w32, from_le_bytes}
use Rattle.ledger.specs.Bytes.{number, read}
use Rattle.ledger.specs.Calls.{counts_in}
use lib.Seq.{drop-drop}
use Rattle.ledger.proofs.Words.{part_4}
use Rattle.ledger.proofs.Counts.{read_each}
use Rattle.ledger.proofs.totals.read_counts.Goals as goal
use Rattle.ledger.proofs.totals.read_counts.Goals.{After-from_fn}

each : (c : After-from_fn) (k : ℕ) → k < 5 → slice_index c.from_fn.result k ≡ from_le_bytes w32 (take 4 (drop (c.totals_place-at.result + 4 * k) c.args.s.now))
each c k h = search rules

pub returns : goal.returns
unfolding counts_in
returns c =
    let s = c.args.s.now in
    let at = c.totals_place-at in
    let n : length c.from_fn.result ≡ 5 = search rules in
    let there = λ (k : ℕ) (h : k < 5). part_4 s (at.result + 4 * k) _ _ (omega (arith, at.ensures.1, h)) refl refl in
    read_each 5 (drop at.result s) c.from_fn.result n
    (λ k h. each c k h ∙ there k h ∙ ap (λ (t : List ℕ). number (take 4 t)) (sym (drop-drop (4 * k) at.result s)))
    ∙ ap (λ (n : ℕ). read 4 5 (drop n s)) at.ensures.0
