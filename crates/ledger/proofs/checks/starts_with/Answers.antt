-- Word by word.
use Rattle.std.proofs.Common.{◌≡◌, ◌*◌, ◌↔◌, sym, ◌∙◌, refl, arith, rules, IsTrue, EachIndex, ℕ, length, take, drop, slice_index}
use Rattle.std.specs.Int.{w32, from_le_bytes}
use Rattle.ledger.proofs.Words.{part_4}
use Rattle.ledger.proofs.Counts.{equal_each}
use Rattle.ledger.proofs.checks.starts_with.Goals as goal
use Rattle.ledger.proofs.checks.starts_with.Goals.{After-all}

each : (c : After-all) → IsTrue c.all.result ↔ EachIndex c.args.words (λ k. from_le_bytes w32 (take 4 (drop (4 * k) c.args.s.now)) ≡ slice_index c.args.words k)
each c = search rules

pub returns : goal.returns
returns c =
    let s = c.args.s.now in
    let n : length c.args.words ≡ 8 = search rules in
    let word = λ (k : ℕ). part_4 s (4 * k) _ _ in
    equal_each c.all.result 8 s c.args.words n
    (λ h k g. sym (word k (omega (arith, c.requires, g)) refl refl) ∙ (each c).0 h k (omega (arith, n, g)), λ f. (each c).1 (λ k g. word k (omega (arith, c.requires, n, g)) refl refl ∙ f k (omega (arith, n, g))))
