-- No count, a count that is refused, or the rows.
use mathlib.Core.Path.{◌≡◌, sym, ap, ap₂, ◌∙◌}
use Prim.Native.Nat.{ℕ}
use native.Mathlib.Omega.{arith}
use Rattle.answer.specs.Answer.{refusal_of}
use Rattle.ledger.specs.Calls.{blank_refusal}
use Rattle.ledger.specs.laws.Refusals.{makeable, numbered}
use Rattle.hextext.specs.HexText.{halt_at, halt_of, came, text_into}
use Rattle.hextext.proofs.Counting.{no_count, count_refused, count-taken, left_alone, cut_most}
use Rattle.hextext.proofs.read_text.Goals as goal

pub returns-in_default : goal.returns-in_default
unfolding text_into halt_of
returns-in_default c =
    let a = c.args in
    rw c.malformed.ensures (no_count a.text.now a.sheet.now _ (sym c.in_default.is ∙ c.rows.ensures))

pub overflow_cast-n : goal.overflow_cast-n
overflow_cast-n c = omega (arith, cut_most _ c.in-Some.n (sym c.in-Some.is ∙ c.rows.ensures))

pub returns-in-Err : goal.returns-in-Err
unfolding text_into halt_of refusal_of
returns-in-Err c =
    let a = c.args in
    let q = c.in-Err.ensures in
    let bad : blank_refusal a.sheet.now c.in-Some.n ≡ 0 → ⊥ = λ e. numbered c.in-Err.refusal (q.0 ∙ e) in
    ap₂ came (q.1 ∙ left_alone a.text.now a.sheet.now c.in-Some.n bad) (ap (λ (k : ℕ). halt_at k 0 0) q.0)
    ∙ count_refused a.text.now a.sheet.now _ c.in-Some.n (sym c.in-Some.is ∙ c.rows.ensures) bad

pub overflow_cast-n-in-Ok : goal.overflow_cast-n-in-Ok
overflow_cast-n-in-Ok c = omega (arith, cut_most _ c.in-Some.n (sym c.in-Some.is ∙ c.rows.ensures))

pub read_rows-requires : goal.read_rows-requires
unfolding refusal_of
read_rows-requires c = (makeable c.args.sheet.now _ (sym c.in-Ok.ensures.0)).0

pub returns-in-Ok : goal.returns-in-Ok
unfolding text_into refusal_of
returns-in-Ok c =
    let a = c.args in
    let q = c.in-Ok.ensures in
    rw (c.next.ensures, q.1) at c.read_rows.ensures
    ∙ count-taken a.text.now a.sheet.now _ c.in-Some.n (sym c.in-Some.is ∙ c.rows.ensures) (sym q.0)
