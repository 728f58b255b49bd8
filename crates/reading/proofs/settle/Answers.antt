-- Refused, not written, or written.
use mathlib.Core.Path.{◌≡◌, refl, sym, ap, ◌∙◌}
use Rattle.std.proofs.Common.{Ok, Err, arith}
use Rattle.ledger.specs.laws.Refusals.{numbered}
use Rattle.hextext.specs.HexText.{Halted, halt_of}
use Rattle.reading.specs.Taken.{end_of, halt_line, refused, unwritten, written}
use Rattle.reading.proofs.settle.Goals as goal
use Rattle.reading.proofs.settle.Goals.{In_default}

-- every line was taken
accepted : (c : In_default) → (end_of c.args.text.now).refusal ≡ 0
unfolding halt_of
accepted c =
    let r : c.take.result ≡ Ok tt = grind arith in
    ap (λ (x : Halted). x.refusal) (sym c.take.ensures.0 ∙ ap halt_of r)

pub returns-in-Err : goal.returns-in-Err
unfolding halt_of
returns-in-Err c =
    let h = c.in-Err.halt in
    let r : c.take.result ≡ Err h = grind arith in
    let e = ap halt_of (sym r) ∙ c.take.ensures.0 in
    record { text = _; settled = refused (λ z. numbered h.refusal (ap (λ (x : Halted). x.refusal) e ∙ z)) (ap halt_line e); wrote = rw c.begin-out.ensures at c.put_halt.ensures }

pub save_sheet-requires : goal.save_sheet-requires
save_sheet-requires c = record { text = c.args.text.now; taken = accepted (goal.at.save_sheet-requires c).In_default; is = c.take.ensures.1 }

pub returns-then-is_err : goal.returns-then-is_err
returns-then-is_err c =
    let k = c.save_sheet in
    record {
      text = _;
      settled = unwritten (accepted (goal.at.returns-then-is_err c).In_default) (rw (c.take.ensures.1, c.if-is_err.ensures.negation) at k.ensures) refl;
      wrote = rw c.begin-out.ensures at c.cannot_write.ensures;
    }

pub returns : goal.returns
returns c =
    let k = c.save_sheet in
    record {
      text = _;
      settled = written (accepted (goal.at.returns c).In_default) (rw (c.take.ensures.1, c.if-is_err.ensures.negation) at k.ensures) refl;
      wrote = rw (c.rows_in.ensures, c.take.ensures.1, c.begin-out.ensures) at c.put_number.ensures;
    }
