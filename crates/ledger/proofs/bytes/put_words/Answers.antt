-- One number more at each turn; `Written` says what lies where.
use Rattle.std.proofs.Common.{◌*◌, length, refl, ap, ◌∙◌}
use Rattle.laws.specs.Splice.{splice}
use Rattle.ledger.specs.Bytes.{fields}
use Rattle.ledger.specs.laws.Fields.{length-bytes}
use Rattle.ledger.proofs.Words.{write_8, write_next, write_done, put_back}
use Rattle.ledger.proofs.bytes.put_words.Goals as goal

pub loop-i-init : goal.loop-i-init
unfolding fields
loop-i-init c = refl

pub loop-i-preserved : goal.loop-i-preserved
loop-i-preserved c =
    let l = c.loop-i in
    let p = c.copy_from_slice in
    let e = p.ensures.after ∙ c.to_le_bytes.ensures ∙ write_8 _ in
    put_back l.s p.new.self (8 * l.i) 8 (ap length e ∙ length-bytes 8 _)
    ∙ ap (splice l.s (8 * l.i)) e
    ∙ write_next 8 c.args.s.now c.args.xs.now c.requires l.i l.s c.loop-i-test.true l.invariant

pub returns : goal.returns
returns c =
    let l = c.loop-i in
    write_done 8 c.args.s.now c.args.xs.now c.requires l.i l.s l.auto.i-end c.loop-i-test.false l.invariant
