-- Its four bytes.
use Rattle.std.proofs.Common.{sym, ap, ◌∙◌, length}
use Rattle.laws.specs.Splice.{splice}
use Rattle.ledger.specs.laws.Fields.{length-bytes}
use Rattle.ledger.proofs.Words.{write_4, put_mid_lem}
use Rattle.conversion.proofs.say.Goals as goal

pub returns : goal.returns
returns c =
    let w = c.copy_from_slice in
    let e = w.ensures.after ∙ c.to_le_bytes.ensures ∙ write_4 c.args.word in
    put_mid_lem c.args.sheet.now w.new.self 0 4 (sym (ap length e ∙ length-bytes 4 c.args.word)) ∙ ap (splice c.args.sheet.now 0) e
