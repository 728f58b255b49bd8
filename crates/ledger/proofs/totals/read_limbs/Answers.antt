-- Limb by limb.
use Rattle.std.proofs.Common.{◌+◌, ◌*◌, ◌≤◌, refl, sym, ap, ◌∙◌, arith, length}
use lib.Seq.{take_all}
use Rattle.total.specs.Total.{val}
use Rattle.total.specs.Carry.{W}
use Rattle.total.specs.laws.Limbs.{val-set_next}
use Rattle.ledger.specs.Bytes.{number}
use Rattle.ledger.proofs.Words.{part_8}
use Rattle.ledger.proofs.Counts.{limb_next}
use Rattle.ledger.proofs.totals.read_limbs.Goals as goal

pub loop-i-init : goal.loop-i-init
unfolding val number
loop-i-init c = refl

pub loop-i-preserved : goal.loop-i-preserved
loop-i-preserved c =
    let l = c.loop-i in
    let s = c.args.s.now in
    let h : 8 * l.i + 8 ≤ length s = omega (arith, c.requires) in
    rw (val-set_next l.limb-items l.i c.from_le_bytes.result (omega arith), limb_next s l.i h)
    (λ i. l.invariant i + W l.i * part_8 s (8 * l.i) _ _ h c.part.ensures c.from_le_bytes.ensures i)

pub returns : goal.returns
returns c =
    let l = c.loop-i in
    let k = c.loop-i-test in
    sym (ap val (take_all l.i l.limb-items (omega (arith, k.array_long, k.false))))
    ∙ l.invariant
    ∙ ap number (take_all (8 * l.i) c.args.s.now (omega (arith, c.requires, k.false)))
