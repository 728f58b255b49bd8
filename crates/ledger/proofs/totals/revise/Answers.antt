-- Both shares are those of their rows; counts and limbs are written over the old ones.
use Rattle.std.proofs.Common.{◌≡◌, ◌-◌, ◌<◌, ◌++◌, ◌∷◌, [], ap, ◌∙◌, arith, length, rules}
use Rattle.total.specs.Total.{limbs_of, add_of, take_of}
use Rattle.laws.specs.Splice.{splice}
use Rattle.ledger.specs.Bytes.{fields}
use Rattle.ledger.specs.Sheet.{times_in, class_of, retotal}
use Rattle.ledger.specs.Calls.{counts_in, total_in, recount, revised}
use Rattle.ledger.specs.laws.Refusals.{length-counts, length-recount, length-totals}
use Rattle.ledger.specs.laws.Weights.{retotal_is}
use Rattle.ledger.proofs.Shares.{shared, has_class, its_number}
use Rattle.ledger.proofs.Words.{put_mid_lem}
use Rattle.ledger.proofs.Places.{totals_are}
use Rattle.ledger.proofs.totals.revise.Goals as goal

pub unwrap-requires : goal.unwrap-requires
unwrap-requires c = has_class _ c.requires.1 _ (shared c.args.old.now c.told-old _ c.share_of-out.ensures).0

pub unwrap-requires-2 : goal.unwrap-requires-2
unwrap-requires-2 c = has_class _ c.requires.2 _ (shared c.args.new.now c.told-new _ c.share_of-put.ensures).0

pub recounted-counts-requires : goal.recounted-counts-requires
recounted-counts-requires c =
    let o = its_number _ c.requires.1 _ (shared c.args.old.now c.told-old _ c.share_of-out.ensures).0 _ c.unwrap.ensures in
    (rw (c.read_counts.ensures, o) c.requires.3, rw c.read_counts.ensures c.requires.4)

pub returns : goal.returns
unfolding revised
returns c =
    let s = c.args.sheet.now in
    let o = c.args.old.now in
    let n = c.args.new.now in
    let share-o = shared o c.told-old _ c.share_of-out.ensures in
    let share-n = shared n c.told-new _ c.share_of-put.ensures in
    let class-o = its_number _ c.requires.1 _ share-o.0 _ c.unwrap.ensures in
    let class-n = its_number _ c.requires.2 _ share-n.0 _ c.unwrap-2.ensures in
    let w = c.write_totals in
    let at = c.totals_place-from in
    let cs = c.recounted-counts.ensures ∙ (λ i. fields 4 (recount (c.read_counts.ensures i) (class-o i) (class-n i) ++ (0 ∷ []))) in
    let few : times_in o < 65536 = rw (← share-o.2) (search rules) in
    let t = c.moved-limbs.ensures ∙ ap limbs_of ((λ i. add_of (take_of (total_in s) (share-o.2 i) (share-o.1 i)) (share-n.2 i) (share-n.1 i)) ∙ retotal_is (total_in s) o n few) in
    let d = w.ensures ∙ totals_are (counts_in s) c.recounted-counts.result (class_of o) (class_of n) (retotal (total_in s) o n) c.moved-limbs.result cs t in
    let l = ap length d ∙ length-totals (recount (counts_in s) (class_of o) (class_of n)) (retotal (total_in s) o n) (length-recount (counts_in s) (class_of o) (class_of n) ∙ length-counts s) in
    let m : length s - at.result ≡ length w.new.s = omega (arith, at.ensures.1, l) in
    put_mid_lem s w.new.s at.result (length s - at.result) m ∙ (λ i. splice s (at.ensures.0 i) (d i))
