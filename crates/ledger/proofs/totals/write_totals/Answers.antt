-- Two parts beside each other are the whole.
use mathlib.Core.Path.{◌≡◌, ap, ◌∙◌, sym}
use mathlib.Core.List.{List, ◌++◌}
use Prim.Native.Nat.{ℕ, ◌*◌}
use native.Mathlib.Omega.{arith}
use borrow.Rule.Slice.PartMut.{put_mid}
use lib.ListN.{length, length-append}
use Rattle.laws.specs.Splice.{splice}
use Rattle.laws.specs.laws.Splices.{splice-two, splice_all}
use Rattle.ledger.specs.laws.Fields.{length_fields}
use Rattle.ledger.proofs.Words.{put_mid_lem}
use Rattle.ledger.proofs.totals.write_totals.Goals as goal

pub returns : goal.returns
returns c =
    let s = c.args.s.now in
    let p = c.put_words in
    let q = c.put_words-2 in
    let lp : length p.new.s ≡ 24 = ap length p.ensures ∙ length_fields 8 c.args.counts ∙ ap (λ (n : ℕ). 8 * n) c.well_formed.1.0.1.0.1 in
    let lq : length q.new.s ≡ 272 = ap length q.ensures ∙ length_fields 8 c.args.limbs ∙ ap (λ (n : ℕ). 8 * n) c.well_formed.1.1.0.1.0.1 in
    let h = c.requires in
    put_mid_lem (put_mid 0 24 s p.new.s) q.new.s 24 272 (sym lq)
    ∙ ap (λ (l : List ℕ). splice l 24 q.new.s) (put_mid_lem s p.new.s 0 24 (sym lp))
    ∙ splice-two s 0 p.new.s q.new.s 24 lp (omega arith)
    ∙ splice_all s (p.new.s ++ q.new.s) (simp length-append (omega arith))
    ∙ (λ i. p.ensures i ++ q.ensures i)
