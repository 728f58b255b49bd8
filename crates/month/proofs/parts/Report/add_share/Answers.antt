-- Each field by the call that makes it.
use Rattle.std.proofs.Common.{◌≡◌, ℕ, List, true, false, Option, sym, ap, ◌∙◌, eq-eqb, ne_eqb, rules}
use Rattle.total.specs.declared.Total.{Total}
use Rattle.total.specs.Total.{val, limbs_of, add_of}
use Rattle.month.specs.declared.parts.Extreme.{Extreme}
use Rattle.month.specs.declared.parts.Report.{Report}
use Rattle.month.specs.declared.parts.Share.{Share}
use Rattle.month.specs.Month.{one_more, refusals_on, extreme_on, share_on, beyond}
use Rattle.month.proofs.parts.Report.add_share.Goals as goal
use Rattle.month.proofs.parts.Report.add_share.Goals.{then-share-eq-REFUSED, else-share-eq-REFUSED}

-- a report whose rows are counted
counted : Report → List ℕ → List ℕ → Report
counted r counts refusals = record { sheets = r.sheets; counts = counts; refusals = refusals; total = r.total; largest = r.largest; smallest = r.smallest }

module _ (r : Report) (h : Share) (counts : List ℕ) (c : counts ≡ one_more r.counts h.class) where
  refused : (refusals : List ℕ) → h.class ≡ 4 → refusals ≡ one_more r.refusals h.refusal → counted r counts refusals ≡ counted r (one_more r.counts h.class) (refusals_on r.refusals h)
  unfolding refusals_on
  refused refusals k e = rw (eq-eqb 4 h.class (sym k)) (λ i. counted r (c i) (e i))

  unrefused : (h.class ≡ 4 → ⊥) → counted r counts r.refusals ≡ counted r (one_more r.counts h.class) (refusals_on r.refusals h)
  unfolding refusals_on
  unrefused k = rw (ne_eqb 4 h.class (λ z. k (sym z))) (λ i. counted r (c i) r.refusals)

-- then the total and the extremes
whole : (r s : Report) (h : Share) (total : Total) (l m : Option Extreme) → s ≡ counted r (one_more r.counts h.class) (refusals_on r.refusals h)
    → total.limbs ≡ limbs_of (add_of (val s.total.limbs) h.times h.value) → l ≡ extreme_on true s.largest h → m ≡ extreme_on false s.smallest h
    → record { sheets = s.sheets; counts = s.counts; refusals = s.refusals; total = total; largest = l; smallest = m } ≡ share_on r h
unfolding counted share_on
whole r s h total l m e t a b = λ i. record {
  sheets = (e i).sheets;
  counts = (e i).counts;
  refusals = (e i).refusals;
  total = record { limbs = (t ∙ ap (λ (z : Report). limbs_of (add_of (val z.total.limbs) h.times h.value)) e) i };
  largest = (a ∙ ap (λ (z : Report). extreme_on true z.largest h) e) i;
  smallest = (b ∙ ap (λ (z : Report). extreme_on false z.smallest h) e) i;
}

pub returns : goal.returns
unfolding beyond counted
returns c =
    let r = c.args.self.now in
    let h = c.args.share in
    let e : c.if-share-eq-REFUSED.self ≡ counted r (one_more r.counts h.class) (refusals_on r.refusals h) = elim c.if-share-eq-REFUSED.branch [
      | then-share-eq-REFUSED w ↦ w.self-is ∙ refused r h _ c.count_up.ensures _ w.if-share-eq-REFUSED.true w.count_up-then-share-eq-REFUSED.ensures
      | else-share-eq-REFUSED w ↦ w.self-is ∙ unrefused r h _ c.count_up.ensures w.if-share-eq-REFUSED.false
    ] in
    whole r _ h _ _ _ e c.add-self.ensures.1 (c.extreme_on-self.ensures true (λ p q b h. search rules)) (c.extreme_on-self-2.ensures false (λ p q b h. search rules))
