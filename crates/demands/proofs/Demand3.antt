-- Why demand 3 holds, from any rows that were worked out and from the sheet that the library makes blank. Assumes nothing.
use Rattle.std.specs.Prelude.{◌≡◌, ◌≢◌, true, false, cond, List, ℕ, ◌-◌, ◌^◌, ◌≤◌, leb, length}
use Rattle.std.proofs.Math.Path.{ap}
use Rattle.std.proofs.Common.{◌∙◌, sym, eq-eqb, ne_eqb}
use Rattle.std.proofs.lemmas.List.{length-replicate}
use Rattle.std.specs.Float.Ieee.{round}
use Rattle.std.specs.Float.{binary64}
use Rattle.total.specs.Total.{N}
use Rattle.exact.specs.laws.Units.{whole}
use Rattle.demands.specs.laws.Undone.{undone}
use Rattle.ledger.specs.Sheet.{Row, most_rows, encode}
use Rattle.ledger.specs.Calls.{total_in, blank_refusal, blank_of, total_refusal, total_of}
use Rattle.ledger.specs.laws.Refusals.{makeable}
use Rattle.sheet.specs.Edit.{edit_of}
use Rattle.demands.specs.laws.Stored.{says}
use Rattle.demands.specs.Edits.{Edit, answer, after, run, answer_in, fresh, blanks, AllWorked, above, below}
use Rattle.demands.specs.laws.Encoded.{answers, given, total_is}
use Rattle.demands.specs.laws.Whole.{above_small, below_small, total_whole, rounded_whole}
use Rattle.demands.specs.laws.Rows.{Rows}
use Rattle.demands.proofs.Runs.{fresh_rows, fresh-length, run-fresh, either_order, rows_worked, blanks-worked}
use Rattle.demands.specs.Demand3.{Demand3}

module _ (s : List ℕ) (ws : List Row) (made : s ≡ encode ws) (rows : Rows ws) (few : length ws ≤ most_rows) where
  module _ (es : List Edit) where
    few_fresh : length (fresh ws es) ≤ most_rows
    few_fresh = rw (fresh-length ws es) few

    sheet_is : run s es ≡ encode (fresh ws es)
    sheet_is = ap (λ (t : List ℕ). run t es) made ∙ run-fresh ws rows few es

    answer_is : (e : Edit) → answer (run s es) e ≡ answer_in (length ws) e
    answer_is e =
        ap (λ (t : List ℕ). answer t e) sheet_is
        ∙ answers (fresh ws es) (fresh_rows ws rows es) few_fresh e
        ∙ ap (λ (n : ℕ). answer_in n e) (fresh-length ws es)

    refused_is : (e : Edit) → (answer_in (length ws) e ≡ 0 → ⊥) → after (run s es) e ≡ run s es
    unfolding edit_of
    refused_is e g = rw (ne_eqb (answer (run s es) e) 0 (λ z. g (sym (answer_is e) ∙ z)))

    either_is : (e f : Edit) → e.row ≢ f.row → after (after (run s es) e) f ≡ after (after (run s es) f) e
    either_is e f g = rw sheet_is (either_order (fresh ws es) (fresh_rows ws rows es) few_fresh e f g)

    total_is_whole : let vs = fresh ws es in total_in (run s es) ≡ cond (leb (below vs) (above vs)) (above vs - below vs) (N - (below vs - above vs))
    total_is_whole = ap total_in sheet_is ∙ total_is (fresh ws es) (fresh_rows ws rows es) few_fresh ∙ total_whole (fresh ws es) (fresh_rows ws rows es) few_fresh

    rounded_is : let vs = fresh ws es in
        total_of (run s es) ≡ cond (leb (below vs) (above vs)) (round binary64 false (above vs - below vs) (2 ^ 1074)) (round binary64 true (below vs - above vs) (2 ^ 1074))
    unfolding total_of
    rounded_is =
        let t = run s es in
        let z : total_refusal t ≡ 0 = ap total_refusal sheet_is ∙ given (fresh ws es) (fresh_rows ws rows es) few_fresh in
        rw (eq-eqb (total_refusal t) 0 z)
        (rounded_whole (total_in t) (below (fresh ws es)) (above (fresh ws es)) (below_small (fresh ws es) (fresh_rows ws rows es) few_fresh) (above_small (fresh ws es) (fresh_rows ws rows es) few_fresh) total_is_whole)

  demanded : Demand3 s ws
  demanded = record {
    sheet = sheet_is;
    says_its_answer = says;
    refusals = answer_is;
    refused = refused_is;
    either = either_is;
    total = total_is_whole;
    exact = whole;
    taken_back = undone;
    above-room = λ es. above_small (fresh ws es) (fresh_rows ws rows es) (few_fresh es);
    below-room = λ es. below_small (fresh ws es) (fresh_rows ws rows es) (few_fresh es);
    rounded = rounded_is;
  }

-- from the sheet of any rows that were worked out
pub demand_3_from : (ws : List Row) → AllWorked ws → length ws ≤ most_rows → Demand3 (encode ws) ws
demand_3_from ws h few = demanded (encode ws) ws (λ i. encode ws) (rows_worked ws h) few

-- from the sheet that the library makes blank, in whatever bytes it was lent
pub demand_3 : (s : List ℕ) (r : ℕ) → blank_refusal s r ≡ 0 → Demand3 (blank_of s r) (blanks r)
unfolding blank_of
demand_3 s r h =
    demanded (blank_of s r) (blanks r) (rw (eq-eqb (blank_refusal s r) 0 h)) (rows_worked (blanks r) (blanks-worked r)) (rw (length-replicate r _) (makeable s r h).0)
