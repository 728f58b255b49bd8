-- SHUFFLED EDITS (02, [14]). Late fixes come over two radio paths: take a sheet that the library made blank, or the sheet of any rows that were worked out, any list
-- of edits, refused ones too, and any shuffle of it in which the edits of each row keep their own order. Both leave the same bytes, and each edit gets the same
-- acceptance or refusal number. One argument for all functions, times and clearing, by way of demand 3. Assumes nothing.
use Rattle.std.specs.Prelude.{◌≡◌, List, ℕ, ◌≤◌, length}
use Rattle.std.proofs.Common.{ap, ◌∙◌, sym}
use Rattle.ledger.specs.Sheet.{Row, most_rows, encode}
use Rattle.ledger.specs.Calls.{blank_refusal, blank_of}
use Rattle.demands.specs.Edits.{Edit, blanks, AllWorked}
use Rattle.demands.specs.Shuffles.{Shuffle, Shuffled}
use Rattle.demands.specs.Demand3.{Demand3}
use Rattle.demands.proofs.Demand3.{demand_3, demand_3_from}
use Rattle.demands.proofs.Shuffled.{fresh-same, told_in, told-own, reordered}

of_demand_3 : (s : List ℕ) (ws : List Row) → Demand3 s ws → (es fs : List Edit) → Shuffle es fs → Shuffled s es fs
of_demand_3 s ws d es fs h = record {
  bytes = d.sheet es ∙ ap encode (fresh-same (length ws) 0 ws es fs h) ∙ sym (d.sheet fs);
  numbers = λ i. told-own s (length ws) d.refusals i es ∙ ap (told_in (length ws)) (h i) ∙ sym (told-own s (length ws) d.refusals i fs);
  edits = reordered es fs h;
}

-- from the sheet that the library makes blank
pub shuffled : (s : List ℕ) (r : ℕ) → blank_refusal s r ≡ 0 → (es fs : List Edit) → Shuffle es fs → Shuffled (blank_of s r) es fs
shuffled s r h = of_demand_3 (blank_of s r) (blanks r) (demand_3 s r h)

-- from the sheet of any rows that were worked out
pub shuffled_from : (ws : List Row) → AllWorked ws → length ws ≤ most_rows → (es fs : List Edit) → Shuffle es fs → Shuffled (encode ws) es fs
shuffled_from ws h few = of_demand_3 (encode ws) ws (demand_3_from ws h few)
