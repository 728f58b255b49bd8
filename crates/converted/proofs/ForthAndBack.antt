-- Why the two ways are right: all that ForthAndBack says. Assumes nothing.
use Rattle.std.specs.Prelude.{◌≡◌, true, false, List, map, ℕ, ◌≤◌, ◌<◌, length}
use Rattle.std.proofs.Math.Path.{ap, sym}
use Rattle.std.proofs.Common.{◌∙◌}
use Rattle.std.proofs.lemmas.Simd.{map-map}
use Rattle.std.proofs.lemmas.List.{length-map}
use Rattle.ledger.specs.Sheet.{Row, most_rows, function_in, times_in, encode}
use Rattle.ledger.specs.Calls.{rows_in, row_in}
use Rattle.sheet.specs.declared.Entry.{Entry}
use Rattle.demands.specs.Edits.{AllWorked}
use Rattle.demands.specs.Demand3.{Demand3}
use Rattle.demands.proofs.Demand3.{demand_3_from}
use Rattle.demands.proofs.Runs.{rows_worked}
use Rattle.demands.specs.laws.Encoded.{rows_in_lem, row_in_lem}
use Rattle.conversion.specs.Conversion.{turned, stop_of, converted_of}
use Rattle.conversion.specs.laws.Rows.{driven_twice, driven-same, turned_back}
use Rattle.conversion.specs.laws.Accepted.{accepted, first_named}
use Rattle.converted.specs.laws.Sheets.{oftener_is, is_once, taken_back, there_and_back}
use Rattle.converted.specs.OldSheets.{encode_old, new_row, old_row, All, Known}
use Rattle.converted.proofs.Made.{made_forth, made_back, made_again, new_worked, new_once, blank_worked}
use Rattle.converted.specs.ForthAndBack.{ForthAndBack}

new_back : (s : List ℕ) → (stop_of false s).refusal ≡ 0 → ((i : ℕ) → i < rows_in s → function_in (row_in s i) ≡ 0 → times_in (row_in s i) ≡ 0) → converted_of true (converted_of false s) ≡ s
new_back s z f =
    let a = accepted false s z in
    there_and_back false s z (λ i g. is_once (row_in s i) (f i g) (sym (oftener_is s a.sheet i g) ∙ a.times (λ j. false) i g))

module _ (us : List Row) (h : AllWorked us) (few : length us ≤ most_rows) where
  worked_back : (stop_of false (encode us)).refusal ≡ 0 → converted_of true (converted_of false (encode us)) ≡ encode us
  worked_back z =
      let r = rows_worked us h in
      new_back (encode us) z (λ i g. let l : i < length us = rw (rows_in_lem us r few) at g in rw (row_in_lem us r few i l) (blank_worked us h i l))

module _ (es : List Entry) (h : All Known es) (few : length es ≤ most_rows) where
  us : List Row
  us = map new_row es

  worked : AllWorked us
  unfolding us
  worked = new_worked es h

  few_us : length us ≤ most_rows
  unfolding us
  few_us = rw (length-map es new_row) few

  old : encode_old (map old_row es) ≡ encode_old (map (turned false) us)
  unfolding us
  old = ap encode_old (sym (map-map (turned false) new_row es))

  forth_is : converted_of true (encode_old (map old_row es)) ≡ encode us
  unfolding us
  forth_is = ap (converted_of true) old ∙ made_again us (rows_worked us worked) few_us (new_once es)

  old_back : let s = encode_old (map old_row es) in converted_of false (converted_of true s) ≡ s
  unfolding us
  old_back = ap (converted_of false) forth_is ∙ made_back us (rows_worked us worked) few_us (new_once es) ∙ sym old

  goes_on_lem : Demand3 (converted_of true (encode_old (map old_row es))) (map new_row es)
  unfolding us
  goes_on_lem = rw forth_is (demand_3_from us worked few_us)

pub forth_and_back : ForthAndBack
forth_and_back = record {
  last-times = λ j k w h. driven_twice k w h j;
  own-times = driven-same;
  row = turned_back;
  first-row_named = first_named;
  taken = taken_back;
  old_again = there_and_back true;
  new_again = new_back;
  library_old_again = old_back;
  library_new_again = worked_back;
  right_forth = made_forth;
  right_back = made_back;
  edits_go_on = goes_on_lem;
}
