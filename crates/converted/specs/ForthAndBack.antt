-- FROM OLD SHEETS AND BACK (02, [9]): what is shown of the two ways. `converted_of` and `stop_of` are what the contract of `conversion::convert` cites, so this speaks of what the
-- code does. `forth` is true from a sheet that says 1 to one that says 3, false back. Assumes nothing.
use Rattle.std.specs.Prelude.{◌≡◌, Bool, true, false, cond, not, List, map, ℕ, ◌≤◌, ◌<◌, length, get_or}
use Rattle.ledger.specs.Sheet.{Row, most_rows, function_in, times_in, encode}
use Rattle.ledger.specs.Calls.{rows_in, row_in}
use Rattle.sheet.specs.declared.Entry.{Entry}
use Rattle.demands.specs.Edits.{AllWorked}
use Rattle.demands.specs.Demand3.{Demand3}
use Rattle.demands.specs.laws.Rows.{Rows}
use Rattle.conversion.specs.Conversion.{once, driven, turned, oftener, stopped, stop_of, converted_of}
use Rattle.converted.specs.OldSheets.{encode_old, new_row, old_row, All, Known}

pub record ForthAndBack : Type 0 where
  -- of a row's times the last that were put in stand, and its own put in leave it as it is
  pub last-times : (j k : ℕ) (w : Row) → length w ≡ 48 → driven j (driven k w) ≡ driven j w
  pub own-times : (w : Row) → length w ≡ 48 → ((i : ℕ) → get_or w i 0 < 256) → driven (times_in w) w ≡ w
  -- so there and back is the row, either way: where it holds times 0 on the way forth, and 1, or 0 where it is blank, on the way back
  pub row : (forth : Bool) (w : Row) → length w ≡ 48 → times_in w ≡ cond forth 0 (once w) → turned (not forth) (turned forth w) ≡ w
  -- 17 names the first row that is not blank and was driven other than once
  pub first-row_named : (s : List ℕ) (i : ℕ) → stop_of false s ≡ stopped 17 i → (oftener s i ≡ true) × ((j : ℕ) → j < i → oftener s j ≡ false)
  -- what one way made, the other takes, for any bytes
  pub taken : (forth : Bool) (s : List ℕ) → (stop_of forth s).refusal ≡ 0 → stop_of (not forth) (converted_of forth s) ≡ stopped 0 0
  -- there and back gives the old sheet again, and back and there the new one: of any sheet, where such rows hold no times
  pub old_again : (s : List ℕ) → (stop_of true s).refusal ≡ 0 → ((i : ℕ) → i < rows_in s → times_in (row_in s i) ≡ 0) → converted_of false (converted_of true s) ≡ s
  pub new_again : (s : List ℕ) → (stop_of false s).refusal ≡ 0 → ((i : ℕ) → i < rows_in s → function_in (row_in s i) ≡ 0 → times_in (row_in s i) ≡ 0)
      → converted_of true (converted_of false s) ≡ s
  -- of every sheet that the library made, from entries or from edits
  pub library_old_again : (es : List Entry) → All Known es → length es ≤ most_rows
      → let s = encode_old (map old_row es) in converted_of false (converted_of true s) ≡ s
  pub library_new_again : (us : List Row) → AllWorked us → length us ≤ most_rows → (stop_of false (encode us)).refusal ≡ 0
      → converted_of true (converted_of false (encode us)) ≡ encode us
  -- counts and total that are carried over are right: the sheet of rows without times comes to the sheet of these rows with their times, and the other way round
  pub right_forth : (ws : List Row) → Rows ws → length ws ≤ most_rows → All (λ w. times_in w ≡ 0) ws → converted_of true (encode_old ws) ≡ encode (map (turned true) ws)
  pub right_back : (us : List Row) → Rows us → length us ≤ most_rows → All (λ w. times_in w ≡ once w) us → converted_of false (encode us) ≡ encode_old (map (turned false) us)
  -- so edits go on from an old sheet that was brought forth: demand 3 holds from its rows, each driven once
  pub edits_go_on : (es : List Entry) → All Known es → length es ≤ most_rows → Demand3 (converted_of true (encode_old (map old_row es))) (map new_row es)
