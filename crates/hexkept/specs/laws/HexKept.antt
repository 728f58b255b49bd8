-- WHAT IS WRITTEN IS READ, the whole sheet (02, [10]): write a sheet as hex text, lend the reader a sheet of the same length, and the bytes are the same, with no halt.
-- Holds for the sheet of any rows that were entered, and so for any that the library made blank and edited. Assumes nothing.
use Rattle.std.specs.Prelude.{◌≡◌, ℕ, ◌≤◌, List, length}
use Rattle.std.proofs.Common.{sym, ap, ◌∙◌, arith}
use Rattle.std.proofs.lemmas.List.{length-replicate}
use Rattle.ledger.specs.Sheet.{Row, most_rows, size_for, blank_row, encode}
use Rattle.ledger.specs.Calls.{blank_refusal, blank_of}
use Rattle.ledger.specs.laws.Refusals.{makeable}
use Rattle.demands.specs.Edits.{Edit, run, fresh, blanks}
use Rattle.demands.proofs.Demand3.{demand_3}
use Rattle.demands.proofs.Runs.{fresh-length}
use Rattle.hexpage.specs.HexPage.{text_of}
use Rattle.hextext.specs.HexText.{fine, came, text_into}
use Rattle.hexkept.specs.Entered.{AllEntered, AllFit}
use Rattle.hexkept.specs.laws.Lines.{text_is}
use Rattle.hexkept.specs.laws.Reading.{rows_entered, text_into_lem}
use Rattle.hexkept.specs.laws.Edited.{blanks_entered, fresh_entered}

-- of any rows that were entered, into whatever bytes are lent, of the sheet's length
pub rows_kept : (ws : List Row) → AllEntered ws → length ws ≤ most_rows → (lent : List ℕ) → length lent ≡ size_for (length ws)
    → text_into (text_of (encode ws)) lent ≡ came (encode ws) fine
rows_kept ws E few lent size = ap (λ (t : List ℕ). text_into t lent) (text_is ws (rows_entered ws E) few) ∙ text_into_lem ws E few lent size

-- of a sheet that the library made blank, in whatever bytes it was lent, after edits that fit, refused ones too
pub edits_kept : (s : List ℕ) (r : ℕ) → blank_refusal s r ≡ 0 → (es : List Edit) → AllFit es → (lent : List ℕ) → length lent ≡ size_for r
    → text_into (text_of (run (blank_of s r) es)) lent ≡ came (run (blank_of s r) es) fine
edits_kept s r h es F lent size =
    let ws : List Row = fresh (blanks r) es in
    let many : length ws ≡ r = fresh-length (blanks r) es ∙ length-replicate r blank_row in
    let few = (makeable s r h).0 in
    rw ((demand_3 s r h).sheet es)
    (rows_kept ws (fresh_entered (length (blanks r)) 0 (blanks r) (blanks_entered r) es F) (omega arith) lent (size ∙ ap (λ (n : ℕ). size_for n) (sym many)))
