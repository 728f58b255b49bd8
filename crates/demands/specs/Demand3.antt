-- DEMAND 3. For a sheet that the library made blank, or the sheet of any rows that were worked out, and any list of edits, accepted or refused: the sheet is that
-- of the rows worked out afresh from the last accepted edit of each row. `run`, `after` and `answer` are the definitions that the contracts of `make_blank` and
-- `edit` cite, so this speaks of what the code does. It is one argument for every function number and all times. It speaks of rows
-- that this library worked out: a row from before 02's [7] keeps its old answer until it is edited. Assumes nothing.
use Rattle.std.specs.Prelude.{◌≡◌, ◌≢◌, true, false, cond, List, ℕ, ◌-◌, ◌%◌, ◌^◌, ◌<◌, T, leb, length, get_or, Float}
use Rattle.std.specs.Float.Ieee.{round, fits}
use Rattle.std.specs.Float.{binary64}
use Rattle.std.specs.Float.Ieee.Exact.{HasValue}
use Rattle.std.specs.Float.Ieee.Scale.{finite}
use Rattle.total.specs.Total.{N, Half, negative, size_of, add_of, take_of}
use Rattle.ledger.specs.Sheet.{Row, encode}
use Rattle.ledger.specs.Calls.{total_in, total_of}
use Rattle.sheet.specs.declared.Entry.{Entry}
use Rattle.sheet.specs.Edit.{row_of}
use Rattle.demands.specs.laws.Stored.{Says}
use Rattle.demands.specs.Edits.{Edit, answer, after, run, answer_in, fresh, above, below, Elsewhere}
use Rattle.demands.specs.laws.Untouched.{same_length, untouched}

-- s: the sheet's bytes; ws: the rows that it starts with
pub record Demand3 (s : List ℕ) (ws : List Row) : Type 0 where
  -- answers, refusals, counts and total are those of the rows worked out afresh
  pub sheet : (es : List Edit) → run s es ≡ encode (fresh ws es)
  -- a row that was worked out says its function, its times, and that function's refusal number and first answer
  pub says_its_answer : (e : Entry) → (e.function ≡ 0 → ⊥) → Says e (row_of e)
  -- an edit is refused by its row, then by its function, and for nothing else
  pub refusals : (es : List Edit) (e : Edit) → answer (run s es) e ≡ answer_in (length ws) e
  -- and then changes nothing
  pub refused : (es : List Edit) (e : Edit) → (answer_in (length ws) e ≡ 0 → ⊥) → after (run s es) e ≡ run s es
  -- edits to different rows, in either order
  pub either : (es : List Edit) (e f : Edit) → e.row ≢ f.row → after (after (run s es) e) f ≡ after (after (run s es) f) e
  -- the total is the whole-number sum of times by finite first answers, in units of 2^-1074: what is above zero less what is below, in two's complement
  pub total : (es : List Edit) → let vs = fresh ws es in total_in (run s es) ≡ cond (leb (below vs) (above vs)) (above vs - below vs) (N - (below vs - above vs))
  -- each part is exact: a finite f64 is a whole number of these units, with no digit cut off
  pub exact : (x : Float) → T (fits binary64 x) → T (finite x) → HasValue x (negative x) (size_of x) (2 ^ 1074)
  -- taking a value away, so many times, undoes adding it
  pub taken_back : (t k : ℕ) (x : Float) → k < 2 ^ 16 → T (fits binary64 x) → take_of (add_of t k x) k x ≡ t % N
  -- it never wraps: neither part reaches half of 2^2176
  pub above-room : (es : List Edit) → above (fresh ws es) < Half
  pub below-room : (es : List Edit) → below (fresh ws es) < Half
  -- so what is read is that sum rounded once, with its own sign
  pub rounded : (es : List Edit) → let vs = fresh ws es in
      total_of (run s es) ≡ cond (leb (below vs) (above vs)) (round binary64 false (above vs - below vs) (2 ^ 1074)) (round binary64 true (below vs - above vs) (2 ^ 1074))

-- An edit touches its row and the totals alone: in any bytes, sheet or not, every other byte is as it was, and so is the length.
pub elsewhere : (s : List ℕ) (e : Edit) → (length (after s e) ≡ length s) × ((k : ℕ) → Elsewhere s e k → get_or (after s e) k 0 ≡ get_or s k 0)
elsewhere s e = (same_length s e, untouched s e)
