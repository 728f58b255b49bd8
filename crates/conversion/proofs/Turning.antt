-- Rows turned one after the other in their sheet: what is done and what is left. Assumes nothing.
use mathlib.Core.Path.{◌≡◌, ap, ◌∙◌, sym}
use mathlib.Core.Bool.{Bool, true, false, cond}
use mathlib.Core.List.{List, [], ◌∷◌, ◌++◌, append_assoc}
use Prim.Native.Nat.{ℕ, suc, ◌+◌, ◌-◌, ◌/◌, ◌%◌, ◌≤◌, ◌<◌}
use native.Mathlib.Omega.{arith}
use borrow.Author.Tests.{ne_eqb}
use lib.Dec.{eqb}
use lib.ListN.{length, take, drop, set, take-append-drop}
use lib.Seq.{sets-eq, take_at, drop_at, drop-drop, length-take-le}
use borrow.Rule.Slice.PartMut.{put_mid}
use Rattle.laws.specs.Splice.{splice}
use Rattle.ledger.specs.Bytes.{bytes}
use Rattle.ledger.specs.Sheet.{Row, most_rows, row_place, function_in}
use Rattle.ledger.specs.Calls.{Sized, rows_in, row_in}
use Rattle.laws.specs.laws.Splices.{take_past, drop_past, length-splice}
use Rattle.ledger.specs.laws.Fields.{length-bytes}
use Rattle.ledger.proofs.Words.{put_back}
use Rattle.ledger.specs.laws.Refusals.{row_48, sheet_of_few, sheet_of_length}
use Rattle.conversion.specs.Conversion.{says_before, says_after, once, driven, turned, turned_rows, turned_sheet, stop_of, converted_of}
use Rattle.conversion.specs.laws.Rows.{length-turned}
use Rattle.conversion.specs.laws.Accepted.{accepted}

-- ---- a row
pub two-set : (w : Row) (k : ℕ) → length w ≡ 48 → k < 256 → set (set w 2 k) 3 0 ≡ driven k w
unfolding driven bytes
two-set w k h g =
    let a : k % 256 ≡ k = omega arith in
    let b : k / 256 % 256 ≡ 0 = omega arith in
    rw (a, b) (sets-eq (k ∷ 0 ∷ []) w 2 (omega arith) ∙ append_assoc (take 2 w) (k ∷ 0 ∷ []) (drop 4 w))

pub turned_is : (forth : Bool) (w : Row) (k : ℕ) → length w ≡ 48 → k ≡ cond forth (cond (eqb (function_in w) 0) 0 1) 0 → set (set w 2 k) 3 0 ≡ turned forth w
unfolding turned once
turned_is forth w k h e = rw e (two-set w (cond forth (cond (eqb (function_in w) 0) 0 1) 0) h (small forth (eqb (function_in w) 0)))
  where
    small : (p q : Bool) → cond p (cond q 0 1) 0 < 256
    small true true = omega arith
    small true false = omega arith
    small false q = omega arith

-- ---- the rows

-- rows before i as they are, those from i to n turned, and what follows them
abbrev pub Left : Bool → ℕ → ℕ → List ℕ → List ℕ
Left forth n i s = take (row_place i) s ++ turned_rows forth (n - i) (drop (row_place i) s)

-- the row's part was lent, and is back
pub part_turned : (forth : Bool) (s : List ℕ) (i at : ℕ) (y : List ℕ) → row_place i + 48 ≤ length s → at ≡ row_place i → y ≡ turned forth (take (at + 48 - at) (drop at s))
    → put_mid at (at + 48 - at) s y ≡ splice s (row_place i) (turned forth (row_in s i))
unfolding row_in
part_turned forth s i at y h e d =
    let m : at + 48 - at ≡ 48 = omega arith in
    let p : y ≡ turned forth (row_in s i) = d ∙ (λ j. turned forth (take (m j) (drop (e j) s))) in
    let l : length y ≡ 48 = ap length p ∙ length-turned forth (row_in s i) (row_48 s i h) in
    put_back s y at 48 l ∙ (λ j. splice s (e j) (p j))

module _ (forth : Bool) (n i : ℕ) (s : List ℕ) (g : i < n) (room : row_place n ≤ length s) where
  w : Row
  w = turned forth (row_in s i)

  w_48 : length w ≡ 48
  unfolding w
  w_48 = length-turned forth (row_in s i) (row_48 s i (omega arith))

  first : length (take (row_place i) s) ≡ row_place i
  first = length-take-le (row_place i) s (omega arith)

  next : row_place (i + 1) ≡ row_place i + 48
  next = omega arith

  pub turned-length : length (splice s (row_place i) (turned forth (row_in s i))) ≡ length s
  unfolding w
  turned-length = length-splice s (row_place i) w (omega (arith, w_48))

  taken : take (row_place (i + 1)) (splice s (row_place i) w) ≡ take (row_place i) s ++ w
  taken =
      let R = drop (row_place i + length w) s in
      rw (next, take_past (take (row_place i) s) (w ++ R) (row_place i) 48 first, take_at w R 48 w_48)

  dropped : drop (row_place (i + 1)) (splice s (row_place i) w) ≡ drop (row_place i + 48) s
  dropped =
      let R = drop (row_place i + length w) s in
      rw (next, drop_past (take (row_place i) s) (w ++ R) (row_place i) 48 first, drop_at w R 48 w_48, w_48)

  pub turned_next : Left forth n (i + 1) (splice s (row_place i) (turned forth (row_in s i))) ≡ Left forth n i s
  unfolding turned_rows w row_in
  turned_next =
      let m : n - i ≡ suc (n - (i + 1)) = omega arith in
      rw (m, taken, dropped, drop-drop 48 (row_place i) s) (append_assoc (take (row_place i) s) (turned forth (take 48 (drop (row_place i) s))) (turned_rows forth (n - (i + 1)) (drop (row_place i + 48) s)))

pub turned-last : (forth : Bool) (n i : ℕ) (s : List ℕ) → n ≤ i → s ≡ Left forth n i s
unfolding turned_rows
turned-last forth n i s g = let m : n - i ≡ 0 = omega arith in rw m (sym (take-append-drop (row_place i) s))

-- ---- the sheet: its first word written, and then its rows turned
pub sheet_turned : (forth : Bool) (s t : List ℕ) (k r : ℕ) → k ≡ says_after forth → r ≡ rows_in s → t ≡ splice s 0 (bytes 4 k) → take 32 t ++ turned_rows forth r (drop 32 t) ≡ turned_sheet forth s
unfolding turned_sheet
sheet_turned forth s t k r e q h =
    let x = bytes 4 (says_after forth) in
    let l : length x ≡ 4 = length-bytes 4 (says_after forth) in
    let a : t ≡ x ++ drop 4 s = h ∙ ap (λ (n : ℕ). bytes 4 n ++ drop (0 + length (bytes 4 n)) s) e ∙ ap (λ (n : ℕ). x ++ drop n s) (let z : 0 + length x ≡ 4 = omega arith in z) in
    rw (a, q, take_past x (drop 4 s) 4 28 l, drop_past x (drop 4 s) 4 28 l, drop-drop 28 4 s) (append_assoc x (take 28 (drop 4 s)) (turned_rows forth (rows_in s) (drop 32 s)))

pub word_length : (s t : List ℕ) (k : ℕ) → t ≡ splice s 0 (bytes 4 k) → 4 ≤ length s → length t ≡ length s
word_length s t k h g = ap length h ∙ length-splice s 0 (bytes 4 k) (omega (arith, length-bytes 4 k))

-- ---- the call
module _ (forth : Bool) (s : List ℕ) (z : (stop_of forth s).refusal ≡ 0) where
  pub may_turn : (rows_in s ≤ most_rows) × Sized s
  may_turn = let a = accepted forth s z in (sheet_of_few (says_before forth) s a.sheet, sheet_of_length (says_before forth) s a.sheet)

pub unconverted : (forth : Bool) (s : List ℕ) → ((stop_of forth s).refusal ≡ 0 → ⊥) → s ≡ converted_of forth s
unfolding converted_of
unconverted forth s h = rw (ne_eqb _ _ h)
