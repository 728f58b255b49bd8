-- A sheet turned: its rows are turned, all else is as it was, and the other way takes it. Then there and back, byte for byte. Assumes nothing.
use Rattle.std.specs.Prelude.{◌≡◌, Bool, cond, ◌&&◌, ◌||◌, ltb, drop, get_or, Float}
use Rattle.std.proofs.Math.Path.{refl, ap, sym}
use Rattle.std.proofs.Common.{◌∙◌, mul-suc, le_of_suc-le-suc, not-suc-le-zero}
use Rattle.std.proofs.Math.Bool.{true, false, not, not-not}
use Rattle.std.proofs.lemmas.Bool.{false≢true}
use mathlib.Core.List.{List, [], ◌∷◌, ◌++◌}
use Prim.Native.Nat.{ℕ, zero, suc, ◌+◌, ◌*◌, ◌/◌, ◌%◌, ◌^◌, ◌≤◌, ◌<◌}
use native.Mathlib.Omega.{arith}
use borrow.Author.Tests.{eq-eqb, eqb-true, le-leb, lt-leb}
use Rattle.std.proofs.Math.Dec.{eqb}
use Rattle.std.proofs.Math.ListN.{length, take, length-append, length-drop, take-append-drop}
use Rattle.std.proofs.Math.Seq.{take_at, drop_at, drop-drop, length-take-le}
use Rattle.std.proofs.lemmas.List.{take-append-le, drop-append-le}
use Rattle.std.specs.Float.{nan, inf, fin}
use Rattle.ledger.specs.Bytes.{bytes, number, read}
use Rattle.ledger.specs.Sheet.{Row, without_times, with_times, most_rows, row_place, size_for, entries, function_in, refusal_in, times_in, first_in, kind_of, sound, class_of}
use Rattle.ledger.specs.Calls.{Sized, rows_in, row_in, counts_in, equal, is_sheet_of, is_sheet, row_refusal, total_refusal, times_of, count_of}
use Rattle.inspection.specs.Rows.{sound_row, class_in}
use Rattle.laws.specs.laws.Splices.{drop_past}
use Rattle.ledger.specs.laws.Fields.{length-bytes, number-bytes}
use Rattle.demands.specs.laws.Numbers.{rows_of}
use Rattle.ledger.specs.laws.Refusals.{length-row, sheet_of_few, sheet_of_length, says}
use Rattle.conversion.specs.Conversion.{Stopped, says_before, says_after, once, turned, turned_rows, turned_sheet, rejected, uncounted, oftener, stopped, stop_of, converted_of}
use Rattle.conversion.specs.laws.Rows.{held, length-turned, class-turned, sound-turned, times-turned, turned_back}
use Rattle.conversion.specs.laws.Accepted.{Accepted, accepted, enough, converted_is}

-- ---- n rows, and what follows them
module _ (forth : Bool) where
  row_of : (n : ℕ) (d : List ℕ) → 48 * suc n ≤ length d → length (turned forth (take 48 d)) ≡ 48
  row_of n d h = length-turned forth (take 48 d) (length-take-le 48 d (omega arith))

  less : (n : ℕ) (d : List ℕ) → 48 * suc n ≤ length d → 48 * n ≤ length (drop 48 d)
  less n d h = rw (length-drop 48 d) (omega arith)

  pub length_rows : (n : ℕ) (d : List ℕ) → 48 * n ≤ length d → length (turned_rows forth n d) ≡ length d
  unfolding turned_rows
  length_rows zero d h = refl
  length_rows (suc n) d h = rw (length-append, row_of n d h, length_rows n (drop 48 d) (less n d h), length-drop 48 d) (omega arith)

  pub row_at : (n : ℕ) (d : List ℕ) → 48 * n ≤ length d → (i : ℕ) → i < n → take 48 (drop (48 * i) (turned_rows forth n d)) ≡ turned forth (take 48 (drop (48 * i) d))
  unfolding turned_rows
  row_at zero d h i g = absurd (not-suc-le-zero g)
  row_at (suc n) d h zero g = take_at (turned forth (take 48 d)) (turned_rows forth n (drop 48 d)) 48 (row_of n d h)
  row_at (suc n) d h (suc i) g =
      let e : 48 * suc i ≡ 48 + 48 * i = omega arith in
      rw (e, drop_past (turned forth (take 48 d)) (turned_rows forth n (drop 48 d)) 48 (48 * i) (row_of n d h), ← drop-drop (48 * i) 48 d)
      (row_at n (drop 48 d) (less n d h) i (le_of_suc-le-suc g))

  pub after_rows : (n : ℕ) (d : List ℕ) → 48 * n ≤ length d → drop (48 * n) (turned_rows forth n d) ≡ drop (48 * n) d
  unfolding turned_rows
  after_rows zero d h = refl
  after_rows (suc n) d h =
      let e : 48 * suc n ≡ 48 + 48 * n = omega arith in
      rw (e, drop_past (turned forth (take 48 d)) (turned_rows forth n (drop 48 d)) 48 (48 * n) (row_of n d h), ← drop-drop (48 * n) 48 d)
      (after_rows n (drop 48 d) (less n d h))

  pub rows_back : (n : ℕ) (d : List ℕ) → 48 * n ≤ length d → ((i : ℕ) → i < n → let w = take 48 (drop (48 * i) d) in times_in w ≡ held forth w)
      → turned_rows (not forth) n (turned_rows forth n d) ≡ d
  unfolding turned_rows
  rows_back zero d h f = refl
  rows_back (suc n) d h f =
      let W = turned forth (take 48 d) in
      let Y = turned_rows forth n (drop 48 d) in
      let next = rows_back n (drop 48 d) (less n d h) (λ i g. rw (drop-drop (48 * i) 48 d) (rw (let e : 48 * suc i ≡ 48 + 48 * i = omega arith in e) at (f (suc i) (omega arith)))) in
      rw (take_at W Y 48 (row_of n d h), drop_at W Y 48 (row_of n d h), turned_back forth (take 48 d) (length-take-le 48 d (omega arith)) (f zero (omega arith)), next)
      (take-append-drop 48 d)

-- ---- the numbers that stand in the same bytes
read_front : (w n : ℕ) (p q r : List ℕ) → length p ≡ w * n → read w n (p ++ q) ≡ read w n (p ++ r)
unfolding read
read_front w zero p q r h = refl
read_front w (suc n) p q r h =
    let l : w ≤ length p = omega (arith, mul-suc w n) in
    rw (
      take-append-le w p q l,
      take-append-le w p r l,
      drop-append-le w p q l,
      drop-append-le w p r l,
      read_front w n (drop w p) q r (rw (length-drop w p) (omega (arith, mul-suc w n))),
    )

read_first : (s : List ℕ) → read 4 8 s ≡ number (take 4 s) ∷ read 4 7 (drop 4 s)
unfolding read
read_first s = refl

-- ---- what a sheet says, and the rest of its contents
rest : ℕ → List ℕ
rest r = 32 ∷ 48 * r ∷ r ∷ 2 ∷ row_place r ∷ 296 ∷ 1 ∷ []

module _ (k : ℕ) (s : List ℕ) where
  contents_of : is_sheet_of k s ≡ true → equal (read 4 7 (drop 4 s)) (rest (rows_in s)) ≡ true
  unfolding is_sheet_of equal entries rest
  contents_of h =
      let e : is_sheet_of k s ≡ eqb (number (take 4 s)) k && equal (read 4 7 (drop 4 s)) (rest (rows_in s)) = rw (le-leb _ _ (sheet_of_few k s h), eq-eqb _ _ (sheet_of_length k s h), read_first s) in
      second (eqb (number (take 4 s)) k) (equal (read 4 7 (drop 4 s)) (rest (rows_in s))) (sym e ∙ h)
    where
      second : (a b : Bool) → (a && b) ≡ true → b ≡ true
      second true b h = h
      second false b h = absurd (false≢true h)

  sheet_by : rows_in s ≤ most_rows → Sized s → number (take 4 s) ≡ k → equal (read 4 7 (drop 4 s)) (rest (rows_in s)) ≡ true → is_sheet_of k s ≡ true
  unfolding is_sheet_of equal entries rest
  sheet_by f l e c = rw (le-leb _ _ f, eq-eqb _ _ l, read_first s, eq-eqb _ _ e) c

is_sheet_lem : (forth : Bool) (s : List ℕ) → is_sheet_of (says_before forth) s ≡ true → is_sheet s ≡ true
unfolding is_sheet
is_sheet_lem true s h = go (is_sheet_of with_times s)
  where
    go : (b : Bool) → (b || is_sheet_of without_times s) ≡ true
    go true = refl
    go false = h
is_sheet_lem false s h = rw h

-- ---- what the calls answer of a sheet's row and counts
module _ (s : List ℕ) (h : is_sheet s ≡ true) where
  pub count_is : (k : ℕ) → count_of s k ≡ get_or (counts_in s) k 0
  unfolding count_of total_refusal
  count_is k = rw h

  module _ (i : ℕ) (g : i < rows_in s) where
    readable : row_refusal s i ≡ 0
    unfolding row_refusal
    readable = rw (h, lt-leb _ _ g)

    pub sound_is : sound_row s i ≡ sound (row_in s i)
    unfolding sound_row
    sound_is = rw (eq-eqb _ _ readable)

    pub class_is : class_in s i ≡ class_of (row_in s i)
    unfolding class_in
    class_is = rw (eq-eqb _ _ readable)

    pub times_are : is_sheet_of with_times s ≡ true → times_of s i ≡ times_in (row_in s i)
    unfolding times_of
    times_are e = rw (eq-eqb _ _ readable, e)

-- a row is blank by its function, and so by its class
blank_class_lem : (w : Row) → eqb (class_of w) 0 ≡ eqb (function_in w) 0
unfolding class_of kind_of
blank_class_lem w = go (eqb (function_in w) 0) (ltb 0 (refusal_in w)) (first_in w)
  where
    go : (p q : Bool) (x : Float) → eqb (cond p 0 (cond q 4 (kind_of x))) 0 ≡ p
    go true q x = refl
    go false true x = refl
    go false false nan = refl
    go false false (inf true) = refl
    go false false (inf false) = refl
    go false false (fin s m e) = refl

-- 17 for a row of a sheet that says 3, by the row's own bytes
pub oftener_is : (s : List ℕ) → is_sheet_of with_times s ≡ true → (i : ℕ) → i < rows_in s → let w = row_in s i in oftener s i ≡ not (eqb (function_in w) 0) && not (eqb (times_in w) 1)
unfolding oftener
oftener_is s h i g = rw (class_is s (is_sheet_lem false s h) i g, times_are s (is_sheet_lem false s h) i g h, blank_class_lem (row_in s i))

pub once_is : (w : Row) → times_in w ≡ once w → not (eqb (function_in w) 0) && not (eqb (times_in w) 1) ≡ false
unfolding once
once_is w e = rw e (go (eqb (function_in w) 0))
  where
    go : (p : Bool) → not p && not (eqb (cond p 0 1) 1) ≡ false
    go true = refl
    go false = refl

pub is_once : (w : Row) → (function_in w ≡ 0 → times_in w ≡ 0) → not (eqb (function_in w) 0) && not (eqb (times_in w) 1) ≡ false → times_in w ≡ once w
unfolding once
is_once w z h = go (eqb (function_in w) 0) (eqb (times_in w) 1) refl refl h
  where
    go : (p q : Bool) → eqb (function_in w) 0 ≡ p → eqb (times_in w) 1 ≡ q → not p && not q ≡ false → times_in w ≡ cond p 0 1
    go true q a b c = z (eqb-true _ _ a)
    go false true a b c = eqb-true _ _ b
    go false false a b c = absurd (false≢true (sym c))

-- ---- a sheet turned
module _ (forth : Bool) (s : List ℕ) (h : is_sheet_of (says_before forth) s ≡ true) where
  t : List ℕ
  t = turned_sheet forth s

  X : List ℕ
  X = bytes 4 (says_after forth)

  M : List ℕ
  M = take 28 (drop 4 s)

  D : List ℕ
  D = drop 32 s

  Y : List ℕ
  Y = turned_rows forth (rows_in s) (drop 32 s)

  sized : Sized s
  sized = sheet_of_length (says_before forth) s h

  length_X : length X ≡ 4
  unfolding X
  length_X = length-bytes 4 (says_after forth)

  length_M : length M ≡ 28
  unfolding M
  length_M = length-take-le 28 (drop 4 s) (rw (length-drop 4 s) (omega (arith, sized)))

  room : 48 * rows_in s ≤ length D
  unfolding D
  room = rw (length-drop 32 s) (omega (arith, sized))

  parts : t ≡ X ++ (M ++ Y)
  unfolding t X M Y turned_sheet
  parts = refl

  first_4 : take 4 t ≡ X
  first_4 = rw parts (take_at X (M ++ Y) 4 length_X)

  after_4 : drop 4 t ≡ M ++ Y
  after_4 = rw parts (drop_at X (M ++ Y) 4 length_X)

  after_32 : drop 32 t ≡ Y
  after_32 = sym (drop-drop 28 4 t) ∙ ap (drop 28) after_4 ∙ drop_at M Y 28 length_M

  length-t : length t ≡ length s
  unfolding Y D
  length-t = ap length parts ∙ rw (length-append, length-append, length_X, length_M, length_rows forth (rows_in s) (drop 32 s) room, length-drop 32 s) (omega (arith, sized))

  rows_t : rows_in t ≡ rows_in s
  rows_t = rows_of t (rows_in s) (length-t ∙ sized)

  pub row-turned : (i : ℕ) → i < rows_in s → row_in (turned_sheet forth s) i ≡ turned forth (row_in s i)
  unfolding row_in t Y D
  row-turned i g =
      ap (take 48) (sym (drop-drop (48 * i) 32 t) ∙ ap (drop (48 * i)) after_32)
      ∙ row_at forth (rows_in s) (drop 32 s) room i g
      ∙ ap (λ (l : List ℕ). turned forth (take 48 l)) (drop-drop (48 * i) 32 s)

  counts-t : counts_in t ≡ counts_in s
  unfolding counts_in Y D
  counts-t =
      ap (λ (n : ℕ). read 4 5 (drop (row_place n) t)) rows_t
      ∙ ap (read 4 5) (sym (drop-drop (48 * rows_in s) 32 t) ∙ ap (drop (48 * rows_in s)) after_32 ∙ after_rows forth (rows_in s) (drop 32 s) room ∙ drop-drop (48 * rows_in s) 32 s)

  number_X : number X ≡ says_before (not forth)
  unfolding X
  number_X = number-bytes 4 (says_after forth) (small forth)
    where
      small : (f : Bool) → says_after f < 256 ^ 4
      small true = omega arith
      small false = omega arith

  pub sheet_turned : is_sheet_of (says_before (not forth)) (turned_sheet forth s) ≡ true
  unfolding t M
  sheet_turned =
      sheet_by (says_before (not forth)) t (rw rows_t (sheet_of_few (says_before forth) s h)) (length-t ∙ sized ∙ ap size_for (sym rows_t)) (ap number first_4 ∙ number_X)
      (rw (after_4, rows_t, read_front 4 7 M Y (drop 28 (drop 4 s)) length_M, take-append-drop 28 (drop 4 s)) (contents_of (says_before forth) s h))

  read-s : is_sheet s ≡ true
  read-s = is_sheet_lem forth s h

  read-t : is_sheet t ≡ true
  unfolding t
  read-t = is_sheet_lem (not forth) t sheet_turned

  count-t : (k : ℕ) → count_of t k ≡ count_of s k
  count-t k = count_is t read-t k ∙ ap (λ (c : List ℕ). get_or c k 0) counts-t ∙ sym (count_is s read-s k)

  uncounted-t : uncounted t ≡ uncounted s
  unfolding uncounted
  uncounted-t = rw (count-t 0, count-t 1, count-t 2, count-t 3, count-t 4, rows_t)

  module _ (i : ℕ) (g : i < rows_in s) where
    row_48 : length (row_in s i) ≡ 48
    row_48 = length-row s sized i g

    in_t : i < rows_in t
    in_t = rw rows_t g

    class-t : class_in t i ≡ class_in s i
    unfolding t
    class-t = class_is t read-t i in_t ∙ ap class_of (row-turned i g) ∙ class-turned forth (row_in s i) row_48 ∙ sym (class_is s read-s i g)

    sound-t : sound_row t i ≡ sound_row s i
    unfolding t
    sound-t = sound_is t read-t i in_t ∙ ap (λ (w : Row). sound w) (row-turned i g) ∙ sound-turned forth (row_in s i) row_48 ∙ sym (sound_is s read-s i g)

    rejected-t : rejected t i ≡ rejected s i
    unfolding rejected
    rejected-t = rw (sound-t, class-t, count-t (class_in s i))

  times-t : forth ≡ true → (i : ℕ) → i < rows_in s → oftener t i ≡ false
  unfolding t
  times-t e i g =
      let w = turned forth (row_in s i) in
      oftener_is t (ap (λ (b : Bool). is_sheet_of (says_before (not b)) t) (sym e) ∙ sheet_turned) i (in_t i g)
      ∙ ap (λ (w : Row). not (eqb (function_in w) 0) && not (eqb (times_in w) 1)) (row-turned i g)
      ∙ once_is w (times-turned forth (row_in s i) (row_48 i g) ∙ ap (λ (b : Bool). held (not b) w) e)

module _ (forth : Bool) (s : List ℕ) (a : Accepted forth s) where
  pub turned-accepted : Accepted (not forth) (turned_sheet forth s)
  unfolding t
  turned-accepted = record {
    sheet = sheet_turned forth s a.sheet;
    rows = λ i g. let l : i < rows_in s = rw (rows_t forth s a.sheet) at g in rejected-t forth s a.sheet i l ∙ a.rows i l;
    counts = uncounted-t forth s a.sheet ∙ a.counts;
    times = λ e i g. times-t forth s a.sheet (sym (not-not forth) ∙ ap not e) i (rw (rows_t forth s a.sheet) at g);
  }

-- ---- there and back

-- a small number's four bytes
word_back : (l : List ℕ) (k : ℕ) → length l ≡ 4 → number l ≡ k → k < 256 → bytes 4 k ≡ l
unfolding number bytes
word_back [] k h e g = absurd (let z : ⊥ = omega arith in z)
word_back (a ∷ []) k h e g = absurd (let z : ⊥ = omega arith in z)
word_back (a ∷ b ∷ []) k h e g = absurd (let z : ⊥ = omega arith in z)
word_back (a ∷ b ∷ c ∷ []) k h e g = absurd (let z : ⊥ = omega arith in z)
word_back (a ∷ b ∷ c ∷ d ∷ x ∷ l) k h e g = absurd (let z : ⊥ = omega arith in z)
word_back (a ∷ b ∷ c ∷ d ∷ []) k h e g =
    let p : k % 256 ≡ a = omega arith in
    let q : k / 256 ≡ 0 = omega arith in
    let u : 0 ≡ b = omega arith in
    let v : 0 ≡ c = omega arith in
    let w : 0 ≡ d = omega arith in
    rw (p, q) (λ i. a ∷ u i ∷ v i ∷ w i ∷ [])

module _ (forth : Bool) (s : List ℕ) (h : is_sheet_of (says_before forth) s ≡ true) (f : (i : ℕ) → i < rows_in s → times_in (row_in s i) ≡ held forth (row_in s i)) where
  word : bytes 4 (says_after (not forth)) ≡ take 4 s
  word =
      ap (λ (b : Bool). bytes 4 (says_before b)) (not-not forth)
      ∙ word_back (take 4 s) (says_before forth) (length-take-le 4 s (omega (arith, sheet_of_length (says_before forth) s h))) (says (says_before forth) s h) (small forth)
    where
      small : (b : Bool) → says_before b < 256
      small true = omega arith
      small false = omega arith

  pub turned_twice : turned_sheet (not forth) (turned_sheet forth s) ≡ s
  unfolding turned_sheet row_in t X M D Y
  turned_twice =
      let r = rows_in s in
      let y = turned_rows forth r (drop 32 s) in
      let m = take 28 (drop 4 s) in
      rw (
        after_4 forth s h,
        after_32 forth s h,
        rows_t forth s h,
        word,
        take_at m y 28 (length_M forth s h),
        rows_back forth r (drop 32 s) (room forth s h) (λ i g. rw (drop-drop (48 * i) 32 s) (f i g)),
        ← drop-drop 28 4 s,
        take-append-drop 28 (drop 4 s),
      )
      (take-append-drop 4 s)

-- ---- the call
module _ (forth : Bool) (s : List ℕ) (z : (stop_of forth s).refusal ≡ 0) where
  -- what one way made, the other takes
  pub taken_back : stop_of (not forth) (converted_of forth s) ≡ stopped 0 0
  taken_back = rw converted_is (enough (not forth) (turned_sheet forth s) (turned-accepted forth s (accepted forth s z)))

module _ (forth : Bool) (s : List ℕ) (z : (stop_of forth s).refusal ≡ 0) (f : (i : ℕ) → i < rows_in s → times_in (row_in s i) ≡ held forth (row_in s i)) where
  pub there_and_back : converted_of (not forth) (converted_of forth s) ≡ s
  there_and_back =
      converted_is (not forth) (converted_of forth s) (ap (λ (q : Stopped). q.refusal) (taken_back forth s z))
      ∙ ap (turned_sheet (not forth)) (converted_is forth s z)
      ∙ turned_twice forth s (accepted forth s z).sheet f
