-- A row that was entered and its line: what the line says is an entry of the same row. Assumes nothing.
use Rattle.std.specs.Prelude.{◌≡◌, ℕ, zero, suc, ◌/◌, ◌%◌, ◌^◌, ◌≤◌, ◌<◌, Bool, Some, List, [], ◌∷◌, ◌++◌, ltb, eqb}
use Rattle.std.proofs.Math.Path.{refl}
use Rattle.std.proofs.Common.{sym, ap, ◌∙◌, pow-suc, mod-lt, arith, append_assoc, le-ltb, lit≤}
use Rattle.std.proofs.Math.Bool.{true, false, cond}
use Rattle.std.proofs.Math.Dec.{lit<}
use Rattle.std.specs.Float.{binary64}
use Rattle.std.specs.Float.Ieee.{to_bits}
use Rattle.answer.specs.Answer.{first_of, second_of}
use Rattle.answer.specs.Numbers.{last}
use Rattle.ledger.specs.Bytes.{bytes, number, fields, pattern_at}
use Rattle.ledger.specs.Sheet.{Row, row_bytes, blank_row, function_in, refusal_in, times_in}
use Rattle.ledger.specs.laws.Fields.{number-bytes}
use Rattle.sheet.specs.declared.Entry.{Entry}
use Rattle.sheet.specs.Functions.{used_of}
use Rattle.sheet.specs.Edit.{keep, kept_of, answer_of, answered, row_of}
use Rattle.sheet.specs.laws.Evaluated.{refusal_byte}
use Rattle.sheet.specs.laws.Stored.{either, function_answered, refusal_answered}
use Rattle.hexline.specs.Fields.{up_to, field_of}
use Rattle.hexpage.specs.HexPage.{entered_text, worked_text, row_text}
use Rattle.spelt.specs.laws.Digits.{read-decimal}
use Rattle.spelt.specs.laws.Floats.{written_is_read}
use Rattle.hexkept.specs.Entered.{Fits}
use Rattle.hexkept.specs.laws.Line.{written_of, behind, AllRead}

-- ---- its line

-- the numbers behind the function
abbrev pub others_in : Row → List ℕ
others_in w = pattern_at w 8 ∷ pattern_at w 16 ∷ pattern_at w 24 ∷ times_in w ∷ refusal_in w ∷ pattern_at w 32 ∷ pattern_at w 40 ∷ []

abbrev pub line_in : Row → List ℕ
line_in w = written_of 0 (function_in w) ++ behind 1 (others_in w)

pub row-line : (w : Row) → row_text w (times_in w) ≡ line_in w ++ (10 ∷ [])
unfolding row_text entered_text worked_text written_of behind function_in refusal_in
row-line w = simp append_assoc

-- ---- each number of it is small enough to be read

bytes_small : (k n : ℕ) → number (bytes k n) < 256 ^ k
unfolding bytes number
bytes_small zero n = omega arith
bytes_small (suc k) n =
    let less = bytes_small k (n / 256) in
    let low : n % 256 < 256 = mod-lt n (lit≤ tt) in
    rw (pow-suc 256 k) (omega arith)

record Small (w : Row) : Type 0 where
  function : function_in w ≤ last
  a : pattern_at w 8 < 2 ^ 64
  b : pattern_at w 16 < 2 ^ 64
  c : pattern_at w 24 < 2 ^ 64
  times : times_in w < 2 ^ 16
  refusal : refusal_in w < 10 ^ 10
  first : pattern_at w 32 < 2 ^ 64
  second : pattern_at w 40 < 2 ^ 64

small_blank : Small blank_row
unfolding function_in pattern_at number times_in refusal_in
small_blank = record { function = lit≤ tt; a = lit< tt; b = lit< tt; c = lit< tt; times = lit< tt; refusal = lit< tt; first = lit< tt; second = lit< tt }

small_answered : (e : Entry) → e.function ≤ last → Small (answered e)
unfolding pattern_at times_in answered row_bytes fields bytes
small_answered e h = record {
  function = rw (function_answered e) h;
  a = bytes_small 8 e.a;
  b = bytes_small 8 e.b;
  c = bytes_small 8 e.c;
  times = bytes_small 2 e.times;
  refusal = rw (refusal_answered e) (omega (arith, refusal_byte e.function e.a e.b e.c));
  first = bytes_small 8 (to_bits binary64 (first_of (answer_of e)));
  second = bytes_small 8 (to_bits binary64 (second_of (answer_of e)));
}

small_row : (e : Entry) → e.function ≤ last → Small (row_of e)
unfolding kept_of
small_row e h = either e Small (λ _. small_blank) (small_answered (kept_of e) h)

read_function : (f : ℕ) → f ≤ last → field_of 0 (written_of 0 f) ≡ Some f
unfolding written_of field_of up_to
read_function f h = rw (read-decimal f (omega arith), le-ltb last f h) refl

read-times : (k : ℕ) → k < 2 ^ 16 → field_of 4 (written_of 4 k) ≡ Some k
unfolding written_of field_of up_to
read-times k h = rw (read-decimal k (omega arith), le-ltb 65535 k (omega arith)) refl

pub row_read : (e : Entry) → e.function ≤ last → AllRead 0 (function_in (row_of e) ∷ others_in (row_of e))
unfolding written_of field_of
row_read e h =
    let s = small_row e h in
    let w = row_of e in
    let answers : AllRead 6 (pattern_at w 32 ∷ pattern_at w 40 ∷ []) = (written_is_read _ s.first, (written_is_read _ s.second, tt)) in
    let others : AllRead 4 (times_in w ∷ refusal_in w ∷ pattern_at w 32 ∷ pattern_at w 40 ∷ []) = (read-times _ s.times, (read-decimal _ s.refusal, answers)) in
    (read_function _ s.function, (written_is_read _ s.a, (written_is_read _ s.b, (written_is_read _ s.c, others))))

-- ---- the entry that it says

abbrev pub entry_in : Row → Entry
entry_in w = record { function = function_in w; a = pattern_at w 8; b = pattern_at w 16; c = pattern_at w 24; times = times_in w }

entry-answered : (e : Entry) → Fits e → entry_in (answered e) ≡ e
unfolding function_in pattern_at times_in answered row_bytes fields bytes
entry-answered e F = λ i. record {
  function = e.function;
  a = number-bytes 8 e.a F.a i;
  b = number-bytes 8 e.b F.b i;
  c = number-bytes 8 e.c F.c i;
  times = number-bytes 2 e.times F.times i;
}

-- what a function does not read is left out once
module _ (f k x : ℕ) where
  keep_small : x < 2 ^ 64 → keep f k x < 2 ^ 64
  unfolding keep
  keep_small h = by (ltb k (used_of f)) where
    by : (t : Bool) → cond t x 0 < 2 ^ 64
    by true = h
    by false = lit< tt

  keep_again : keep f k (keep f k x) ≡ keep f k x
  unfolding keep
  keep_again = by (ltb k (used_of f)) where
    by : (t : Bool) → cond t (cond t x 0) 0 ≡ cond t x 0
    by true = refl
    by false = refl

kept-fits : (e : Entry) → Fits e → Fits (kept_of e)
unfolding kept_of
kept-fits e F = record {
  a = keep_small e.function 0 e.a F.a;
  b = keep_small e.function 1 e.b F.b;
  c = keep_small e.function 2 e.c F.c;
  times = F.times;
}

kept_again : (e : Entry) → kept_of (kept_of e) ≡ kept_of e
unfolding kept_of
kept_again e = λ i. record {
  function = e.function;
  a = keep_again e.function 0 e.a i;
  b = keep_again e.function 1 e.b i;
  c = keep_again e.function 2 e.c i;
  times = e.times;
}

module _ (e : Entry) where
  row_blank : eqb e.function 0 ≡ true → row_of e ≡ blank_row
  unfolding row_of
  row_blank z = rw z refl

  row-answered : eqb e.function 0 ≡ false → row_of e ≡ answered (kept_of e)
  unfolding row_of
  row-answered z = rw z refl

-- gives the row again
pub row_again : (e : Entry) → Fits e → row_of (entry_in (row_of e)) ≡ row_of e
unfolding function_in kept_of
row_again e F = by (eqb e.function 0) refl where
  by : (t : Bool) → eqb e.function 0 ≡ t → row_of (entry_in (row_of e)) ≡ row_of e
  by true z = ap (λ (w : Row). row_of (entry_in w)) (row_blank e z) ∙ row_blank (entry_in blank_row) refl ∙ sym (row_blank e z)
  by false z =
      ap (λ (w : Row). row_of (entry_in w)) (row-answered e z)
      ∙ ap row_of (entry-answered (kept_of e) (kept-fits e F))
      ∙ row-answered (kept_of e) z
      ∙ ap answered (kept_again e)
      ∙ sym (row-answered e z)
