-- Zeros, with the contents and one count written, are the sheet of blank rows. Assumes nothing.
use mathlib.Core.Path.{◌≡◌, refl, ap, ◌∙◌}
use mathlib.Core.List.{List, [], ◌∷◌, ◌++◌, append_assoc}
use Prim.Native.Nat.{ℕ, zero, suc, ◌+◌, ◌*◌}
use native.Mathlib.Nat.{zero-mod, add_assoc}
use native.Mathlib.Omega.{arith}
use borrow.Author.Tests.{ne_eqb}
use lib.ListN.{length, take, drop, replicate, length-replicate, replicate-append-replicate}
use lib.Seq.{take_at, drop_at}
use lib.Ieee.{of_bits}
use Rattle.total.specs.Total.{N, complement, negative, size_of}
use Rattle.laws.specs.Splice.{splice}
use Rattle.ledger.specs.Bytes.{bytes, number, fields}
use Rattle.ledger.specs.Sheet.{Row, with_times, row_place, size_for, entries, blank_row, function_in, times_in, class_of, value_of, size_in, units_in, totals, count, counts, sum, flat, encode}
use Rattle.laws.specs.laws.Splices.{take_past, drop_past}
use Rattle.ledger.specs.laws.Fields.{length-bytes, length_fields}

class_blank : class_of blank_row ≡ 0
unfolding class_of function_in
class_blank = refl

units_blank : units_in blank_row ≡ 0
unfolding units_in size_in times_in number value_of class_of function_in of_bits complement negative size_of N
units_blank = refl

flat_blank : (r : ℕ) → flat (replicate r blank_row) ≡ replicate (48 * r) 0
unfolding flat
flat_blank zero = refl
flat_blank (suc r) = rw (flat_blank r, replicate-append-replicate {A = ℕ} 48 (48 * r) 0, let h : 48 + 48 * r ≡ 48 * suc r = omega arith in h)

count_blank : (r : ℕ) → count 0 (replicate r blank_row) ≡ r
unfolding count
count_blank zero = refl
count_blank (suc r) = rw (count_blank r, class_blank) (omega arith)

count_other : (k r : ℕ) → count (suc k) (replicate r blank_row) ≡ 0
unfolding count
count_other k zero = refl
count_other k (suc r) = rw (count_other k r, class_blank, ne_eqb (suc k) 0 (λ e. omega arith)) refl

sum_blank : (r : ℕ) → sum (replicate r blank_row) ≡ 0
unfolding sum
sum_blank zero = refl
sum_blank (suc r) = rw (sum_blank r, units_blank) refl

counts_blank : (r : ℕ) → counts (replicate r blank_row) ≡ r ∷ 0 ∷ 0 ∷ 0 ∷ 0 ∷ []
counts_blank r = λ i. count_blank r i ∷ count_other 0 r i ∷ count_other 1 r i ∷ count_other 2 r i ∷ count_other 3 r i ∷ []

totals_blank : (r : ℕ) → bytes 4 r ++ replicate 292 0 ≡ totals (r ∷ 0 ∷ 0 ∷ 0 ∷ 0 ∷ []) 0
unfolding totals fields bytes
totals_blank r = refl

pub eight : (r : ℕ) → length (entries with_times r) ≡ 8
unfolding entries
eight r = refl

pub made : (r : ℕ) (e : List ℕ) → e ≡ entries with_times r
    → splice (splice (replicate (size_for r) 0) 0 (fields 4 e)) (row_place r) (bytes 4 r) ≡ encode (replicate r blank_row)
unfolding encode
made r e d =
    let H = fields 4 (entries with_times r) in
    let Z : List ℕ = replicate (48 * r) 0 in
    let E : List ℕ = replicate 296 0 in
    let lh : length H ≡ 32 = length_fields 4 (entries with_times r) ∙ ap (λ (n : ℕ). 4 * n) (eight r) in
    let lz : length Z ≡ 48 * r = length-replicate (48 * r) 0 in
    let a : replicate (size_for r) 0 ≡ replicate 32 0 ++ (Z ++ E) =
    rw (replicate-append-replicate {A = ℕ} (48 * r) 296 0, replicate-append-replicate {A = ℕ} 32 (48 * r + 296) 0, let h : size_for r ≡ 32 + (48 * r + 296) = omega arith in h) in
    let one : splice (replicate (size_for r) 0) 0 (fields 4 e) ≡ H ++ (Z ++ E) =
    rw (d, a, lh, drop_at (replicate 32 0) (Z ++ E) 32 (length-replicate {A = ℕ} 32 0)) in
    let k : take (row_place r) (H ++ (Z ++ E)) ≡ H ++ Z = rw (take_past H (Z ++ E) 32 (48 * r) lh, take_at Z E (48 * r) lz) in
    let l : drop (row_place r + 4) (H ++ (Z ++ E)) ≡ replicate 292 0 =
    rw (add_assoc 32 (48 * r) 4, drop_past H (Z ++ E) 32 (48 * r + 4) lh, drop_past Z E (48 * r) 4 lz) in
    rw (one, length-bytes 4 r, k, l, totals_blank r, length-replicate {A = Row} r blank_row, flat_blank r, counts_blank r, sum_blank r, zero-mod N)
    (append_assoc H Z (totals (r ∷ 0 ∷ 0 ∷ 0 ∷ 0 ∷ []) 0))
