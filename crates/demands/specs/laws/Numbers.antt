-- Numbers of a sheet: a list of them is read back, its length gives its rows, and how far a row's weight can go. Assumes nothing.
use Rattle.std.specs.Prelude.{◌≡◌, refl, List, [], ◌∷◌, ◌++◌, ℕ, zero, suc, ◌^◌, ◌≤◌, ◌<◌, length, get_or}
use Rattle.std.proofs.Common.{append_assoc, mod-lt, le_of_lt, arith, take_at, drop_at}
use Rattle.total.specs.Total.{N, complement}
use Rattle.total.specs.laws.Limbs.{N-pos}
use Rattle.total.specs.laws.Units.{times-size-lt}
use Rattle.ledger.specs.Bytes.{bytes, fields, read}
use Rattle.ledger.specs.Sheet.{Row, times_in, value_of, negative_in, size_in, units_in, size_for}
use Rattle.ledger.specs.Calls.{rows_in}
use Rattle.ledger.specs.laws.Fields.{length-bytes, number-bytes}
use Rattle.ledger.specs.laws.Weights.{value-fits}

pub read-fields : (w : ℕ) (xs rest : List ℕ) → ((i : ℕ) → get_or xs i 0 < 256 ^ w) → read w (length xs) (fields w xs ++ rest) ≡ xs
unfolding read fields
read-fields w [] rest h = refl
read-fields w (x ∷ xs) rest h =
    let e : (bytes w x ++ fields w xs) ++ rest ≡ bytes w x ++ (fields w xs ++ rest) = append_assoc (bytes w x) (fields w xs) rest in
    rw (
      e,
      take_at (bytes w x) (fields w xs ++ rest) w (length-bytes w x),
      drop_at (bytes w x) (fields w xs ++ rest) w (length-bytes w x),
      number-bytes w x (h zero),
      read-fields w xs rest (λ i. h (suc i)),
    )

pub rows_of : (s : List ℕ) (r : ℕ) → length s ≡ size_for r → rows_in s ≡ r
unfolding rows_in
rows_of s r h = omega arith

pub size_in_lt : (w : Row) → times_in w < 2 ^ 16 → size_in w < 2 ^ 2114
unfolding size_in
size_in_lt w h = times-size-lt (times_in w) (value_of w) h (value-fits w)

pub units_in_le : (w : Row) → units_in w ≤ N
unfolding units_in
units_in_le w = le_of_lt (mod-lt (complement (negative_in w) (size_in w)) N-pos)
