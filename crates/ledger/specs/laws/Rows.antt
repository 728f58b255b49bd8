-- A row as six words of eight bytes: what they say. Assumes nothing.
use Rattle.std.specs.Prelude.{◌≡◌, refl, List, ◌∷◌, ℕ, ◌+◌, ◌*◌, ◌/◌, ◌%◌, ◌<◌}
use Rattle.std.proofs.Common.{arith}
use Rattle.ledger.specs.Bytes.{bytes, fields}
use Rattle.ledger.specs.Sheet.{row_bytes}

-- the first word is function, refusal number and times
pub row_words : (f q k : ℕ) (xs : List ℕ) → f < 256 → q < 256 → k < 65536 → fields 8 ((f + 256 * q + 65536 * k) ∷ xs) ≡ row_bytes f q k xs
unfolding fields row_bytes bytes
row_words f q k xs h g l =
    let a : (f + 256 * q + 65536 * k) % 256 ≡ f = omega arith in
    let b : (f + 256 * q + 65536 * k) / 256 ≡ q + 256 * k = omega arith in
    let c : (q + 256 * k) % 256 ≡ q = omega arith in
    let d : (q + 256 * k) / 256 ≡ k = omega arith in
    let e : k / 256 / 256 ≡ 0 = omega arith in
    rw (a, b, c, d, e)
