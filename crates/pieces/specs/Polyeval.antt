-- polyeval.rs, at f64: a polynomial by its coefficients, lowest first, each operation rounded. Definitions only.
use Rattle.std.specs.Prelude.{ℕ, List, [], ◌∷◌, length, nat_eq, slice_index_or, Float}
use Rattle.std.specs.Float.{nan}
use Rattle.laws.specs.Arithmetic.{◌⊕◌, ◌⊗◌, +0}
use Rattle.laws.specs.Ladder.{when◌gives◌else◌}

-- twelve coefficients, in pairs
unfoldable pub paired_of : Float → List Float → Float
paired_of x c =
    let x2 = x ⊗ x in
    let x4 = x2 ⊗ x2 in
    let x8 = x4 ⊗ x4 in
    let p : ℕ → ℕ → Float = λ i j. slice_index_or c i nan ⊕ slice_index_or c j nan ⊗ x in
    let q0 = p 0 1 ⊕ p 2 3 ⊗ x2 in
    let q1 = p 4 5 ⊕ p 6 7 ⊗ x2 in
    let q2 = p 8 9 ⊕ p 10 11 ⊗ x2 in
    q0 ⊕ q1 ⊗ x4 ⊕ q2 ⊗ x8

-- any number of them, from the last to the first, on from 0
unfoldable pub horner_of : Float → List Float → Float
horner_of x [] = +0
horner_of x (k ∷ ks) = horner_of x ks ⊗ x ⊕ k

-- the file's forms for 9 and 6 coefficients have no row
unfoldable pub polyeval_of : Float → List Float → Float
polyeval_of x c = when nat_eq (length c) 12 gives paired_of x c else horner_of x c
