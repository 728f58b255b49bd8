-- A row as six words of eight bytes: its length, its function, and its first answer. Assumes nothing.
use Rattle.std.specs.Prelude.{◌≡◌, refl, List, [], ◌∷◌, ℕ, ◌*◌, ◌%◌, ◌^◌, ◌<◌, length, take, drop, get_or}
use Rattle.std.proofs.Common.{ap, ◌∙◌, sym, arith}
use Rattle.laws.specs.Arithmetic.{float}
use Rattle.ledger.specs.Bytes.{bytes, number, fields}
use Rattle.ledger.specs.Sheet.{function_in, first_in}
use Rattle.ledger.specs.laws.Fields.{length_fields, number-bytes}

pub length_words : (l : List ℕ) → length l ≡ 6 → length (fields 8 l) ≡ 48
length_words l h = length_fields 8 l ∙ ap (λ (n : ℕ). 8 * n) h

pub function_words : (l : List ℕ) → length l ≡ 6 → get_or l 0 0 % 256 ≡ function_in (fields 8 l)
unfolding function_in fields bytes
function_words [] h = absurd (let z : ⊥ = omega arith in z)
function_words (x ∷ l) h = refl

-- the fifth is the first answer
fifth : (l : List ℕ) → length l ≡ 6 → bytes 8 (get_or l 4 0) ≡ take 8 (drop 32 (fields 8 l))
unfolding fields bytes
fifth [] h = absurd (let z : ⊥ = omega arith in z)
fifth (a ∷ []) h = absurd (let z : ⊥ = omega arith in z)
fifth (a ∷ b ∷ []) h = absurd (let z : ⊥ = omega arith in z)
fifth (a ∷ b ∷ c ∷ []) h = absurd (let z : ⊥ = omega arith in z)
fifth (a ∷ b ∷ c ∷ d ∷ []) h = absurd (let z : ⊥ = omega arith in z)
fifth (a ∷ b ∷ c ∷ d ∷ x ∷ l) h = refl

pub first_words : (l : List ℕ) → length l ≡ 6 → get_or l 4 0 < 256 ^ 8 → float (get_or l 4 0) ≡ first_in (fields 8 l)
unfolding first_in
first_words l h g = ap float (sym (number-bytes 8 (get_or l 4 0) g) ∙ ap number (fifth l h))
