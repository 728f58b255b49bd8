-- A row's words are what its bytes say. Assumes nothing.
use Rattle.std.specs.Prelude.{◌≡◌, refl, ℕ, zero, suc, ◌+◌, ◌*◌, ◌/◌, ◌%◌, ◌^◌, ◌<◌, List, [], ◌∷◌, ◌++◌, length, take, drop, get_or}
use Rattle.std.proofs.Common.{ap, ◌∙◌, mul-suc, arith, take_at}
use Rattle.std.proofs.Math.Seq.{drop-append-add}
use Rattle.ledger.specs.Bytes.{bytes, number, fields, pattern_at}
use Rattle.ledger.specs.Sheet.{refusal_in}
use Rattle.ledger.specs.laws.Fields.{length-bytes, length_fields, number-bytes, pattern_there}

-- word k stands in its eight bytes
word_at : (l : List ℕ) (k : ℕ) → k < length l → take 8 (drop (8 * k) (fields 8 l)) ≡ bytes 8 (get_or l k 0)
unfolding fields
word_at [] k h = absurd (omega arith)
word_at (x ∷ xs) zero h = take_at (bytes 8 x) (fields 8 xs) 8 (length-bytes 8 x)
word_at (x ∷ xs) (suc k) h =
    let e : 8 * suc k ≡ length (bytes 8 x) + 8 * k = omega (arith, length-bytes 8 x, mul-suc 8 k) in
    ap (λ (n : ℕ). take 8 (drop n (bytes 8 x ++ fields 8 xs))) e
    ∙ ap (take 8) (drop-append-add (bytes 8 x) (fields 8 xs) (8 * k))
    ∙ word_at xs k (omega arith)

pub pattern_words : (l : List ℕ) (k : ℕ) → k < length l → get_or l k 0 < 2 ^ 64 → pattern_at (fields 8 l) (8 * k) ≡ get_or l k 0
pattern_words l k h small =
    pattern_there (fields 8 l) (8 * k) (omega (arith, length_fields 8 l))
    ∙ ap number (word_at l k h)
    ∙ number-bytes 8 (get_or l k 0) small

-- the second byte is the refusal
pub refusal_words : (l : List ℕ) → length l ≡ 6 → get_or l 0 0 / 256 % 256 ≡ refusal_in (fields 8 l)
unfolding refusal_in fields bytes
refusal_words [] h = absurd (let z : ⊥ = omega arith in z)
refusal_words (x ∷ l) h = refl
