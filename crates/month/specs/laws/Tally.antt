-- A list of counts, one more at a time: its places and their sum, as long as no count reaches 2 ^ 64. Assumes nothing.
use Rattle.std.specs.Prelude.{◌≡◌, ℕ, zero, suc, ◌+◌, ◌%◌, ◌^◌, ◌<◌, ◌≤◌, Bool, true, false, cond, ◌&&◌, List, [], ◌∷◌, length, replicate, ◌==◌, slice_index, slice_set}
use Rattle.std.proofs.Math.Path.{refl}
use Rattle.std.proofs.Common.{◌∙◌, mod-eq_of_lt, le_of_suc-le-suc, not-suc-le-zero, eqb-true, length-set, get_or-set_other}
use native.Mathlib.Omega.{arith}
use Rattle.std.proofs.lemmas.Bool.{eqb-false}
use Rattle.std.proofs.Math.Seq.{get_or-set_same}
use Rattle.ledger.specs.Calls.{plus}
use Rattle.month.specs.Month.{Leg, one_more, fold}
use Rattle.month.specs.Files.{Each}

-- ---- one place set
plus-set : (xs : List ℕ) (k v : ℕ) → k < length xs → plus (slice_set xs k v) + slice_index xs k ≡ plus xs + v
unfolding plus
plus-set [] k v h = absurd (not-suc-le-zero h)
plus-set (x ∷ xs) zero v h = omega arith
plus-set (x ∷ xs) (suc k) v h = omega (arith, plus-set xs k v (le_of_suc-le-suc h))

part_of : (xs : List ℕ) (k : ℕ) → slice_index xs k ≤ plus xs
unfolding plus
part_of [] k = omega arith
part_of (x ∷ xs) zero = omega arith
part_of (x ∷ xs) (suc k) = omega (arith, part_of xs k)

pub zero-at : (n k : ℕ) → ◌≡◌ {A = ℕ} (slice_index (replicate n 0) k) 0
zero-at zero k = refl
zero-at (suc n) zero = refl
zero-at (suc n) (suc k) = zero-at n k

pub plus-zeros : (n : ℕ) → plus (replicate n 0) ≡ 0
unfolding plus
plus-zeros zero = refl
plus-zeros (suc n) = omega (arith, plus-zeros n)

module _ (xs : List ℕ) (k : ℕ) (h : k < length xs) (room : plus xs + 1 < 2 ^ 64) where
  no_wrap : (slice_index xs k + 1) % 2 ^ 64 ≡ slice_index xs k + 1
  no_wrap = mod-eq_of_lt (omega (arith, part_of xs k))

  plus_more : plus (one_more xs k) ≡ plus xs + 1
  unfolding one_more
  plus_more = omega (arith, plus-set xs k ((slice_index xs k + 1) % 2 ^ 64) h, no_wrap)

  at_more : (j : ℕ) → slice_index (one_more xs k) j ≡ slice_index xs j + cond (j == k) 1 0
  unfolding one_more
  at_more j = go (j == k) refl
    where
      go : (b : Bool) → (j == k) ≡ b → slice_index (slice_set xs k ((slice_index xs k + 1) % 2 ^ 64)) j ≡ slice_index xs j + cond b 1 0
      go true e = rw (eqb-true j k e, get_or-set_same xs k ((slice_index xs k + 1) % 2 ^ 64) 0 h) no_wrap
      go false e = rw (get_or-set_other xs k j ((slice_index xs k + 1) % 2 ^ 64) 0 (eqb-false j k e)) (omega arith)

length_more : (xs : List ℕ) (k : ℕ) → length (one_more xs k) ≡ length xs
unfolding one_more
length_more xs k = length-set xs k ((slice_index xs k + 1) % 2 ^ 64)

-- ---- legs that count, each at its place
module _ (counts : Leg → Bool) (place : Leg → ℕ) where
  abbrev pub tally_on : List ℕ → Leg → List ℕ
  tally_on xs l = cond (counts l) (one_more xs (place l)) xs

  abbrev pub counted : List Leg → ℕ
  counted [] = 0
  counted (l ∷ ls) = cond (counts l) 1 0 + counted ls

  abbrev pub counted_at : ℕ → List Leg → ℕ
  counted_at k [] = 0
  counted_at k (l ∷ ls) = cond (counts l && k == place l) 1 0 + counted_at k ls

  -- what a list of counts has become
  pub record Tallied (n : ℕ) (xs ys : List ℕ) (ls : List Leg) : Type 0 where
    pub size : length ys ≡ n
    pub sum : plus ys ≡ plus xs + counted ls
    pub at : (k : ℕ) → slice_index ys k ≡ slice_index xs k + counted_at k ls

  next : (n : ℕ) (xs : List ℕ) (l : Leg) → length xs ≡ n → (counts l ≡ true → place l < n) → plus xs + 1 < 2 ^ 64
      → (length (tally_on xs l) ≡ n) × (plus (tally_on xs l) ≡ plus xs + cond (counts l) 1 0) × ((k : ℕ) → slice_index (tally_on xs l) k ≡ slice_index xs k + cond (counts l && k == place l) 1 0)
  next n xs l e h room = go (counts l) refl
    where
      go : (b : Bool) → counts l ≡ b
          → (length (cond b (one_more xs (place l)) xs) ≡ n) × (plus (cond b (one_more xs (place l)) xs) ≡ plus xs + cond b 1 0) × ((k : ℕ) → slice_index (cond b (one_more xs (place l)) xs) k ≡ slice_index xs k + cond (b && k == place l) 1 0)
      go true c = let p : place l < length xs = rw e (h c) in (length_more xs (place l) ∙ e, plus_more xs (place l) p room, λ k. at_more xs (place l) p room k)
      go false c = (e, omega arith, λ k. omega arith)

  pub tallied : (n : ℕ) (xs : List ℕ) (ls : List Leg) → length xs ≡ n → Each (λ (l : Leg). counts l ≡ true → place l < n) ls → plus xs + length ls < 2 ^ 64 → Tallied n xs (fold tally_on xs ls) ls
  unfolding fold
  tallied n xs [] e h room = record { size = e; sum = omega arith; at = λ k. omega arith }
  tallied n xs (l ∷ ls) e h room =
      let o = next n xs l e h.0 (omega arith) in
      let r = tallied n (tally_on xs l) ls o.0 h.1 (omega (arith, o.1, at_most (counts l))) in
      record { size = r.size; sum = omega (arith, r.sum, o.1); at = λ k. omega (arith, r.at k, o.2 k) }
    where
      at_most : (b : Bool) → cond b 1 0 ≤ 1
      at_most true = omega arith
      at_most false = omega arith
