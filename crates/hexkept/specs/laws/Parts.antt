-- A part of a text ends where the next e stands, or at the end. Assumes nothing.
use Rattle.std.specs.Prelude.{◌≡◌, ℕ, ◌+◌, ◌≤◌, List, [], ◌∷◌, ◌++◌, drop}
use Rattle.std.proofs.Common.{ap, ◌∙◌, add-zero, arith, append_assoc}
use Rattle.std.proofs.Math.Nat.{min-eq_left}
use Rattle.std.proofs.Math.ListN.{length, length-append}
use Rattle.std.proofs.Math.Seq.{take-append_seam, drop-append_seam}
use Rattle.hexfloat.specs.Reading.{before}
use Rattle.hexline.specs.Parts.{part_at, next_of}
use Rattle.spelt.specs.laws.Fractions.{Without, before-both}

-- behind x a part p, and after it an e or nothing
module _ (e : ℕ) (x p rest : List ℕ) (none : Without e e p) (ends : before e e rest ≡ 0) where
  size : before e e (drop (length x) (x ++ (p ++ rest))) ≡ length p
  size =
      ap (before e e) (drop-append_seam x (p ++ rest))
      ∙ before-both e e p rest none
      ∙ ap (λ (n : ℕ). length p + n) ends
      ∙ add-zero (length p)

  pub part_there : part_at e (x ++ (p ++ rest)) (length x) ≡ p
  unfolding part_at
  part_there = rw (size, drop-append_seam x (p ++ rest)) (take-append_seam p rest)

  pub next_there : next_of e (x ++ (p ++ rest)) (length x) ≡ length (x ++ (p ++ (e ∷ [])))
  unfolding next_of
  next_there =
      let room : length x ≤ length (x ++ (p ++ rest)) = omega (arith, length-append x (p ++ rest)) in
      rw (size, min-eq_left room) (simp length-append (omega arith))

-- past the e
pub past : (e : ℕ) (x p rest : List ℕ) → x ++ (p ++ (e ∷ rest)) ≡ x ++ (p ++ (e ∷ [])) ++ rest
past e x p rest = simp append_assoc
