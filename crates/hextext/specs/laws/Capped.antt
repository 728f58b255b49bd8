-- A count that is cut at 1,025 whenever it is more is the count, cut. Assumes nothing.
use Rattle.std.specs.Prelude.{◌≡◌, refl, ℕ, ◌+◌, ◌*◌, min, Bool, true, false, cond, Some, None, List, [], ◌∷◌, ltb}
use Rattle.std.proofs.Common.{sym, ap, ◌∙◌, arith}
use Rattle.std.proofs.Math.Nat.{min-eq_left, min-eq_right, min-le_right}
use Rattle.line.specs.Line.{digit_of, spell_of}
use Rattle.line.specs.laws.Long.{below}
use Rattle.hextext.specs.HexText.{capped}

-- two numbers that are the same when cut are so with one digit more
same_step : (m n d : ℕ) → min m 1025 ≡ min n 1025 → min (m * 10 + d) 1025 ≡ min (n * 10 + d) 1025
same_step m n d e =
    below m 1025
    (λ a. below n 1025
    (λ b. let z : m ≡ n = sym (min-eq_left (omega arith)) ∙ e ∙ min-eq_left (omega arith) in ap (λ (k : ℕ). min (k * 10 + d) 1025) z)
    (λ b. let z : m ≡ 1025 = sym (min-eq_left (omega arith)) ∙ e ∙ min-eq_right b in absurd (omega arith)))
    (λ a. below n 1025
    (λ b. let z : 1025 ≡ n = sym (min-eq_right a) ∙ e ∙ min-eq_left (omega arith) in absurd (omega arith))
    (λ b. min-eq_right (omega arith) ∙ sym (min-eq_right (omega arith))))

pub cut-same : (xs : List ℕ) (m n : ℕ) → min m 1025 ≡ min n 1025 → capped (spell_of 10 m xs) ≡ capped (spell_of 10 n xs)
unfolding spell_of capped
cut-same [] m n e = ap Some e
cut-same (x ∷ xs) m n e = by (ltb (digit_of x) 10) (cut-same xs (m * 10 + digit_of x) (n * 10 + digit_of x) (same_step m n (digit_of x) e)) where
  by : (t : Bool) → capped (spell_of 10 (m * 10 + digit_of x) xs) ≡ capped (spell_of 10 (n * 10 + digit_of x) xs)
      → capped (cond t (spell_of 10 (m * 10 + digit_of x) xs) None) ≡ capped (cond t (spell_of 10 (n * 10 + digit_of x) xs) None)
  by true h = h
  by false h = refl

-- what is cut is the same when it is cut again
pub cut_twice : (r n : ℕ) → r ≡ min n 1025 → min r 1025 ≡ min n 1025
cut_twice r n e = rw e (min-eq_left (min-le_right n 1025))
