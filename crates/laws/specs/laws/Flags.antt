-- Tests as facts, and the flag `ltb 0 n`: whether anything of n is left. Assumes nothing.
use Rattle.std.specs.Prelude.{◌≡◌, refl, Bool, true, false, not, ◌&&◌, ◌||◌, ◌⊎◌, ℕ, ◌+◌, ◌-◌, ◌*◌, ◌≤◌, ◌<◌, T, ltb}
use Rattle.std.proofs.Common.{sym, ◌∙◌, subst, inl, inr, le_of_eq, mul-pos, arith, ltb→lt, lt→ltb, nltb→le}
use Rattle.std.proofs.lemmas.Bool.{false≢true}
use Rattle.std.proofs.Math.Arith.{le→nltb}
use Rattle.std.specs.Float.Ieee.Bits.{is_true, is_false}

pub holds : {b : Bool} → b ≡ true → T b
holds e = subst T (sym e) tt

pub fails : {b : Bool} → b ≡ false → T (not b)
fails e = subst (λ (b : Bool). T (not b)) (sym e) tt

pub both_true : (a b : Bool) → (a && b) ≡ true → (a ≡ true) × (b ≡ true)
both_true true b e = (refl, e)
both_true false b e = absurd (false≢true e)

-- either of two numbers is the smaller, or they are equal
pub lt-or-le : (a b : ℕ) → (a < b) ⊎ (b ≤ a)
lt-or-le a b = go (ltb a b) (ltb→lt a b) (nltb→le a b)
  where
    go : (t : Bool) → (T t → a < b) → (T (not t) → b ≤ a) → (a < b) ⊎ (b ≤ a)
    go true h k = inl (h tt)
    go false h k = inr (k tt)

pub is_some : (n : ℕ) → 0 < n → ltb 0 n ≡ true
is_some n h = is_true (ltb 0 n) (lt→ltb 0 n h)

pub is_none : (n : ℕ) → n ≤ 0 → ltb 0 n ≡ false
is_none n h = is_false (ltb 0 n) (le→nltb 0 n h)

pub some_of : (n : ℕ) → ltb 0 n ≡ true → 0 < n
some_of n e = ltb→lt 0 n (holds e)

pub none_of : (n : ℕ) → ltb 0 n ≡ false → n ≡ 0
none_of n e = let h = nltb→le 0 n (fails e) in omega arith

pub some_is : (n : ℕ) (m : Bool) → (T m → 0 < n) → (T (not m) → n ≡ 0) → ltb 0 n ≡ m
some_is n true h k = is_some n (h tt)
some_is n false h k = is_none n (le_of_eq (k tt))

-- of two parts one is not zero
pub some_sum : (a p b : ℕ) → 0 < p → ltb 0 (a * p + b) ≡ (ltb 0 b || ltb 0 a)
some_sum a p b P = go (ltb 0 b) (ltb 0 a) refl refl
  where
    go : (x y : Bool) → ltb 0 b ≡ x → ltb 0 a ≡ y → ltb 0 (a * p + b) ≡ (x || y)
    go true y e d = let h = some_of b e in is_some (a * p + b) (let z : 0 < a * p + b = omega arith in z)
    go false true e d = let h : 0 < a * p = mul-pos (some_of a d) P in is_some (a * p + b) (let z : 0 < a * p + b = omega arith in z)
    go false false e d = is_none (a * p + b) (le_of_eq ((λ i. none_of a d i * p + none_of b e i) ∙ (let z : 0 * p + 0 ≡ 0 = omega arith in z)))

-- a difference has something left where its terms differ
pub some_diff : (a b : ℕ) → b ≤ a → ltb 0 (a - b) ≡ ltb b a
some_diff a b h = some_is (a - b) (ltb b a) (λ t. let x = ltb→lt b a t in let z : 0 < a - b = omega arith in z) (λ t. let x = nltb→le b a t in let z : a - b ≡ 0 = omega arith in z)
