-- Whole numbers with a sign: differences and their size. Assumes nothing.
use Rattle.std.specs.Prelude.{◌≡◌, refl, Bool, true, false, cond, ℕ, zero, suc, ◌+◌, ◌-◌, ◌≤◌, ◌<◌, ℤ, pos, negsuc, neg_ℤ, nat_abs, ◌+ℤ◌, ◌-ℤ◌, T}
use Rattle.std.proofs.Common.{ap, ◌∙◌, sym, true≢false, inl, inr, arith, add-zero, zero-add, add_comm, lt-ltb, le-ltb, ltb-true, ltb-false, leb→le}
use Rattle.std.specs.Bool.{beq}
use Rattle.std.proofs.Math.Nat.{sub-zero}
use Rattle.std.proofs.Math.IntN.{suc_ℤ, sub_ℕ, neg_ℤ-neg_ℤ, neg_ℤ-+ℤ, suc_ℤ-+ℤ, +ℤ_comm, +ℤ_assoc, +ℤ_invr, +ℤ-neg_ℤ_cancel, -ℤ-+ℤ_cancel}
use Rattle.std.specs.Int.Signed.{le_z, lt_z}
use Rattle.laws.specs.laws.Flags.{lt-or-le}

-- ---- a number less a larger one, and less one that is no larger
pub sub_up : (a b : ℕ) → b ≤ a → sub_ℕ a b ≡ pos (a - b)
sub_up a b h = rw (le-ltb a b h) refl

pub sub_down : (a b : ℕ) → a < b → sub_ℕ a b ≡ negsuc (b - suc a)
sub_down a b h = rw (lt-ltb a b h) refl

pub minus_is : (a b : ℕ) → pos a -ℤ pos b ≡ sub_ℕ a b
minus_is a zero = ap pos (add-zero a ∙ sym (sub-zero a)) ∙ sym (sub_up a zero (let z : 0 ≤ a = omega arith in z))
minus_is a (suc b) = refl

pub taken_from : (k h : ℕ) → neg_ℤ (pos k) +ℤ pos h ≡ sub_ℕ h k
taken_from zero h = ap pos (zero-add h ∙ sym (sub-zero h)) ∙ sym (sub_up h zero (let z : 0 ≤ h = omega arith in z))
taken_from (suc k) h = refl

-- ---- sizes
pub size-sub : (a b : ℕ) → nat_abs (sub_ℕ a b) ≡ (a - b) + (b - a)
size-sub a b = elim (lt-or-le a b) [
  | inl l ↦ ap nat_abs (sub_down a b l) ∙ (let z : suc (b - suc a) ≡ (a - b) + (b - a) = omega arith in z)
  | inr g ↦ ap nat_abs (sub_up a b g) ∙ (let z : a - b ≡ (a - b) + (b - a) = omega arith in z)
]

pub size-neg : (z : ℤ) → nat_abs (neg_ℤ z) ≡ nat_abs z
size-neg (pos zero) = refl
size-neg (pos (suc n)) = refl
size-neg (negsuc n) = refl

-- a sign and a size
abbrev pub signed : Bool → ℕ → ℤ
signed s m = cond s (neg_ℤ (pos m)) (pos m)

pub size-apart : (s t : Bool) (m n : ℕ) → nat_abs (signed s m -ℤ signed t n) ≡ cond (beq s t) ((m - n) + (n - m)) (m + n)
size-apart false false m n = ap nat_abs (minus_is m n) ∙ size-sub m n
size-apart false true m n = ap (λ (z : ℤ). nat_abs (pos m +ℤ z)) (neg_ℤ-neg_ℤ (pos n))
size-apart true false m n = ap nat_abs (sym (neg_ℤ-+ℤ (pos m) (pos n))) ∙ size-neg (pos (m + n))
size-apart true true m n =
    ap (λ (z : ℤ). nat_abs (neg_ℤ (pos m) +ℤ z)) (neg_ℤ-neg_ℤ (pos n)) ∙ ap nat_abs (taken_from m n) ∙ size-sub n m ∙ add_comm (n - m) (m - n)

-- the other way round
pub size_swap : (x y : ℤ) → nat_abs (x -ℤ y) ≡ nat_abs (y -ℤ x)
size_swap x y =
    ap nat_abs (sym (neg_ℤ-+ℤ y (neg_ℤ x) ∙ ap (λ (z : ℤ). neg_ℤ y +ℤ z) (neg_ℤ-neg_ℤ x) ∙ +ℤ_comm (neg_ℤ y) x)) ∙ size-neg (y -ℤ x)

-- ---- both moved by as much lie as far apart
pub moved-both : (x y h : ℤ) → (x +ℤ h) -ℤ (y +ℤ h) ≡ x -ℤ y
moved-both x y h =
    ap (λ (z : ℤ). (x +ℤ h) +ℤ z) (neg_ℤ-+ℤ y h ∙ +ℤ_comm (neg_ℤ y) (neg_ℤ h))
    ∙ sym (+ℤ_assoc (x +ℤ h) (neg_ℤ h) (neg_ℤ y))
    ∙ ap (λ (z : ℤ). z +ℤ neg_ℤ y) (+ℤ-neg_ℤ_cancel x h)

-- ---- upwards
is_pos : (z : ℤ) (n : ℕ) → z ≡ pos n → z ≡ pos (nat_abs z)
is_pos z n e = e ∙ ap (λ (w : ℤ). pos (nat_abs w)) (sym e)

upwards : (x y : ℤ) → T (le_z x y) → y -ℤ x ≡ pos (nat_abs (y -ℤ x))
upwards (pos a) (pos b) h = is_pos (pos b -ℤ pos a) (b - a) (minus_is b a ∙ sub_up b a (leb→le a b h))
upwards (pos a) (negsuc b) h = absurd h
upwards (negsuc a) (pos b) h = refl
upwards (negsuc a) (negsuc b) h = is_pos (negsuc b -ℤ negsuc a) (suc a - suc b) (sub_up (suc a) (suc b) (let g = leb→le b a h in omega arith))

through : (x y z : ℤ) → (z -ℤ y) +ℤ (y -ℤ x) ≡ z -ℤ x
through x y z = sym (+ℤ_assoc (z -ℤ y) y (neg_ℤ x)) ∙ ap (λ (w : ℤ). w +ℤ neg_ℤ x) (-ℤ-+ℤ_cancel z y)

pub size_along : (x y z : ℤ) → T (le_z x y) → T (le_z y z) → nat_abs (x -ℤ z) ≡ nat_abs (x -ℤ y) + nat_abs (y -ℤ z)
size_along x y z h g =
    let a = nat_abs (y -ℤ x) in
    let b = nat_abs (z -ℤ y) in
    size_swap x z
    ∙ ap nat_abs (sym (through x y z) ∙ (λ i. upwards y z g i +ℤ upwards x y h i))
    ∙ add_comm b a
    ∙ (λ i. size_swap y x i + size_swap z y i)

-- ---- the next one up
pub size_next : (x : ℤ) → nat_abs (x -ℤ suc_ℤ x) ≡ 1
size_next x = size_swap x (suc_ℤ x) ∙ ap nat_abs (suc_ℤ-+ℤ x (neg_ℤ x) ∙ ap suc_ℤ (+ℤ_invr x))

pub before_next : (x : ℤ) → lt_z x (suc_ℤ x) ≡ true
before_next (pos a) = lt-ltb a (suc a) (omega arith)
before_next (negsuc zero) = refl
before_next (negsuc (suc a)) = lt-ltb a (suc a) (omega arith)

pub next_is : (x y : ℤ) → lt_z x y ≡ true → lt_z (suc_ℤ x) y ≡ false → y ≡ suc_ℤ x
next_is (pos a) (pos b) h g = ap pos (let k = ltb-true a b h in let l = ltb-false (suc a) b g in omega arith)
next_is (pos a) (negsuc b) h g = absurd (true≢false (sym h))
next_is (negsuc zero) (pos b) h g = ap pos (let l = ltb-false 0 b g in omega arith)
next_is (negsuc zero) (negsuc b) h g = let k = ltb-true b 0 h in absurd (omega arith)
next_is (negsuc (suc a)) (pos b) h g = absurd (true≢false g)
next_is (negsuc (suc a)) (negsuc b) h g = ap negsuc (let k = ltb-true b (suc a) h in let l = ltb-false b a g in omega arith)

pub next_size : (x y : ℤ) (n : ℕ) → lt_z x y ≡ true → nat_abs x ≤ n → nat_abs y ≤ n → nat_abs (suc_ℤ x) ≤ n
next_size (pos a) (pos b) n h f g = let k = ltb-true a b h in omega arith
next_size (pos a) (negsuc b) n h f g = absurd (true≢false (sym h))
next_size (negsuc zero) y n h f g = omega arith
next_size (negsuc (suc a)) y n h f g = omega arith
