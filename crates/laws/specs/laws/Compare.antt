-- What `compare` of two numbers says, and that it is the only thing it can say. Assumes nothing.
use Rattle.std.specs.Prelude.{◌≡◌, refl, not, T, eqb}
use Rattle.std.proofs.Common.{ap, subst, mul-lt-mul_of_pos_right, arith, leb→le, eqb→eq}
use Prim.Native.Nat.{ℕ, ◌*◌, ◌≤◌, ◌<◌, compare, Ordering}
use Rattle.std.proofs.Math.Arith.{lt_of_le-ne}
use Rattle.std.proofs.Math.Dec.{is_le, compare_is_eq, nleb→lt, eqb_refl}

abbrev pub Compared : Ordering → ℕ → ℕ → Type 0
Compared Ordering.lt a b = a < b
Compared Ordering.eq a b = a ≡ b
Compared Ordering.gt a b = b < a

pub compared : (a b : ℕ) → Compared (compare a b) a b
compared a b = go (compare a b) (leb→le a b) (nleb→lt a b) (eqb→eq a b) (λ (e : a ≡ b). subst (λ (x : ℕ). T (eqb a x)) e (eqb_refl a))
  where
    go : (o : Ordering) → (T (is_le o) → a ≤ b) → (T (not (is_le o)) → b < a) → (T (compare_is_eq o) → a ≡ b) → (a ≡ b → T (compare_is_eq o)) → Compared o a b
    go Ordering.lt h k e n = lt_of_le-ne (h tt) n
    go Ordering.eq h k e n = e tt
    go Ordering.gt h k e n = k tt

only : (o p : Ordering) (a b : ℕ) → Compared o a b → Compared p a b → o ≡ p
only Ordering.lt Ordering.lt a b x y = refl
only Ordering.lt Ordering.eq a b x y = absurd (let z : ⊥ = omega arith in z)
only Ordering.lt Ordering.gt a b x y = absurd (let z : ⊥ = omega arith in z)
only Ordering.eq Ordering.lt a b x y = absurd (let z : ⊥ = omega arith in z)
only Ordering.eq Ordering.eq a b x y = refl
only Ordering.eq Ordering.gt a b x y = absurd (let z : ⊥ = omega arith in z)
only Ordering.gt Ordering.lt a b x y = absurd (let z : ⊥ = omega arith in z)
only Ordering.gt Ordering.eq a b x y = absurd (let z : ⊥ = omega arith in z)
only Ordering.gt Ordering.gt a b x y = refl

pub compare_is : (o : Ordering) (a b : ℕ) → Compared o a b → compare a b ≡ o
compare_is o a b x = only (compare a b) o a b (compared a b) x

scaled : (o : Ordering) (a b c : ℕ) → 0 < c → Compared o a b → Compared o (a * c) (b * c)
scaled Ordering.lt a b c h x = mul-lt-mul_of_pos_right x h
scaled Ordering.eq a b c h x = ap (λ (z : ℕ). z * c) x
scaled Ordering.gt a b c h x = mul-lt-mul_of_pos_right x h

pub compare_scaled : (a b c : ℕ) → 0 < c → compare (a * c) (b * c) ≡ compare a b
compare_scaled a b c h = compare_is (compare a b) (a * c) (b * c) (scaled (compare a b) a b c h (compared a b))
