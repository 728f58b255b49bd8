-- `sum` of lib.Ieee, the rounded sum of two signed fractions: its terms exchanged, a term that is zero, another denominator. Assumes nothing.
use Rattle.std.specs.Prelude.{◌≡◌, refl, Bool, true, false, not, ◌&&◌, cond, ℕ, ◌+◌, ◌-◌, ◌*◌, ◌≤◌, ◌<◌, T, ltb}
use Rattle.std.proofs.Common.{sym, ap, ◌∙◌, le_of_eq, lt_of_le_of_lt, lt_of_lt_of_le, add_comm, mul_comm, mul-lt-mul_of_pos_right, lt_of_mul-lt-mul_right, add-mul, arith, ltb→lt, lt→ltb, nltb→le}
use Rattle.std.specs.Bool.{beq}
use Rattle.std.proofs.Math.Nat.{mul-sub}
use Rattle.std.proofs.Math.Arith.{le→nltb}
use Rattle.std.specs.Float.{Format}
use Rattle.std.specs.Float.Ieee.{round, sum}
use Rattle.std.specs.Float.Ieee.Bits.{is_true, is_false}
use Rattle.std.specs.Float.Ieee.Scale.{round_same}
use Rattle.laws.specs.laws.Flags.{some_diff}

-- ---- one sign, or two
pub sum_like : (f : Format) (s t : Bool) (a b c : ℕ) → beq s t ≡ true → round f s (a + b) c ≡ sum f s a t b c
unfolding sum
sum_like f s t a b c e = ap (λ (x : Bool). cond x (round f s (a + b) c) (cond (ltb a b) (round f t (b - a) c) (round f (s && ltb b a) (a - b) c))) (sym e)

pub sum_unlike : (f : Format) (s t : Bool) (a b c : ℕ) → beq s t ≡ false → b ≤ a → round f (s && ltb 0 (a - b)) (a - b) c ≡ sum f s a t b c
unfolding sum
sum_unlike f s t a b c e h =
    ap (λ (x : Bool). round f (s && x) (a - b) c) (some_diff a b h)
    ∙ (λ i. cond (sym e i) (round f s (a + b) c) (cond (sym (is_false (ltb a b) (le→nltb a b h)) i) (round f t (b - a) c) (round f (s && ltb b a) (a - b) c)))

-- ---- its terms exchanged
pub differ_comm : (s t : Bool) → beq s t ≡ false → beq t s ≡ false
differ_comm true true e = e
differ_comm true false e = e
differ_comm false true e = e
differ_comm false false e = e

swap : (f : Format) (a b c : ℕ) → cond (ltb a b) (round f false (b - a) c) (round f (ltb b a) (a - b) c) ≡ cond (ltb b a) (round f true (a - b) c) (round f false (b - a) c)
swap f a b c = go (ltb a b) (ltb b a) (ltb→lt a b) (ltb→lt b a) (nltb→le a b) (nltb→le b a)
  where
    go : (x y : Bool) → (T x → a < b) → (T y → b < a) → (T (not x) → b ≤ a) → (T (not y) → a ≤ b)
        → cond x (round f false (b - a) c) (round f y (a - b) c) ≡ cond y (round f true (a - b) c) (round f false (b - a) c)
    go true true g h i k = absurd (let u = g tt in let v = h tt in let z : ⊥ = omega arith in z)
    go true false g h i k = refl
    go false true g h i k = refl
    go false false g h i k = let u = i tt in let v = k tt in ap (λ (n : ℕ). round f false n c) (let z : a - b ≡ b - a = omega arith in z)

pub sum_comm : (f : Format) (s t : Bool) (a b c : ℕ) → sum f s a t b c ≡ sum f t b s a c
unfolding sum
sum_comm f true true a b c = ap (λ (x : ℕ). round f true x c) (add_comm a b)
sum_comm f false false a b c = ap (λ (x : ℕ). round f false x c) (add_comm a b)
sum_comm f true false a b c = swap f a b c
sum_comm f false true a b c = sym (swap f b a c)

-- ---- another denominator
pub ltb-same : (a b x y : ℕ) → (a < b → x < y) → (x < y → a < b) → ltb a b ≡ ltb x y
ltb-same a b x y g h = go (ltb x y) (ltb→lt x y) (nltb→le x y)
  where
    go : (q : Bool) → (T q → x < y) → (T (not q) → y ≤ x) → ltb a b ≡ q
    go true i k = is_true (ltb a b) (lt→ltb a b (h (i tt)))
    go false i k = is_false (ltb a b) (le→nltb a b (let u = k tt in let n : a < b → ⊥ = λ l. (let v = g l in let z : ⊥ = omega arith in z) in let w : b ≤ a = omega arith in w))

pub sum_same : (f : Format) (s t : Bool) (a b c A B D : ℕ) → 0 < c → 0 < D → a * D ≡ A * c → b * D ≡ B * c → sum f s A t B D ≡ sum f s a t b c
unfolding sum
sum_same f s t a b c A B D C E p q =
    (λ i. cond (beq s t) (same_sum i) (cond (test a b A B p q i) (same_diff i) (round f (s && test b a B A q p i) (A - B) D)))
    ∙ (λ i. cond (beq s t) (round f s (a + b) c) (cond (ltb a b) (round f t (b - a) c) (round_same f (s && ltb b a) (A - B) D (a - b) c E C (sym (subs a b A B p q)) i)))
  where
    subs : (a b A B : ℕ) → a * D ≡ A * c → b * D ≡ B * c → (a - b) * D ≡ (A - B) * c
    subs a b A B p q = mul_comm (a - b) D ∙ mul-sub D a b ∙ (λ i. (mul_comm D a ∙ p ∙ mul_comm A c) i - (mul_comm D b ∙ q ∙ mul_comm B c) i) ∙ sym (mul-sub c A B) ∙ mul_comm c (A - B)

    test : (a b A B : ℕ) → a * D ≡ A * c → b * D ≡ B * c → ltb A B ≡ ltb a b
    test a b A B p q = ltb-same A B a b
        (λ l. lt_of_mul-lt-mul_right D (lt_of_le_of_lt (le_of_eq p) (lt_of_lt_of_le (mul-lt-mul_of_pos_right l C) (le_of_eq (sym q)))))
        (λ l. lt_of_mul-lt-mul_right c (lt_of_le_of_lt (le_of_eq (sym p)) (lt_of_lt_of_le (mul-lt-mul_of_pos_right l E) (le_of_eq q))))

    same_sum : round f s (A + B) D ≡ round f s (a + b) c
    same_sum = round_same f s (A + B) D (a + b) c E C (sym (add-mul a b D ∙ (λ i. p i + q i) ∙ sym (add-mul A B c)))

    same_diff : round f t (B - A) D ≡ round f t (b - a) c
    same_diff = round_same f t (B - A) D (b - a) c E C (sym (subs b a B A q p))
