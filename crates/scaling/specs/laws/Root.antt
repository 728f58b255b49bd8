-- The root of 4^t times a number is 2^t times its root, bit for bit. Assumes nothing.
use Rattle.std.specs.Prelude.{◌≡◌, refl, Bool, true, false, T, Float}
use Rattle.std.proofs.Common.{sym, ap, ◌∙◌, subst, le_trans, le_of_eq, lt_of_lt_of_le, lt_of_le_of_lt, le_antisymm, mul_assoc, mul_left_comm, mul_right_comm, mul-le-mul_right, mul-lt-mul_of_pos_right, mul-pos, zero-mul, one-mul, le-div_iff_mul-le, div-lt_iff_lt-mul, lt_irrefl, zero-lt-suc, arith, lit≤, pow-add, pow_pos}
use Prim.Native.Nat.{ℕ, zero, suc, ◌+◌, ◌*◌, ◌/◌, ◌^◌, ◌≤◌, ◌<◌, compare, Ordering}
use Rattle.std.proofs.Math.Nat.{mul-mul-mul_comm, div-div-eq-div-mul}
use Rattle.std.specs.Float.{nan, inf, fin, binary64}
use Rattle.std.specs.Float.Ieee.{size, up, down, nearest, units}
use Rattle.std.specs.Float.Ieee.Digits.{size-le}
use Rattle.std.specs.Float.Ieee.Exact.{HasValue}
use Rattle.std.specs.Float.Ieee.Fits.{up_pos, down_pos}
use Rattle.std.specs.Float.Ieee.Positive.{positive_of_value}
use Rattle.std.specs.Float.Ieee.Scale.{finite}
use Rattle.laws.specs.laws.Compare.{compare_scaled}
use Rattle.laws.specs.laws.Digits.{size-cut, size-gt}
use Rattle.scaling.specs.laws.Operations.{Times, times-units}
use Rattle.root.specs.Root.{whole_root, round_root, root_of}
use Rattle.root.specs.laws.Meaning.{square-lt, whole_root_is, dropped, kept, round_root_is, root_at}

-- the whole root has t digits more, and with them cut off it is the root before
root_cut : (n t : ℕ) → whole_root (n * (2 ^ t * 2 ^ t)) / 2 ^ t ≡ whole_root n
root_cut n t =
    let r = whole_root n in
    let r' = whole_root (n * (2 ^ t * 2 ^ t)) in
    let P = 2 ^ t in
    let p : 0 < P = pow_pos t in
    let a = whole_root_is n in
    let b = whole_root_is (n * (P * P)) in
    let lo : r * P < r' + 1 = square-lt (r * P) (r' + 1) (lt_of_le_of_lt (le_trans (le_of_eq (mul-mul-mul_comm r P r P)) (mul-le-mul_right (P * P) a.0)) b.1) in
    let hi : r' < (r + 1) * P = square-lt r' ((r + 1) * P) (lt_of_le_of_lt b.0 (lt_of_lt_of_le (mul-lt-mul_of_pos_right a.1 (mul-pos p p)) (le_of_eq (sym (mul-mul-mul_comm (r + 1) P (r + 1) P))))) in
    le_antisymm (let z = (div-lt_iff_lt-mul p).1 hi in omega arith) ((le-div_iff_mul-le p).1 (let z : r * P ≤ r' = omega arith in z))

-- what is kept of a root whose first digits are q
abbrev at : ℕ → ℕ → ℕ → ℕ
at n q k = nearest q (compare (n * 4) ((2 * q + 1) * 2 ^ k * ((2 * q + 1) * 2 ^ k)))

-- so t more are dropped, and the same number is kept
root_scale : (n t : ℕ) → 53 ≤ size (whole_root n) → (dropped (n * (2 ^ t * 2 ^ t)) ≡ dropped n + t) × (kept (n * (2 ^ t * 2 ^ t)) ≡ kept n)
root_scale n t h = (more, same)
  where
    N : ℕ
    N = n * (2 ^ t * 2 ^ t)

    r : ℕ
    r = whole_root n

    some : 0 < r
    some = go r h
      where
        go : (r : ℕ) → 53 ≤ size r → 0 < r
        go zero h = let z = size-le 0 0 (pow_pos 0) in absurd (let y : ⊥ = omega arith in y)
        go (suc r) h = omega arith

    more : dropped N ≡ dropped n + t
    more = let e : size (whole_root N) ≡ size r + t = size-cut (whole_root N) r t (root_cut n t) some in omega (arith, h)

    q : whole_root N / 2 ^ (dropped n + t) ≡ r / 2 ^ dropped n
    q =
        ap (λ (z : ℕ). whole_root N / 2 ^ z) (let z : dropped n + t ≡ t + dropped n = omega arith in z)
        ∙ ap (λ (z : ℕ). whole_root N / z) (pow-add 2 t (dropped n)) ∙ sym (div-div-eq-div-mul (whole_root N) (2 ^ t) (2 ^ dropped n)) ∙ ap (λ (z : ℕ). z / 2 ^ dropped n) (root_cut n t)

    middles : (a P Q : ℕ) → a * (P * Q) * (a * (P * Q)) ≡ a * P * (a * P) * (Q * Q)
    middles a P Q = simp (mul_assoc, mul_left_comm)

    moved : (q k : ℕ) → at N q (k + t) ≡ at n q k
    moved q k =
        ap (λ (z : ℕ). nearest q (compare (N * 4) ((2 * q + 1) * z * ((2 * q + 1) * z)))) (pow-add 2 k t)
        ∙ (λ i. nearest q (compare (mul_right_comm n (2 ^ t * 2 ^ t) 4 i) (middles (2 * q + 1) (2 ^ k) (2 ^ t) i)))
        ∙ ap (λ (o : Ordering). nearest q o) (compare_scaled (n * 4) ((2 * q + 1) * 2 ^ k * ((2 * q + 1) * 2 ^ k)) (2 ^ t * 2 ^ t) (mul-pos (pow_pos t) (pow_pos t)))

    same : kept N ≡ kept n
    same = ap (λ (k : ℕ). at N (whole_root N / 2 ^ k) k) more ∙ ap (λ (q : ℕ). at N q (dropped n + t)) q ∙ moved (r / 2 ^ dropped n) (dropped n)

-- n squares of the smallest value have a root of 53 digits, if they are n' * 2^1074
root_long : (n : ℕ) → 0 < n → 53 ≤ size (whole_root (n * 2 ^ 1074))
root_long n h =
    size-gt (whole_root (n * 2 ^ 1074)) 52
    (let z : 2 ^ 52 < whole_root (n * 2 ^ 1074) + 1 = square-lt (2 ^ 52) (whole_root (n * 2 ^ 1074) + 1) (lt_of_le_of_lt (le_trans (le_trans (lit≤ tt) (le_of_eq (sym (one-mul (2 ^ 1074))))) (mul-le-mul_right (2 ^ 1074) h)) (whole_root_is (n * 2 ^ 1074)).1) in below (2 ^ 52) (whole_root (n * 2 ^ 1074)) z)
  where
    below : (a b : ℕ) → a < b + 1 → a ≤ b
    below a b h = omega arith

-- ---- the root of a float
quad : (i n n' : ℕ) → n * 2 ^ (i + i) ≡ n' → n * 2 ^ 1074 * (2 ^ i * 2 ^ i) ≡ n' * 2 ^ 1074
quad i n n' e = mul_right_comm n (2 ^ 1074) (2 ^ i * 2 ^ i) ∙ ap (λ (z : ℕ). n * z * 2 ^ 1074) (sym (pow-add 2 i i)) ∙ ap (λ (z : ℕ). z * 2 ^ 1074) e

root_ratio : (i j n n' : ℕ) → 0 < n → 0 < n' → n * 2 ^ (i + i) ≡ n' * 2 ^ (j + j)
    → kept (n * 2 ^ 1074) * 2 ^ dropped (n * 2 ^ 1074) * 2 ^ i ≡ kept (n' * 2 ^ 1074) * 2 ^ dropped (n' * 2 ^ 1074) * 2 ^ j
root_ratio i j n n' h h' e = side n i h ∙ ap (λ (z : ℕ). kept z * 2 ^ dropped z) (quad i n (n' * 2 ^ (j + j)) e ∙ sym (quad j n' (n' * 2 ^ (j + j)) refl)) ∙ sym (side n' j h')
  where
    side : (n i : ℕ) → 0 < n → kept (n * 2 ^ 1074) * 2 ^ dropped (n * 2 ^ 1074) * 2 ^ i ≡ kept (n * 2 ^ 1074 * (2 ^ i * 2 ^ i)) * 2 ^ dropped (n * 2 ^ 1074 * (2 ^ i * 2 ^ i))
    side n i h =
        let N = n * 2 ^ 1074 in
        let w = root_scale N i (root_long n h) in
        mul_assoc (kept N) (2 ^ dropped N) (2 ^ i) ∙ ap (λ (z : ℕ). kept N * z) (sym (pow-add 2 (dropped N) i)) ∙ (λ r. sym w.1 r * 2 ^ sym w.0 r)

no_root : (p d : ℕ) → 0 < p → p ≡ 0 * d → ⊥
no_root p d h e = lt_irrefl 0 (subst (λ (z : ℕ). 0 < z) (e ∙ zero-mul d) h)

-- zero is its own root
root_none : (x : Float) (s : Bool) → HasValue x s 0 (2 ^ 1074) → root_of x ≡ x
unfolding root_of
root_none nan s v = absurd v
root_none (inf t) s v = absurd v
root_none (fin t zero e) s v = refl
root_none (fin t (suc m) e) s v = absurd (no_root (suc m * up e * 2 ^ 1074) (down e) (mul-pos (mul-pos (zero-lt-suc m) (up_pos e)) (pow_pos 1074)) v.1)

-- a number below zero has none
root_some : (x : Float) (s : Bool) (n : ℕ) → HasValue x s n (2 ^ 1074) → 0 < n → T (finite (root_of x)) → root_of x ≡ round_root (n * 2 ^ 1074)
unfolding root_of
root_some nan s n v h k = absurd v
root_some (inf t) s n v h k = absurd v
root_some (fin true zero e) s n v h k = absurd (no_root (n * down e) (up e * 2 ^ 1074) (mul-pos h (down_pos e)) (sym v.1 ∙ mul_assoc 0 (up e) (2 ^ 1074)))
root_some (fin true (suc m) e) s n v h k = absurd k
root_some (fin false m e) s n v h k = root_at (fin false m e) false n (positive_of_value (fin false m e) n (2 ^ 1074) (refl, v.1) h) (refl, v.1)

pub times_root : {i j : ℕ} {x x' : Float} → Times (i + i) (j + j) x x' → T (finite (root_of x)) → T (finite (root_of x')) → Times i j (root_of x) (root_of x')
times_root {i} {j} {x} {x'} t h h' = go t.before t.after t.first t.second t.ratio
  where
    none : (n p d : ℕ) → n * 2 ^ p ≡ 0 * d → n ≡ 0
    none zero p d e = refl
    none (suc n) p d e = absurd (no_root (suc n * 2 ^ p) d (mul-pos (zero-lt-suc n) (pow_pos p)) e)

    go : (n n' : ℕ) → HasValue x t.sign n (2 ^ 1074) → HasValue x' t.sign n' (2 ^ 1074) → n * 2 ^ (i + i) ≡ n' * 2 ^ (j + j) → Times i j (root_of x) (root_of x')
    go zero n' v w e =
        let z : n' ≡ 0 = none n' (j + j) (2 ^ (i + i)) (sym e) in
        let w' : HasValue x' t.sign 0 (2 ^ 1074) = subst (λ (m : ℕ). HasValue x' t.sign m (2 ^ 1074)) z w in
        record {
          sign = t.sign;
          before = 0;
          after = 0;
          first = subst (λ (r : Float). HasValue r t.sign 0 (2 ^ 1074)) (sym (root_none x t.sign v)) v;
          second = subst (λ (r : Float). HasValue r t.sign 0 (2 ^ 1074)) (sym (root_none x' t.sign w')) w';
          ratio = zero-mul (2 ^ i) ∙ sym (zero-mul (2 ^ j));
        }
    go (suc n) zero v w e = absurd (no_root (suc n * 2 ^ (i + i)) (2 ^ (j + j)) (mul-pos (zero-lt-suc n) (pow_pos (i + i))) e)
    go (suc n) (suc n') v w e =
        let N = suc n * 2 ^ 1074 in
        let N' = suc n' * 2 ^ 1074 in
        let is : root_of x ≡ units binary64 false (kept N) (dropped N) = root_some x t.sign (suc n) v (zero-lt-suc n) h ∙ (round_root_is N).0 in
        let is' : root_of x' ≡ units binary64 false (kept N') (dropped N') = root_some x' t.sign (suc n') w (zero-lt-suc n') h' ∙ (round_root_is N').0 in
        subst (λ (r : Float). Times i j r (root_of x')) (sym is)
        (subst (λ (r : Float). Times i j (units binary64 false (kept N) (dropped N)) r) (sym is')
        (times-units false i j (kept N) (dropped N) (kept N') (dropped N') (subst (λ (r : Float). T (finite r)) is h) (subst (λ (r : Float). T (finite r)) is' h') (root_ratio i j (suc n) (suc n') (zero-lt-suc n) (zero-lt-suc n') e)))
