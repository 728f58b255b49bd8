-- sin² + cos² of the two sums, as far as they go, is at most 1 + 2^-60 for |x| ≤ 4, so neither exceeds that.
-- Both squares are polynomials in t = x² = a / b over one denominator. Those of their coefficients that do not cancel are computed, and are tiny. Assumes nothing.
use mathlib.Core.Path.{◌≡◌, refl, sym, ap, ap₂, ◌∙◌, subst}
use mathlib.Core.Bool.{Bool, true, false, not}
use mathlib.Core.List.{List, [], ◌∷◌}
use Prim.Native.Nat.{ℕ, zero, suc, ◌+◌, ◌-◌, ◌*◌, ◌^◌, ◌≤◌, ◌<◌, zero-le}
use native.Mathlib.Nat.{le_refl, le_trans, le_of_eq, mul-le-mul, mul-le-mul_left, mul-le-mul_right, le_of_mul-le-mul_left, mul-add, add-mul, mul_assoc, mul_comm, mul_left_comm, mul-pos, zero-lt-suc, pow-suc, pow-zero, one-mul, suc-le-suc_iff}
use native.Mathlib.Omega.{arith}
use lib.Dec.{T, leb, leb→le, nleb→lt, lit≤}
use lib.ListN.{length}
use lib.Pow.{pow-add}
use Rattle.bounds.specs.Close.{distance_of}
use Rattle.angle.proofs.Taylor.{two, whole, exact}
use Rattle.angle.proofs.Polynomials.{add, scale, mul, beyond, value, at, at-add, at-scale, at_raise, at_mul, at-beyond, at_most}

ruleset sorted = (mul-add, add-mul, mul_assoc, mul_comm, mul_left_comm)

-- ---- the nested sums as polynomials
unfoldable divisors : ℕ → ℕ → ℕ
divisors n zero = 1
divisors n (suc k) = two n * divisors (n + 2) k

pub record Both : Type 0 where
  pub added : List ℕ
  pub taken : List ℕ

unfoldable both : ℕ → ℕ → Both
both n zero = record { added = 1 ∷ []; taken = [] }
both n (suc k) =
    let rest = both (n + 2) k in
    record { added = divisors n (suc k) ∷ rest.taken; taken = 0 ∷ rest.added }

whole_is : (b n k : ℕ) → whole b n k ≡ divisors n k * b ^ k
unfolding whole divisors
whole_is b n zero = sym (one-mul (b ^ 0) ∙ pow-zero b)
whole_is b n (suc k) =
    ap (λ (z : ℕ). two n * b * z) (whole_is b (n + 2) k) ∙ go (two n) (divisors (n + 2) k) (b ^ k) ∙ ap (λ (z : ℕ). two n * divisors (n + 2) k * z) (sym (pow-suc b k))
  where
    go : (d e w : ℕ) → d * b * (e * w) ≡ d * e * (w * b)
    go d e w = simp (mul_assoc, mul_comm, mul_left_comm)

lengths : (n k : ℕ) → (length (both n k).added ≤ suc k) × (length (both n k).taken ≤ suc k)
unfolding both
lengths n zero = (le_refl 1, zero-le)
lengths n (suc k) = (suc-le-suc_iff.1 (lengths (n + 2) k).1, suc-le-suc_iff.1 (lengths (n + 2) k).0)

module _ (a b : ℕ) where
  at_both : (n k : ℕ) → ((exact a b n k).added ≡ at a b (both n k).added k) × ((exact a b n k).taken ≡ at a b (both n k).taken k)
  unfolding exact both at
  at_both n zero = (refl, refl)
  at_both n (suc k) =
      let h = at_both (n + 2) k in
      (ap₂ (λ (y z : ℕ). y + a * z) (whole_is b n (suc k)) h.1, ap (λ (z : ℕ). a * z) h.0 ∙ sym (none (b ^ suc k) (a * at a b (both (n + 2) k).added k)))
    where
      none : (w z : ℕ) → 0 * w + z ≡ z
      none w z = omega arith

-- ---- the squares, and twice the mixed products: 42² t (added² + taken²) of sine, whose denominator lacks 42, and that of cosine
abbrev s : Both
s = both 1 20

abbrev c : Both
c = both 0 21

squares : List ℕ
squares = add (scale 1764 (0 ∷ add (mul s.added s.added) (mul s.taken s.taken))) (add (mul c.added c.added) (mul c.taken c.taken))

mixed : List ℕ
mixed = add (scale 3528 (0 ∷ mul s.added s.taken)) (scale 2 (mul c.added c.taken))

squares_length : length (add (mul s.added s.added) (mul s.taken s.taken)) ≤ 41
unfolding both mul
squares_length = lit≤ tt

mixed_length : length (mul s.added s.taken) ≤ 41
unfolding both mul
mixed_length = lit≤ tt

forty_two : divisors 0 21 ≡ 42 * divisors 1 20
unfolding divisors
forty_two = refl

-- what is left, at t = 16
tiny : 2 ^ 60 * value 16 (beyond squares mixed) ≤ (2 ^ 60 + 1) * (divisors 0 21 * divisors 0 21)
unfolding squares mixed both divisors mul beyond value
tiny = lit≤ tt

-- ---- the same in numbers
apart-square : (u v : ℕ) → u * u + v * v ≡ 2 * (u * v) + distance_of u v * distance_of u v
apart-square u v = go (leb u v) (leb→le u v) (nleb→lt u v)
  where
    up : (u d : ℕ) → u * u + (u + d) * (u + d) ≡ 2 * (u * (u + d)) + d * d
    up u d = omega arith

    left : (u v : ℕ) → u ≤ v → (d : ℕ) → v ≡ u + d → distance_of u v ≡ d
    left u v h d e = omega arith

    right : (u v : ℕ) → v ≤ u → (d : ℕ) → u ≡ v + d → distance_of u v ≡ d
    right u v h d e = omega arith

    more : (u v : ℕ) → u ≤ v → v ≡ u + (v - u)
    more u v h = omega arith

    go : (x : Bool) → (T x → u ≤ v) → (T (not x) → v < u) → u * u + v * v ≡ 2 * (u * v) + distance_of u v * distance_of u v
    go true h k =
        let d = v - u in
        let e = more u v (h tt) in
        subst (λ (y : ℕ). u * u + y * y ≡ 2 * (u * y) + distance_of u v * distance_of u v) (sym e)
        (subst (λ (y : ℕ). u * u + (u + d) * (u + d) ≡ 2 * (u * (u + d)) + y * y) (sym (left u v (h tt) d e)) (up u d))
    go false h k =
        let d = u - v in
        let l : v ≤ u = (let m = k tt in omega arith) in
        let e = more v u l in
        subst (λ (y : ℕ). y * y + v * v ≡ 2 * (y * v) + distance_of u v * distance_of u v) (sym e)
        (subst (λ (y : ℕ). (v + d) * (v + d) + v * v ≡ 2 * ((v + d) * v) + y * y) (sym (right u v l d e)) (swap v d (up v d)))
      where
        swap : (x d : ℕ) → x * x + (x + d) * (x + d) ≡ 2 * (x * (x + d)) + d * d → (x + d) * (x + d) + x * x ≡ 2 * ((x + d) * x) + d * d
        swap x d h = omega arith

square_back : (x y : ℕ) → x * x ≤ y * y → x ≤ y
square_back x y h = go (leb x y) (leb→le x y) (nleb→lt x y)
  where
    go : (b : Bool) → (T b → x ≤ y) → (T (not b) → y < x) → x ≤ y
    go true p q = p tt
    go false p q = let k : suc y * suc y ≤ x * x = mul-le-mul (q tt) (q tt) in omega arith

-- P z² ≤ (P + 1) D², so P z ≤ (P + 1) D
root_le : (P z D : ℕ) → P * (z * z) ≤ (P + 1) * (D * D) → P * z ≤ (P + 1) * D
root_le P z D h =
    let x : P * (P * (z * z)) ≤ P * ((P + 1) * (D * D)) = mul-le-mul_left P h in
    let y : P * ((P + 1) * (D * D)) ≤ (P + 1) * ((P + 1) * (D * D)) = mul-le-mul_right ((P + 1) * (D * D)) (more P) in
    square_back (P * z) ((P + 1) * D) (go (P + 1) x y)
  where
    more : (P : ℕ) → P ≤ P + 1
    more P = omega arith

    go : (Q : ℕ) → P * (P * (z * z)) ≤ P * (Q * (D * D)) → P * (Q * (D * D)) ≤ Q * (Q * (D * D)) → P * z * (P * z) ≤ Q * D * (Q * D)
    go Q x y = simp sorted (omega (arith, simp sorted at x, simp sorted at y))

module _ (a b : ℕ) (h : a ≤ 16 * b) where
  us : ℕ
  us = at a b s.added 20

  vs : ℕ
  vs = at a b s.taken 20

  uc : ℕ
  uc = at a b c.added 21

  vc : ℕ
  vc = at a b c.taken 21

  lead : (F : List ℕ) → length F ≤ 41 → at a b (0 ∷ F) 42 ≡ a * (b * at a b F 40)
  unfolding at
  lead F l = none (b ^ 42) (a * at a b F 41) ∙ ap (λ (z : ℕ). a * z) (at_raise a b F 40 l)
    where
      none : (w z : ℕ) → 0 * w + z ≡ z
      none w z = omega arith

  squares_at : at a b squares 42 ≡ 1764 * (a * (b * (us * us + vs * vs))) + (uc * uc + vc * vc)
  unfolding squares us vs uc vc
  squares_at =
      let ls = lengths 1 20 in
      let lc = lengths 0 21 in
      let A = mul s.added s.added in
      let B = mul s.taken s.taken in
      let C = mul c.added c.added in
      let D = mul c.taken c.taken in
      at-add a b (scale 1764 (0 ∷ add A B)) (add C D) 42
      ∙ ap₂ (λ (x y : ℕ). x + y)
      (at-scale a b 1764 (0 ∷ add A B) 42 ∙ ap (λ (x : ℕ). 1764 * x) (lead (add A B) squares_length
      ∙ ap (λ (x : ℕ). a * (b * x)) (at-add a b A B 40 ∙ ap₂ (λ (x y : ℕ). x + y) (at_mul a b s.added s.added 20 20 ls.0 ls.0) (at_mul a b s.taken s.taken 20 20 ls.1 ls.1))))
      (at-add a b C D 42 ∙ ap₂ (λ (x y : ℕ). x + y) (at_mul a b c.added c.added 21 21 lc.0 lc.0) (at_mul a b c.taken c.taken 21 21 lc.1 lc.1))

  mixed_at : at a b mixed 42 ≡ 3528 * (a * (b * (us * vs))) + 2 * (uc * vc)
  unfolding mixed us vs uc vc
  mixed_at =
      let ls = lengths 1 20 in
      let lc = lengths 0 21 in
      at-add a b (scale 3528 (0 ∷ mul s.added s.taken)) (scale 2 (mul c.added c.taken)) 42
      ∙ ap₂ (λ (x y : ℕ). x + y)
      (at-scale a b 3528 (0 ∷ mul s.added s.taken) 42 ∙ ap (λ (x : ℕ). 3528 * x) (lead (mul s.added s.taken) mixed_length ∙ ap (λ (x : ℕ). a * (b * x)) (at_mul a b s.added s.taken 20 20 ls.0 ls.1)))
      (at-scale a b 2 (mul c.added c.taken) 42 ∙ ap (λ (x : ℕ). 2 * x) (at_mul a b c.added c.taken 21 21 lc.0 lc.1))

  -- 42² t (us - vs)² + (uc - vc)² is what is left
  circle : 1764 * (a * b) * (distance_of us vs * distance_of us vs) + distance_of uc vc * distance_of uc vc ≤ value 16 (beyond squares mixed) * b ^ 42
  circle =
      let x = at-beyond a b squares mixed 42 in
      let y = at_most a b 16 h (beyond squares mixed) 42 in
      go us vs uc vc (distance_of us vs) (distance_of uc vc) (at a b squares 42) (at a b mixed 42) (at a b (beyond squares mixed) 42) (value 16 (beyond squares mixed) * b ^ 42)
      (a * b) (squares_at ∙ again us vs uc vc) (mixed_at ∙ again' us vs uc vc) (apart-square us vs) (apart-square uc vc) x y
    where
      again : (u v x y : ℕ) → 1764 * (a * (b * (u * u + v * v))) + (x * x + y * y) ≡ 1764 * (a * b) * (u * u + v * v) + (x * x + y * y)
      again u v x y = ap (λ (z : ℕ). z + (x * x + y * y)) (ap (λ (z : ℕ). 1764 * z) (sym (mul_assoc a b (u * u + v * v))) ∙ sym (mul_assoc 1764 (a * b) (u * u + v * v)))

      again' : (u v x y : ℕ) → 3528 * (a * (b * (u * v))) + 2 * (x * y) ≡ 1764 * (a * b) * (2 * (u * v)) + 2 * (x * y)
      again' u v x y = simp sorted (omega arith)

      go : (u v x y d e A B R L w : ℕ) → A ≡ 1764 * w * (u * u + v * v) + (x * x + y * y) → B ≡ 1764 * w * (2 * (u * v)) + 2 * (x * y)
          → u * u + v * v ≡ 2 * (u * v) + d * d → x * x + y * y ≡ 2 * (x * y) + e * e → A ≤ B + R → R ≤ L → 1764 * w * (d * d) + e * e ≤ L
      go u v x y d e A B R L w p q f g l k =
          let f' : 1764 * w * (u * u + v * v) ≡ 1764 * w * (2 * (u * v) + d * d) = ap (λ (z : ℕ). 1764 * w * z) f in
          omega arith

  whole-square : 2 ^ 60 * (value 16 (beyond squares mixed) * b ^ 42) ≤ (2 ^ 60 + 1) * (whole b 0 21 * whole b 0 21)
  whole-square =
      le_trans (le_of_eq (sym (mul_assoc (2 ^ 60) (value 16 (beyond squares mixed)) (b ^ 42))))
      (le_trans (mul-le-mul_right (b ^ 42) tiny) (le_of_eq (ap (λ (z : ℕ). (2 ^ 60 + 1) * (divisors 0 21 * divisors 0 21) * z) (pow-add b 21 21)
      ∙ regroup (2 ^ 60 + 1) (divisors 0 21) (b ^ 21) ∙ ap (λ (z : ℕ). (2 ^ 60 + 1) * (z * z)) (sym (whole_is b 0 21)))))
    where
      regroup : (k d w : ℕ) → k * (d * d) * (w * w) ≡ k * (d * w * (d * w))
      regroup k d w = simp (mul_assoc, mul_comm, mul_left_comm)

  pub cosine_unit : 2 ^ 60 * distance_of (exact a b 0 21).added (exact a b 0 21).taken ≤ (2 ^ 60 + 1) * whole b 0 21
  unfolding uc vc
  cosine_unit =
      subst (λ (z : ℕ). 2 ^ 60 * z ≤ (2 ^ 60 + 1) * whole b 0 21) (ap₂ distance_of (sym (at_both a b 0 21).0) (sym (at_both a b 0 21).1))
      (root_le (2 ^ 60) (distance_of uc vc) (whole b 0 21) (le_trans (mul-le-mul_left (2 ^ 60) (le_trans (part (1764 * (a * b) * (distance_of us vs * distance_of us vs)) (distance_of uc vc * distance_of uc vc)) circle)) whole-square))
    where
      part : (x y : ℕ) → y ≤ x + y
      part x y = omega arith

-- of x = p / q
pub sixteen : (p q : ℕ) → p ≤ 4 * q → p * p ≤ 16 * (q * q)
sixteen p q h = let k : p * p ≤ 4 * q * (4 * q) = mul-le-mul h h in omega arith

pub sine_unit : (p q : ℕ) → 0 < q → p ≤ 4 * q → 2 ^ 60 * (p * distance_of (exact (p * p) (q * q) 1 20).added (exact (p * p) (q * q) 1 20).taken) ≤ (2 ^ 60 + 1) * (q * whole (q * q) 1 20)
unfolding us vs
sine_unit p q hq hp =
    let a = p * p in
    let b = q * q in
    let h : a ≤ 16 * b = sixteen p q hp in
    let y = distance_of (us a b h) (vs a b h) in
    let z = distance_of (uc a b h) (vc a b h) in
    let x : 2 ^ 60 * (1764 * (a * b) * (y * y)) ≤ (2 ^ 60 + 1) * (whole b 0 21 * whole b 0 21) =
    le_trans (mul-le-mul_left (2 ^ 60) (le_trans (part (1764 * (a * b) * (y * y)) (z * z)) (circle a b h))) (whole-square a b h) in
    let e : whole b 0 21 ≡ 42 * (b * whole b 1 20) = whole_is b 0 21 ∙ ap (λ (z : ℕ). divisors 0 21 * z) (pow-suc b 20) ∙ same (divisors 0 21) (divisors 1 20) (b ^ 20) forty_two ∙ ap (λ (z : ℕ). 42 * (b * z)) (sym (whole_is b 1 20)) in
    subst (λ (z : ℕ). 2 ^ 60 * (p * z) ≤ (2 ^ 60 + 1) * (q * whole b 1 20)) (ap₂ distance_of (sym (at_both a b 1 20).0) (sym (at_both a b 1 20).1))
    (root_le (2 ^ 60) (p * y) (q * whole b 1 20) (cancel (2 ^ 60) (2 ^ 60 + 1) y (whole b 1 20) (subst (λ (w : ℕ). 2 ^ 60 * (1764 * (a * b) * (y * y)) ≤ (2 ^ 60 + 1) * (w * w)) e x)))
  where
    part : (x y : ℕ) → x ≤ x + y
    part x y = omega arith

    same : (d e w : ℕ) → d ≡ 42 * e → d * (w * (q * q)) ≡ 42 * (q * q * (e * w))
    same d e w h = ap (λ (z : ℕ). z * (w * (q * q))) h ∙ simp (mul_assoc, mul_comm, mul_left_comm)

    cancel : (P Q y D : ℕ) → P * (1764 * (p * p * (q * q)) * (y * y)) ≤ Q * (42 * (q * q * D) * (42 * (q * q * D))) → P * (p * y * (p * y)) ≤ Q * (q * D * (q * D))
    cancel P Q y D h = le_of_mul-le-mul_left (go h) (mul-pos (zero-lt-suc 1763) (mul-pos hq hq))
      where
        go : P * (1764 * (p * p * (q * q)) * (y * y)) ≤ Q * (42 * (q * q * D) * (42 * (q * q * D))) → 1764 * (q * q) * (P * (p * y * (p * y))) ≤ 1764 * (q * q) * (Q * (q * D * (q * D)))
        go h = simp sorted (omega (arith, simp sorted at h))
