-- Fractions held between two multiples of a unit u / w, and what follows for sums, orders and bounds. Assumes nothing.
use Rattle.std.specs.Prelude.{◌≡◌, Bool, true, false, not, ℕ, ◌+◌, ◌-◌, ◌*◌, ◌≤◌, ◌<◌, T}
use Rattle.std.proofs.Common.{ap, mul-add, add-mul, mul_assoc, mul_comm, mul_left_comm, mul-le-mul_right, mul-le-mul_left, le_of_mul-le-mul_right, le_trans, arith}
use Rattle.bounds.specs.Fractions.{Fraction, Difference, ◌over◌, ◌⊞◌, times, AtMost, with_sign, Within}
use Rattle.bounds.specs.Close.{distance_of}

ruleset sorted = (mul-add, add-mul, mul_assoc, mul_comm, mul_left_comm)

-- lo * u / w ≤ x ≤ hi * u / w
pub record Held (u w lo hi : ℕ) (x : Fraction) : Type 0 where
  pub low : lo * u * x.den ≤ x.num * w
  pub high : x.num * w ≤ hi * u * x.den

pub wider : (u w lo hi lo' hi' : ℕ) (x : Fraction) → lo' ≤ lo → hi ≤ hi' → Held u w lo hi x → Held u w lo' hi' x
wider u w lo hi lo' hi' x l h a = record {
  low = le_trans (mul-le-mul_right x.den (mul-le-mul_right u l)) a.low;
  high = le_trans a.high (mul-le-mul_right x.den (mul-le-mul_right u h));
}

pub none-held : (u w : ℕ) → Held u w 0 0 (0 over 1)
none-held u w = record { low = (omega arith); high = (omega arith) }

pub sum-held : (u w l h l' h' : ℕ) (x y : Fraction) → Held u w l h x → Held u w l' h' y → Held u w (l + l') (h + h') (x ⊞ y)
sum-held u w l h l' h' x y a b = record {
  low =
      (let p : l * u * x.den * y.den ≤ x.num * w * y.den = mul-le-mul_right y.den a.low in
      let q : l' * u * y.den * x.den ≤ y.num * w * x.den = mul-le-mul_right x.den b.low in
      omega arith);
  high =
      (let p : x.num * w * y.den ≤ h * u * x.den * y.den = mul-le-mul_right y.den a.high in
      let q : y.num * w * x.den ≤ h' * u * y.den * x.den = mul-le-mul_right x.den b.high in
      omega arith);
}

pub times-held : (u w k l h : ℕ) (x : Fraction) → Held u w l h x → Held u w (k * l) (k * h) (times k x)
times-held u w k l h x a = record {
  low = (let p : k * (l * u * x.den) ≤ k * (x.num * w) = mul-le-mul_left k a.low in omega arith);
  high = (let p : k * (x.num * w) ≤ k * (h * u * x.den) = mul-le-mul_left k a.high in omega arith);
}

pub in_order : (u w l h l' h' : ℕ) (x y : Fraction) → 0 < w → Held u w l h x → Held u w l' h' y → h ≤ l' → AtMost x y
in_order u w l h l' h' x y W a b k =
    let p : x.num * w * y.den ≤ h * u * x.den * y.den = mul-le-mul_right y.den a.high in
    let q : h * (u * x.den * y.den) ≤ l' * (u * x.den * y.den) = mul-le-mul_right (u * x.den * y.den) k in
    let r : l' * u * y.den * x.den ≤ y.num * w * x.den = mul-le-mul_right x.den b.low in
    le_of_mul-le-mul_right (go x.num x.den y.num y.den p q r) W
  where
    go : (n d n' d' : ℕ) → n * w * d' ≤ h * u * d * d' → h * (u * d * d') ≤ l' * (u * d * d') → l' * u * d' * d ≤ n' * w * d → n * d' * w ≤ n' * d * w
    go n d n' d' p q r = omega arith

-- x is N / D
abbrev pub Is : Fraction → ℕ → ℕ → Type 0
Is x N D = x.num * D ≡ N * x.den

-- A / P ≤ N / D ≤ B / P brackets u / w * N / D
pub carry : (P : ℕ) (x : Fraction) (u w A B N D : ℕ) → 0 < D → Is x (u * N) (w * D) → A * D ≤ P * N → P * N ≤ B * D → Held u (w * P) A B x
carry P x u w A B N D hD e l h = record {
  low = le_of_mul-le-mul_right (go_low x.num x.den e' (mul-le-mul_right (u * x.den) l)) hD;
  high = le_of_mul-le-mul_right (go_high x.num x.den e' (mul-le-mul_right (u * x.den) h)) hD;
}
  where
    e' : P * (x.num * (w * D)) ≡ P * (u * N * x.den)
    e' = ap (λ (z : ℕ). P * z) e

    go_low : (n d : ℕ) → P * (n * (w * D)) ≡ P * (u * N * d) → A * D * (u * d) ≤ P * N * (u * d) → A * u * d * D ≤ n * (w * P) * D
    go_low n d e l = simp sorted (omega (arith, simp sorted at e, simp sorted at l))

    go_high : (n d : ℕ) → P * (n * (w * D)) ≡ P * (u * N * d) → P * N * (u * d) ≤ B * D * (u * d) → n * (w * P) * D ≤ B * u * d * D
    go_high n d e l = simp sorted (omega (arith, simp sorted at e, simp sorted at l))

-- twice as much, in units twice as large
pub twice_held : (u w l h : ℕ) (x : Fraction) → Held u (2 * w) l h x → Held u w l h (times 2 x)
twice_held u w l h x a = record { low = (let p = a.low in omega arith); high = (let p = a.high in omega arith) }

-- ---- the closing that all three functions share
-- A sum adds A to A + I units and takes B to B + J away, r holds |A - B| units, off by at most d, and e is k units: the sum is within e of r with the sign of A - B.
module _ (u w A B I J d k : ℕ) (W : 0 < w) (e : Fraction) (sum : Difference) (r : Fraction) (E : Held u w k k e)
    (a : Held u w A (A + I) sum.added) (b : Held u w B (B + J) sum.taken) (R : Held u w (distance_of A B - d) (distance_of A B + d) r) (i : I + d ≤ k) (j : J + d ≤ k) where
  pub close : (t : Bool) → (T t → A < B) → (T (not t) → B ≤ A) → Within e sum (with_sign t r)
  close true h g =
      let l : A < B = h tt in (
        in_order u w (A + (distance_of A B - d)) (A + I + (distance_of A B + d)) (0 + B + k) (0 + (B + J) + k) (sum.added ⊞ r) ((0 over 1) ⊞ sum.taken ⊞ e) W
            (sum-held u w A (A + I) (distance_of A B - d) (distance_of A B + d) sum.added r a R)
            (sum-held u w (0 + B) (0 + (B + J)) k k ((0 over 1) ⊞ sum.taken) e (sum-held u w 0 0 B (B + J) (0 over 1) sum.taken (none-held u w) b) E) (omega arith),
        in_order u w (0 + B) (0 + (B + J)) (A + (distance_of A B - d) + k) (A + I + (distance_of A B + d) + k) ((0 over 1) ⊞ sum.taken) (sum.added ⊞ r ⊞ e) W
            (sum-held u w 0 0 B (B + J) (0 over 1) sum.taken (none-held u w) b)
            (sum-held u w (A + (distance_of A B - d)) (A + I + (distance_of A B + d)) k k (sum.added ⊞ r) e (sum-held u w A (A + I) (distance_of A B - d) (distance_of A B + d) sum.added r a R) E) (omega arith),
      )
  close false h g =
      let l : B ≤ A = g tt in (
        in_order u w (A + 0) (A + I + 0) (distance_of A B - d + B + k) (distance_of A B + d + (B + J) + k) (sum.added ⊞ (0 over 1)) (r ⊞ sum.taken ⊞ e) W
            (sum-held u w A (A + I) 0 0 sum.added (0 over 1) a (none-held u w))
            (sum-held u w (distance_of A B - d + B) (distance_of A B + d + (B + J)) k k (r ⊞ sum.taken) e (sum-held u w (distance_of A B - d) (distance_of A B + d) B (B + J) r sum.taken R b) E) (omega arith),
        in_order u w (distance_of A B - d + B) (distance_of A B + d + (B + J)) (A + 0 + k) (A + I + 0 + k) (r ⊞ sum.taken) (sum.added ⊞ (0 over 1) ⊞ e) W
            (sum-held u w (distance_of A B - d) (distance_of A B + d) B (B + J) r sum.taken R b)
            (sum-held u w (A + 0) (A + I + 0) k k (sum.added ⊞ (0 over 1)) e (sum-held u w A (A + I) 0 0 sum.added (0 over 1) a (none-held u w)) E) (omega arith),
      )
