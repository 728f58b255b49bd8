-- The last rounding: ± u gap / (w K) to the nearest f64 is off by at most one part in 2^53, stays within ±1 where that is at most 1 + 2^-53, and so is close to the sum that it stands for. Assumes nothing.
use Rattle.std.specs.Prelude.{◌≡◌, ◌⊎◌, Bool, ◌&&◌, ◌||◌, ℕ, ◌+◌, ◌-◌, ◌*◌, ◌^◌, ◌≤◌, ◌<◌, ℤ, pos, leb, ltb, Float}
use Rattle.std.proofs.Math.Path.{refl, ap, subst}
use Rattle.std.proofs.Common.{sym, ◌∙◌, inl, inr, zero-le, one-mul, eq-zero-or-pos, mul-add, add-mul, mul_assoc, mul_comm, mul_left_comm, zero-mul, mul-zero, mul-pos, mul-le-mul_right, mul-le-mul_left, le_trans, le_of_mul-le-mul_right, lt_of_le_of_lt, arith, leb→le, ltb→lt, nltb→le, eqb→eq, lit<, pow_pos}
use Rattle.std.proofs.Math.Bool.{true, false, not}
use Rattle.std.proofs.Math.Nat.{le_of_eq, le_of_mul-le-mul_left, le_of_lt}
use Rattle.std.proofs.Math.Dec.{T, eqb, nleb→lt}
use Rattle.std.specs.Float.{nan, inf, fin}
use Rattle.std.specs.Float.Ieee.{binary64, up, down, unlike, round, neg, lt, eq, le}
use Rattle.std.specs.Float.Ieee.Exact.{HasValue, round_exact}
use Rattle.std.specs.Float.Ieee.Order.{round_mono}
use Rattle.std.specs.Float.Ieee.Scale.{grid, normal_of_fraction}
use Rattle.laws.specs.laws.Exact.{round-neg}
use Rattle.laws.specs.laws.Rounding.{Near, grid_near, round-value}
use Rattle.bounds.specs.Fractions.{Fraction, Difference, ◌over◌, AtMost, with_sign, Within}
use Rattle.bounds.specs.Close.{distance_of, Close}
use Rattle.bounds.specs.laws.Held.{Held, close}

ruleset sorted = (mul-add, add-mul, mul_assoc, mul_comm, mul_left_comm)

-- r is finite, with the sign s, and its size is as Q says
abbrev Shows : (Fraction → Type 0) → Bool → Float → Type 0
Shows Q s nan = ⊥
Shows Q s (inf t) = ⊥
Shows Q s (fin t n g) = (t ≡ s) × Q (n * up g over down g)

-- ---- over numbers: R / E is the float
module _ (u w K gap d R E : ℕ) where
  exact-held : R * (w * K) ≡ u * gap * E → Held u (w * K) (gap - d) (gap + d) (R over E)
  exact-held e = record {
    low = (let x : (gap - d) * (u * E) ≤ gap * (u * E) = mul-le-mul_right (u * E) (less gap d) in omega arith);
    high = (let x : gap * (u * E) ≤ (gap + d) * (u * E) = mul-le-mul_right (u * E) (more gap d) in omega arith);
  }
    where
      less : (x y : ℕ) → x - y ≤ x
      less x y = omega arith

      more : (x y : ℕ) → x ≤ x + y
      more x y = omega arith

  -- G / L is what was rounded to, and off by one part in H
  module _ (G H L : ℕ) (hH : 0 < H) (hL : 0 < L) (e : R * L ≡ G * E) (hd : gap ≤ H * d) (n : Near (H * (G * (w * K))) (H * (u * gap * L)) (u * gap * L)) where
    same : R * L * (H * (w * K)) ≡ G * E * (H * (w * K))
    same = ap (λ (z : ℕ). z * (H * (w * K))) e

    part : gap * (u * L * E) ≤ H * d * (u * L * E)
    part = mul-le-mul_right (u * L * E) hd

    near-high : R * (w * K) ≤ (gap + d) * u * E
    near-high = le_of_mul-le-mul_right (go same (mul-le-mul_right E n.0) part) (mul-pos hH hL)
      where
        go : R * L * (H * (w * K)) ≡ G * E * (H * (w * K)) → H * (G * (w * K)) * E ≤ (H * (u * gap * L) + u * gap * L) * E → gap * (u * L * E) ≤ H * d * (u * L * E)
            → R * (w * K) * (H * L) ≤ (gap + d) * u * E * (H * L)
        go p q r = simp sorted (omega (arith, simp sorted at p, simp sorted at q, simp sorted at r))

    near-low : (lo : ℕ) → lo + d ≤ gap → lo * u * E ≤ R * (w * K)
    near-low lo h = le_of_mul-le-mul_right (go same (mul-le-mul_right E n.1) part (mul-le-mul_right (H * (u * L * E)) h)) (mul-pos hH hL)
      where
        go : R * L * (H * (w * K)) ≡ G * E * (H * (w * K)) → H * (u * gap * L) * E ≤ (H * (G * (w * K)) + u * gap * L) * E → gap * (u * L * E) ≤ H * d * (u * L * E)
            → (lo + d) * (H * (u * L * E)) ≤ gap * (H * (u * L * E)) → lo * u * E * (H * L) ≤ R * (w * K) * (H * L)
        go p q r s = simp sorted (omega (arith, simp sorted at p, simp sorted at q, simp sorted at r, simp sorted at s))

    near-held : Held u (w * K) (gap - d) (gap + d) (R over E)
    near-held = record { low = go (leb d gap) (leb→le d gap) (nleb→lt d gap); high = near-high }
      where
        go : (b : Bool) → (T b → d ≤ gap) → (T (not b) → gap < d) → (gap - d) * u * E ≤ R * (w * K)
        go true h k = near-low (gap - d) (let l : d ≤ gap = h tt in omega arith)
        go false h k = le_trans (le_of_eq (none (gap - d) (let l : gap < d = k tt in omega arith))) zero-le
          where
            none : (x : ℕ) → x ≡ 0 → x * u * E ≡ 0
            none x e = ap (λ (z : ℕ). z * u * E) e ∙ ap (λ (z : ℕ). z * E) (zero-mul u) ∙ zero-mul E

-- no overflow
fine : (G c a H L M : ℕ) → 0 < H → 0 < c → H * (G * c) ≤ H * (a * L) + a * L → a ≤ M * c → G ≤ 2 * M * L
fine G c a H L M hH hc n h =
    let x : a * L * 1 ≤ a * L * H = mul-le-mul_left (a * L) hH in
    let y : G * c ≤ 2 * (a * L) = le_of_mul-le-mul_left (go x n) hH in
    let z : a * L ≤ M * c * L = mul-le-mul_right L h in
    le_of_mul-le-mul_right (last y z) hc
  where
    go : a * L * 1 ≤ a * L * H → H * (G * c) ≤ H * (a * L) + a * L → H * (G * c) ≤ H * (2 * (a * L))
    go x n = omega arith

    last : G * c ≤ 2 * (a * L) → a * L ≤ M * c * L → G * c ≤ 2 * M * L * c
    last y z = omega arith

-- ---- the float
module _ (s : Bool) (u w K gap d : ℕ) (W : 0 < w * K) where
  from_exact : (r : Float) → HasValue r s (u * gap) (w * K) → Shows (Held u (w * K) (gap - d) (gap + d)) s r
  from_exact nan v = absurd v
  from_exact (inf t) v = absurd v
  from_exact (fin t n g) v = (v.0, exact-held u w K gap d (n * up g) (down g) v.1)

  from_near : (r : Float) (G : ℕ) → HasValue r s G (2 ^ 1074) → gap ≤ 2 ^ 53 * d → Near (2 ^ 53 * (G * (w * K))) (2 ^ 53 * (u * gap * 2 ^ 1074)) (u * gap * 2 ^ 1074)
      → Shows (Held u (w * K) (gap - d) (gap + d)) s r
  from_near nan G v h n = absurd v
  from_near (inf t) G v h n = absurd v
  from_near (fin t n g) G v h k = (v.0, near-held u w K gap d (n * up g) (down g) G (2 ^ 53) (2 ^ 1074) (pow_pos 53) (pow_pos 1074) v.1 h k)

  -- the value is at most 2^11, and in the normal range or held exactly
  shown : gap ≤ 2 ^ 53 * d → u * gap ≤ 2 ^ 11 * (w * K) → (2 ^ 52 * (w * K) ≤ u * gap * 2 ^ 1074) ⊎ HasValue (round binary64 s (u * gap) (w * K)) s (u * gap) (w * K)
      → Shows (Held u (w * K) (gap - d) (gap + d)) s (round binary64 s (u * gap) (w * K))
  shown h l (inr v) = from_exact (round binary64 s (u * gap) (w * K)) v
  shown h l (inl k) =
      let A = u * gap in
      let C = w * K in
      let n : Near (2 ^ 53 * (grid binary64 A C * C)) (2 ^ 53 * (A * 2 ^ 1074)) (A * 2 ^ 1074) = grid_near binary64 A C W (normal_of_fraction binary64 A C W k) in
      let f : grid binary64 A C ≤ 2 * 2 ^ 11 * 2 ^ 1074 = fine (grid binary64 A C) C A (2 ^ 53) (2 ^ 1074) (2 ^ 11) (pow_pos 53) W n.0 l in
      from_near (round binary64 s A C) (grid binary64 A C) (round-value binary64 s A C (lt_of_le_of_lt f (lit< tt))) h n

-- nothing is held exactly
zero-exact : (s : Bool) (u c : ℕ) → 0 < c → HasValue (round binary64 s (u * 0) c) s (u * 0) c
zero-exact s u c C = round_exact binary64 s (u * 0) c 0 0 C (lit< tt) (lit< tt) (none u (2 ^ 1074))
  where
    none : (u L : ℕ) → u * 0 * L ≡ 0 * 2 ^ 0 * c
    none u L = ap (λ (x : ℕ). x * L) (mul-zero u) ∙ zero-mul L ∙ sym (zero-mul c)

-- ---- what is at most 1 + 2^-53 rounds to 1 at most: the middle between 1 and the next f64 goes to 1, the even one
module _ (a c : ℕ) (C : 0 < c) (h : a * 2 ^ 53 ≤ (2 ^ 53 + 1) * c) where
  middle : round binary64 false (2 ^ 53 + 1) (2 ^ 53) ≡ fin false 1 (pos 0)
  unfolding round
  middle = refl

  below : T (le (round binary64 false a c) (fin false 1 (pos 0)))
  below = subst (λ (r : Float). T (le (round binary64 false a c) r)) middle (round_mono binary64 a c (2 ^ 53 + 1) (2 ^ 53) C (pow_pos 53) h)

  le-one : (n : ℕ) (g : ℤ) → T (le (fin false n g) (fin false 1 (pos 0))) → n * up g * 1 ≤ 1 * down g
  unfolding le lt eq
  le-one n g t = go (ltb (n * up g * 1) (1 * down g)) (eqb (n * up g * 1) (1 * down g)) (ltb→lt (n * up g * 1) (1 * down g)) (eqb→eq (n * up g * 1) (1 * down g)) t
    where
      go : (x y : Bool) → (T x → n * up g * 1 < 1 * down g) → (T y → n * up g * 1 ≡ 1 * down g) → T (x || (y && (true || eqb (n * up g * 1) 0))) → n * up g * 1 ≤ 1 * down g
      go true y f k t = le_of_lt (f tt)
      go false true f k t = le_of_eq (k tt)
      go false false f k t = absurd t

  -- of either sign
  size-le : (s : Bool) (Q : Fraction → Type 0) → Shows Q s (round binary64 s a c) → (t : Bool) (n : ℕ) (g : ℤ) → round binary64 s a c ≡ fin t n g → n * up g * 1 ≤ 1 * down g
  unfolding neg
  size-le false Q k t n g e =
      le-one n g (subst (λ (b : Bool). T (le (fin b n g) (fin false 1 (pos 0)))) (subst (Shows Q false) e k).0 (subst (λ (r : Float). T (le r (fin false 1 (pos 0)))) e below))
  size-le true Q k t n g e =
      let z : neg (fin t n g) ≡ round binary64 false a c = ap neg (sym e) ∙ ap neg (round-neg binary64 false a c) ∙ back (round binary64 false a c) in
      le-one n g
      (subst (λ (b : Bool). T (le (fin b n g) (fin false 1 (pos 0)))) (ap not (subst (Shows Q true) e k).0) (subst (λ (r : Float). T (le r (fin false 1 (pos 0)))) (sym z) below))
    where
      twice : (b : Bool) → not (not b) ≡ b
      twice true = refl
      twice false = refl

      back : (x : Float) → neg (neg x) ≡ x
      back nan = refl
      back (inf s) = ap inf (twice s)
      back (fin s m e) = ap (λ (b : Bool). fin b m e) (twice s)

-- a value not below 2^-112 or so is in the normal range
normal : (u w gap H K C L : ℕ) → w ≤ u * C → H * K * C ≤ L → 0 < gap → H * (w * K) ≤ u * gap * L
normal u w gap H K C L h k g =
    let a : H * K * w ≤ H * K * (u * C) = mul-le-mul_left (H * K) h in
    let b : u * (H * K * C) ≤ u * L = mul-le-mul_left u k in
    let c : u * L * 1 ≤ u * L * gap = mul-le-mul_left (u * L) g in
    simp sorted (omega (arith, simp sorted at a, simp sorted at b, simp sorted at c))

-- ---- what shows the difference of two sums is close to it
twice : (s b : Bool) → unlike s (unlike s b) ≡ b
twice true true = refl
twice true false = refl
twice false true = refl
twice false false = refl

-- A and B hold what the sum adds and what it takes away, and `value` is u / w times their difference, rounded once, with its sign turned where s is set
module _ (s : Bool) (u w K A B I J d : ℕ) (W : 0 < w * K) (sum : Difference) (a : Held u (w * K) A (A + I) sum.added) (b : Held u (w * K) B (B + J) sum.taken)
    (size : distance_of A B ≤ 2 ^ 53 * d) (most : u * distance_of A B ≤ 2 ^ 11 * (w * K)) where
  abbrev value : Float
  value = round binary64 (unlike s (ltb A B)) (u * distance_of A B) (w * K)

  -- in the normal range, or exact
  abbrev Ranges : Type 0
  Ranges = (2 ^ 52 * (w * K) ≤ u * distance_of A B * 2 ^ 1074) ⊎ HasValue value (unlike s (ltb A B)) (u * distance_of A B) (w * K)

  pub in_range : (C : ℕ) → w ≤ u * C → 2 ^ 52 * K * C ≤ 2 ^ 1074 → Ranges
  in_range C h k = go (eq-zero-or-pos (distance_of A B))
    where
      go : (distance_of A B ≡ 0) ⊎ (0 < distance_of A B) → Ranges
      go (inr z) = inl (normal u w (distance_of A B) (2 ^ 52) K C (2 ^ 1074) h k z)
      go (inl z) = inr (subst (λ (g : ℕ). HasValue (round binary64 (unlike s (ltb A B)) (u * g) (w * K)) (unlike s (ltb A B)) (u * g) (w * K)) (sym z) (zero-exact (unlike s (ltb A B)) u (w * K) W))

  module _ (range : Ranges) where
    shows : Shows (Held u (w * K) (distance_of A B - d) (distance_of A B + d)) (unlike s (ltb A B)) value
    shows = shown (unlike s (ltb A B)) u w K (distance_of A B) d W size most range

    pub closes : (k : ℕ) (e : Fraction) → Held u (w * K) k k e → I + d ≤ k → J + d ≤ k → Close e sum s value
    closes k e E i j = go value shows
      where
        go : (r : Float) → Shows (Held u (w * K) (distance_of A B - d) (distance_of A B + d)) (unlike s (ltb A B)) r → Close e sum s r
        go nan h = absurd h
        go (inf t) h = absurd h
        go (fin t n g) h =
            unfold Close in
            subst (λ (b : Bool). Within e sum (with_sign b (n * up g over down g))) (sym (ap (unlike s) h.0 ∙ twice s (ltb A B)))
            (close u (w * K) A B I J d k W e sum (n * up g over down g) E a b h.1 i j (ltb A B) (ltb→lt A B) (nltb→le A B))

    pub stays : u * distance_of A B * 2 ^ 53 ≤ (2 ^ 53 + 1) * (w * K) → (t : Bool) (n : ℕ) (g : ℤ) → value ≡ fin t n g → AtMost (n * up g over down g) (1 over 1)
    stays h = size-le (u * distance_of A B) (w * K) W h (unlike s (ltb A B)) (Held u (w * K) (distance_of A B - d) (distance_of A B + d)) shows

-- where u / w is 1 and no sign is turned
pub plainly : (K A B : ℕ) → round binary64 (unlike false (ltb A B)) (1 * distance_of A B) (1 * K) ≡ round binary64 (ltb A B) (distance_of A B) K
plainly K A B = (λ i. round binary64 (plain (ltb A B) i) (one-mul (distance_of A B) i) (one-mul K i))
  where
    plain : (b : Bool) → unlike false b ≡ b
    plain true = refl
    plain false = refl
