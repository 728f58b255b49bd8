-- RD of arguments up to 2^514: every state of a run keeps that bound, so no divisor is infinite and no term of a round is below 2^-960. Assumes nothing.
use Rattle.std.specs.Prelude.{◌≡◌, refl, Bool, true, false, not, cond, ℕ, zero, suc, ◌+◌, ◌-◌, ◌*◌, ◌^◌, ◌≤◌, ◌<◌, ℤ, T, ltb, Float}
use Rattle.std.proofs.Common.{sym, ap, ◌∙◌, subst, true≢false, le_trans, le_of_eq, lt_of_le_of_lt, one-mul, mul-one, mul-pos, mul-le-mul, mul-le-mul_left, mul-le-mul_right, arith, leb→le, ltb→lt, nltb→le, lit≤, lit<, pow-add, pow_pos, pow_mono}
use Rattle.std.proofs.Math.Dec.{eqb-suc-zero}
use Rattle.std.proofs.Math.Arith.{le→nltb}
use Rattle.std.specs.Float.{nan, inf, fin, binary64}
use Rattle.std.specs.Float.Ieee.{up, down, round, fits, of_bits, sub, div, neg, lt}
use Rattle.std.specs.Float.Ieee.Bits.{is_false}
use Rattle.std.specs.Float.Ieee.Exact.{HasValue}
use Rattle.std.specs.Float.Ieee.Fits.{down_pos, round_is}
use Rattle.std.specs.Float.Ieee.Order.{drop, kept}
use Rattle.std.specs.Float.Ieee.Scale.{finite, grid, overflow}
use Rattle.laws.specs.Arithmetic.{◌⊕◌, ◌⊖◌, ◌⊗◌, ◌⊘◌, ◌<·◌, +0, 3·0, 4·0, 5·0}
use Rattle.laws.specs.laws.Bounds.{Small, Within, positive, within-div}
use Rattle.laws.specs.laws.Operations.{mul_is, div_is, add_is}
use Rattle.laws.specs.laws.Rounding.{round-value, units_over}
use Rattle.laws.specs.laws.Sizes.{finite_of_lem, grid_mono, grid_least}
use Rattle.root.specs.Root.{root_of}
use Rattle.legendre.specs.laws.Beneath.{within_root}
use Rattle.carlson.specs.Series.{least}
use Rattle.rf.specs.Rf.{roots_of, spread_of}
use Rattle.carlson.specs.laws.Counts.{after}
use Rattle.rd.specs.declared.State.{State}
use Rattle.rd.specs.Rd.{start_of, next_of, round_of}
use Rattle.incomplete.specs.Scaling.{large_of}
use Rattle.scaling.specs.Before.{sin_of, cos_of, C, C1, Given}
use Rattle.scaling.specs.RdClear.{weight_of}
use Rattle.scaling.specs.RdTerms.{bounded, NoneLost, KeepsTerms, NoTermLost}
use Rattle.scaling.specs.laws.Operations.{grid_exact, lt-units, zero-units, some_units}
use Rattle.scaling.specs.laws.Multiples.{digits, within_four}
use Rattle.scaling.specs.laws.Moderate.{most-units}
use Rattle.scaling.specs.laws.Arguments.{within-one, plain-sum, c-within, c1_ranged}
use Rattle.scaling.specs.laws.Before.{cosine, not-tiny, not-huge}

-- ---- not negative, and at most m · 2 ^ j units of 2 ^ -1074
record UpTo (m j : ℕ) (x : Float) : Type 0 where
  units : ℕ
  value : HasValue x false units (2 ^ 1074)
  most : units ≤ m * 2 ^ j

up_of : {j : ℕ} {x : Float} (n : ℕ) → HasValue x false n (2 ^ 1074) → n ≤ 2 ^ j → UpTo 1 j x
up_of {j} n v h = record { units = n; value = v; most = le_trans h (le_of_eq (sym (one-mul (2 ^ j)))) }

up_finite : {m j : ℕ} {x : Float} → UpTo m j x → T (finite x)
up_finite {x = x} v = finite_of_lem x false v.units (2 ^ 1074) v.value

-- m · 2 ^ j is an f64, and rounding keeps the order
up_round : (a c m j : ℕ) → 0 < c → m < 2 ^ 53 → m * 2 ^ j < overflow binary64 → a * 2 ^ 1074 ≤ m * 2 ^ j * c → UpTo m j (round binary64 false a c)
up_round a c m j C M o h = record { units = grid binary64 a c; value = round-value binary64 false a c (lt_of_le_of_lt g o); most = g }
  where
    exact : grid binary64 (m * 2 ^ j) (2 ^ 1074) ≡ m * 2 ^ j
    exact = grid_exact binary64 m j M

    g : grid binary64 a c ≤ m * 2 ^ j
    g = le_trans (grid_mono a c (m * 2 ^ j) (2 ^ 1074) C (pow_pos 1074) h (subst (λ (z : ℕ). z < overflow binary64) (sym exact) o)) (le_of_eq exact)

up_wider : {m i : ℕ} (j : ℕ) {x : Float} → m * 2 ^ i ≤ 1 * 2 ^ j → UpTo m i x → UpTo 1 j x
up_wider j h v = record { units = v.units; value = v.value; most = le_trans v.most h }

up_add : {a b j : ℕ} {x y : Float} → a + b < 2 ^ 53 → (a + b) * 2 ^ j < overflow binary64 → UpTo a j x → UpTo b j y → UpTo (a + b) j (x ⊕ y)
up_add {a} {b} {j} {x} {y} M o v w =
    subst (UpTo (a + b) j) (sym (add_is binary64 x y false false v.units w.units (2 ^ 1074) (pow_pos 1074) v.value w.value ∙ plain-sum v.units w.units))
    (up_round (v.units + w.units) (2 ^ 1074) (a + b) j (pow_pos 1074) M o (mul-le-mul_right (2 ^ 1074) (both v.units w.units (2 ^ j) v.most w.most)))
  where
    both : (n k P : ℕ) → n ≤ a * P → k ≤ b * P → n + k ≤ (a + b) * P
    both n k P h g = omega arith

up_mul : {i j : ℕ} (k : ℕ) {x y : Float} → 1 * 2 ^ k < overflow binary64 → i + j ≤ k + 1074 → UpTo 1 i x → UpTo 1 j y → UpTo 1 k (x ⊗ y)
up_mul {i} {j} k {x} {y} o h v w =
    subst (UpTo 1 k) (sym (mul_is binary64 x y false false v.units w.units (2 ^ 1074) (2 ^ 1074) (pow_pos 1074) (pow_pos 1074) v.value w.value))
    (up_round (v.units * w.units) (2 ^ 1074 * 2 ^ 1074) 1 k (mul-pos (pow_pos 1074) (pow_pos 1074)) (lit< tt) o (go v.units w.units (2 ^ i) (2 ^ j) (2 ^ k) (2 ^ 1074) v.most w.most (le_trans (le_of_eq (sym (pow-add 2 i j))) (le_trans (pow_mono h) (le_of_eq (pow-add 2 k 1074))))))
  where
    go : (a b P Q R U : ℕ) → a ≤ 1 * P → b ≤ 1 * Q → P * Q ≤ R * U → a * b * U ≤ 1 * R * (U * U)
    go a b P Q R U p q r = le_trans (mul-le-mul_right U (le_trans (mul-le-mul (le_trans p (le_of_eq (one-mul P))) (le_trans q (le_of_eq (one-mul Q)))) r)) (let z : R * U * U ≤ 1 * R * (U * U) = omega arith in z)

-- times and over a small whole number
up_times : {j : ℕ} (m : ℕ) (d : Float) {x : Float} → m < 2 ^ 53 → m * 2 ^ j < overflow binary64 → HasValue d false m 1 → UpTo 1 j x → UpTo m j (d ⊗ x)
up_times {j} m d {x} M o u v =
    subst (UpTo m j) (sym (mul_is binary64 d x false false m v.units 1 (2 ^ 1074) (lit< tt) (pow_pos 1074) u v.value))
    (up_round (m * v.units) (1 * 2 ^ 1074) m j (let z : 0 < 1 * 2 ^ 1074 = lit< tt in z) M o (go v.units (2 ^ j) (2 ^ 1074) v.most))
  where
    go : (n P U : ℕ) → n ≤ 1 * P → m * n * U ≤ m * P * (1 * U)
    go n P U h = le_trans (mul-le-mul_right U (mul-le-mul_left m (le_trans h (le_of_eq (one-mul P))))) (mul-le-mul_left (m * P) (le_of_eq (sym (one-mul U))))

up_over : {m j : ℕ} (d : Float) {x : Float} → 0 < m → 1 * 2 ^ j < overflow binary64 → HasValue d false m 1 → UpTo m j x → UpTo 1 j (x ⊘ d)
up_over {m} {j} d {x} M o u v =
    subst (UpTo 1 j) (sym (div_is binary64 x d false false v.units m (2 ^ 1074) 1 (pow_pos 1074) (lit< tt) M v.value u))
    (up_round (v.units * 1) (2 ^ 1074 * m) 1 j (mul-pos (pow_pos 1074) M) (lit< tt) o (go v.units (2 ^ j) (2 ^ 1074) v.most))
  where
    go : (n P U : ℕ) → n ≤ m * P → n * 1 * U ≤ 1 * P * (U * m)
    go n P U h = le_trans (mul-le-mul_right U (le_trans (le_of_eq (mul-one n)) h)) (let z : m * P * U ≤ 1 * P * (U * m) = omega arith in z)

up_root : {j : ℕ} (l : ℕ) {x : Float} → l < 2098 → j + 1074 ≤ l + l → UpTo 1 j x → UpTo 1 l (root_of x)
unfolding root_of
up_root {j} l {x} L h v = go x v.units v.value v.most
  where
    one : {n : ℕ} → n ≤ 1 * 2 ^ j → n ≤ 2 ^ j
    one h = le_trans h (le_of_eq (one-mul (2 ^ j)))

    go : (x : Float) (n : ℕ) → HasValue x false n (2 ^ 1074) → n ≤ 1 * 2 ^ j → UpTo 1 l (root_of x)
    go nan n u k = absurd u
    go (inf t) n u k = absurd u
    go (fin true zero e) n u k = absurd (true≢false u.0)
    go (fin false zero e) n u k = record { units = 0; value = (refl, none (up e) (down e) (2 ^ 1074)); most = (let z : 0 ≤ 1 * 2 ^ l = omega arith in z) }
      where
        none : (a d U : ℕ) → 0 * a * U ≡ 0 * d
        none a d U = omega arith
    go (fin t (suc m) e) n u k =
        let some = some_units (fin t (suc m) e) false n u (subst (λ (b : Bool). T (not b)) (sym (eqb-suc-zero m)) tt) in
        let w : Within 0 j (fin t (suc m) e) = record { units = n; value = u; least = some; most = one k } in
        let r = within_root 0 l L (let z : 0 + 0 ≤ 0 + 1074 = lit≤ tt in z) h w in
        up_of r.units r.value r.most

-- ---- a quotient of 2 ^ 173 units at least, or infinite, is not below 2 ^ -960
infinite_above : (inf false <· least) ≡ false
unfolding lt of_bits
infinite_above = refl

above : (a c : ℕ) → 0 < c → 2 ^ 173 * c ≤ a * 2 ^ 1074 → (round binary64 false a c <· least) ≡ false
unfolding of_bits
above a c C h = go (ltb g (overflow binary64)) (ltb→lt g (overflow binary64)) (nltb→le g (overflow binary64))
  where
    g : ℕ
    g = grid binary64 a c

    go : (b : Bool) → (T b → g < overflow binary64) → (T (not b) → overflow binary64 ≤ g) → (round binary64 false a c <· least) ≡ false
    go true p q =
        lt-units (round binary64 false a c) least false false g (2 ^ 114) (2 ^ 1074) (pow_pos 1074) (round-value binary64 false a c (p tt)) (refl, refl)
        ∙ is_false (ltb g (2 ^ 114)) (le→nltb g (2 ^ 114) (le_trans (lit≤ tt) (grid_least a c 173 C (lit< tt) h (p tt))))
    go false p q = ap (λ (z : Float). z <· least) (round_is binary64 false a c ∙ units_over binary64 false (kept 53 (a * 2 ^ 1074) c) (drop 53 (a * 2 ^ 1074) c) (q tt)) ∙ infinite_above

over_zero : {i j : ℕ} (x : Float) (e : ℤ) → Within i j x → x ⊘ fin false 0 e ≡ inf false
unfolding div
over_zero nan e w = absurd w.value
over_zero (inf t) e w = absurd w.value
over_zero (fin true m g) e w = absurd (true≢false w.value.0)
over_zero (fin false zero g) e w = absurd (let z = zero-units (fin false zero g) false w.units w.value tt in let p = positive w in let q : ⊥ = omega arith in q)
over_zero (fin false (suc m) g) e w = ap (λ (b : Bool). cond b nan (inf false)) (eqb-suc-zero m)

-- the term of a round, 4 ^ -k / w, from 2 ^ -128 on over 2 ^ 773 at most
term-above : {i : ℕ} (x w : Float) → 946 ≤ i → Within i 1074 x → UpTo 1 1847 w → (x ⊘ w <· least) ≡ false
term-above {i} x w I v u = go w u.units u.value u.most
  where
    sizes : (a n P W S U : ℕ) → n ≤ 1 * W → S ≤ a → P * W ≤ S * U → P * (U * n) ≤ a * U * U
    sizes a n P W S U h k l = le_trans (mul-le-mul_left P (mul-le-mul_left U (le_trans h (le_of_eq (one-mul W))))) (le_trans (let z : P * (U * W) ≤ P * W * U = omega arith in z) (mul-le-mul_right U (le_trans l (mul-le-mul_right U k))))

    go : (w : Float) (n : ℕ) → HasValue w false n (2 ^ 1074) → n ≤ 1 * 2 ^ 1847 → (x ⊘ w <· least) ≡ false
    go nan n k h = absurd k
    go (inf t) n k h = absurd k
    go (fin true zero e) n k h = absurd (true≢false k.0)
    go (fin false zero e) n k h = ap (λ (z : Float). z <· least) (over_zero x e v) ∙ infinite_above
    go (fin t (suc m) e) n k h =
        let some = some_units (fin t (suc m) e) false n k (subst (λ (b : Bool). T (not b)) (sym (eqb-suc-zero m)) tt) in
        ap (λ (z : Float). z <· least) (div_is binary64 x (fin t (suc m) e) false false v.units n (2 ^ 1074) (2 ^ 1074) (pow_pos 1074) (pow_pos 1074) some v.value k)
        ∙ above (v.units * 2 ^ 1074) (2 ^ 1074 * n) (mul-pos (pow_pos 1074) some) (sizes v.units n (2 ^ 173) (2 ^ 1847) (2 ^ 946) (2 ^ 1074) h (le_trans (pow_mono I) v.least) (lit≤ tt))

-- ---- a state after k rounds: 2 ^ 514 is 2 ^ 1588 units, and its root 2 ^ 1331
record Bounded (k : ℕ) (s : State) : Type 0 where
  x : UpTo 1 1588 s.x
  y : UpTo 1 1588 s.y
  z : UpTo 1 1588 s.z
  mean : UpTo 1 1588 s.mean
  place : ℕ
  scaled : place + (k + k) ≡ 1074
  scale : Within place 1074 s.scale

root_bounded : {x : Float} → UpTo 1 1588 x → UpTo 1 1331 (root_of x)
root_bounded v = up_root 1331 (lit< tt) (lit≤ tt) v

spread_bounded : {x y z : Float} → UpTo 1 1588 x → UpTo 1 1588 y → UpTo 1 1588 z → UpTo 3 1588 (spread_of x y z)
spread_bounded x y z =
    let p = up_mul 1588 (lit< tt) (lit≤ tt) (root_bounded x) (root_bounded y) in
    let q = up_mul 1588 (lit< tt) (lit≤ tt) (root_bounded y) (root_bounded z) in
    let r = up_mul 1588 (lit< tt) (lit≤ tt) (root_bounded z) (root_bounded x) in
    up_add (lit< tt) (lit< tt) (up_add (lit< tt) (lit< tt) p q) r

-- so (a + L) / 4 has the same bound
quarter-bounded : {a l : Float} → UpTo 1 1588 a → UpTo 3 1588 l → UpTo 1 1588 ((a ⊕ l) ⊘ 4·0)
unfolding of_bits
quarter-bounded a l = up_over 4·0 (lit< tt) (lit< tt) (refl, refl) (up_add (lit< tt) (lit< tt) a l)

rounded : (k : ℕ) (s : State) → suc k ≤ 64 → Bounded k s → Bounded (suc k) (round_of s)
unfolding round_of next_of roots_of
rounded k s h b =
    let l = spread_bounded b.x b.y b.z in
    let e = less b.place b.scaled in
    record {
      x = quarter-bounded b.x l;
      y = quarter-bounded b.y l;
      z = quarter-bounded b.z l;
      mean = quarter-bounded b.mean l;
      place = e.0;
      scaled = e.2;
      scale = within-div e.0 1074 e.1 (lit< tt) e.3 (lit≤ tt) b.scale within_four;
    }
  where
    less : (p : ℕ) → p + (k + k) ≡ 1074 → (q : ℕ) × (q < 2098) × (q + (suc k + suc k) ≡ 1074) × (q + 1076 ≤ p + 1074)
    less p e = (p - 2, omega arith, omega arith, omega arith)

none_lost_at : (k : ℕ) (s : State) → k ≤ 64 → Bounded k s → NoneLost s
none_lost_at k s h b =
    let w = up_mul 1847 (lit< tt) (lit≤ tt) (root_bounded b.z) (up_wider 1590 (lit≤ tt) (up_add (lit< tt) (lit< tt) b.z (spread_bounded b.x b.y b.z))) in
    let c = up_mul 1845 (lit< tt) (lit≤ tt) b.mean (root_bounded b.mean) in
    let e = b.scaled in
    record { weight = up_finite w; closing = up_finite c; term = subst (λ (t : Bool). T (not t)) (sym (term-above s.scale (weight_of s) (let z : 946 ≤ b.place = omega arith in z) b.scale w)) tt }

run-none_lost : (n k : ℕ) (s : State) → n + k ≤ 64 → Bounded k s → NoneLost (after round_of n s)
unfolding after
run-none_lost zero k s h b = none_lost_at k s (omega arith) b
run-none_lost (suc n) k s h b = run-none_lost n (suc k) (round_of s) (omega arith) (rounded k s (omega arith) b)

bounded_up : (x : Float) → T (fits binary64 x) → T (bounded x) → UpTo 1 1588 x
bounded_up nan f h = absurd h
bounded_up (inf s) f h = absurd h
bounded_up (fin true m e) f h = absurd h
bounded_up (fin false m e) f h =
    let d = digits (fin false m e) tt f in
    let u = d.lead * 2 ^ d.place in
    up_of u (refl, d.value.1) (most-units (m * up e) (down e) u (2 ^ 514) (2 ^ 1074) (2 ^ 1588) (down_pos e) (pow-add 2 514 1074) d.value.1 (leb→le (m * up e) (2 ^ 514 * down e) h))

started : (x y z : Float) → UpTo 1 1588 x → UpTo 1 1588 y → UpTo 1 1588 z → Bounded 0 (start_of x y z)
unfolding start_of of_bits
started x y z a b c = record {
  x = a;
  y = b;
  z = c;
  mean = up_over 5·0 (lit< tt) (lit< tt) (refl, refl) (up_add (lit< tt) (lit< tt) (up_add (lit< tt) (lit< tt) a b) (up_times 3 3·0 (lit< tt) (lit< tt) (refl, refl) c));
  place = 1074;
  scaled = refl;
  scale = within-one;
}

from_start : {x y z : Float} → UpTo 1 1588 x → UpTo 1 1588 y → UpTo 1 1588 z → KeepsTerms x y z
from_start {x} {y} {z} a b c k h = run-none_lost k 0 (start_of x y z) (omega arith) (started x y z a b c)

-- ---- as ellipeinc asks it: C - m adds |m| to C
minus : {j : ℕ} (m : Float) → Small j m → m <· +0 ≡ true → UpTo 1 j (neg m)
unfolding lt of_bits neg
minus nan v h = absurd v.value
minus (inf s) v h = absurd v.value
minus (fin true n e) v h = up_of v.units (refl, v.value.1) v.most
minus (fin false n e) v h = absurd (none (n * up e * 1) (down e) (ltb→lt (n * up e * 1) (0 * 1 * down e) (subst T (sym h) tt)))
  where
    none : (a d : ℕ) → a < 0 * 1 * d → ⊥
    none a d l = omega arith

module _ (φ m : Float) (g : Given φ m) (negative : m <· +0 ≡ true) (l : large_of m (C φ) ≡ false) where
  c : UpTo 1 1275 (C φ)
  c = let w = c-within (sin_of φ) (cos_of φ) m g.f64_m (not-tiny φ m g l) (not-huge φ m g l) in up_of w.units w.value w.most

  c1 : UpTo 1 1443 (C1 φ)
  c1 = let t = cosine φ m g in let r = c1_ranged (sin_of φ) (cos_of φ) m g.f64_m (not-tiny φ m g l) (not-huge φ m g l) t.0 t.1 in up_of r.units r.value r.most

  middle : UpTo 2 1275 (C φ ⊖ m)
  unfolding sub
  middle = up_add (lit< tt) (lit< tt) c (up_wider 1275 (lit≤ tt) (minus m (not-huge φ m g l) negative))

  two_terms : KeepsTerms (C1 φ) (C φ ⊖ m) (C φ)
  two_terms = from_start (up_wider 1588 (lit≤ tt) c1) (up_wider 1588 (lit≤ tt) middle) (up_wider 1588 (lit≤ tt) c)

pub no_term_lost : NoTermLost
no_term_lost = record {
  rd = λ x y z fx fy fz bx by bz. from_start (bounded_up x fx bx) (bounded_up y fy by) (bounded_up z fz bz);
  two_terms = two_terms;
}
