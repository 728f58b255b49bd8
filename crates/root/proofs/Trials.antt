-- The root's digits: one step, the loop's start and end, the alignment, and the rounded root of S * 4 ^ j from the 54 digits of the root of S. Assumes nothing.
use Rattle.std.proofs.Common.{◌≡◌, ℕ, zero, suc, ◌+◌, ◌-◌, ◌*◌, ◌/◌, ◌%◌, ◌^◌, ◌<◌, ◌≤◌, false, not, T, ◌⊎◌, sym, refl, ap, ◌∙◌, subst, inl, inr, le_trans, le_of_eq, lt_of_lt_of_le, lt_of_le_of_lt, mul-le-mul_right, mod-eq_of_lt, zero-lt-suc, mul_assoc, mul_comm, suc-add, mul-lt-mul_of_pos_right, mul-pos, pow-suc, arith, lit≤, pow_pos, pow_mono, pow-add}
use Prim.Native.Nat.{compare, Ordering}
use native.Mathlib.Nat.{mul-mul-mul_comm, div-eq_of_lt-le, div-div-eq-div-mul, one-le-pow}
use lib.Bits.{bit_and, and_mask}
use lib.Arith.{lt_of_le-ne}
use lib.Count.{count_leading_zeros}
use lib.Ieee.{binary64, size, nearest, units, of_bits, nan_bits}
use Rattle.laws.specs.laws.Flags.{lt-or-le}
use Rattle.laws.specs.laws.Compare.{compare_is, compare_scaled}
use Rattle.laws.specs.laws.Digits.{leading, moved, size_exact, zeros-ge}
use Rattle.bits.specs.laws.Packing.{packed_is, no_nan}
use Rattle.root.specs.Root.{whole_root, round_root}
use Rattle.root.specs.laws.Meaning.{IsRoot, square-lt, two_four, whole_root_is, only_root}
use Rattle.root.specs.Steps.{Tried, Moving, Sized, Aligned}

-- ---- one step
-- half of 2 ^ 64 - 2s, worked out below 2 ^ 63 and moved back
pub below_half : (down below r s : ℕ) → below < 2 ^ 64 → r < 2 ^ 64 → (below + 2 ^ 63) % 2 ^ 64 ≡ down → (r + 2 ^ 62) % 2 ^ 64 ≡ below / 2 ^ 1 → s ≤ 2 ^ 62 → down + 2 * s ≡ 2 ^ 64 → r + s ≡ 2 ^ 64
below_half down below r s a b e f l h = go (lt-or-le below (2 ^ 63)) (lt-or-le r (2 ^ 64 - 2 ^ 62))
  where
    go : (below < 2 ^ 63) ⊎ (2 ^ 63 ≤ below) → (r < 2 ^ 64 - 2 ^ 62) ⊎ (2 ^ 64 - 2 ^ 62 ≤ r) → r + s ≡ 2 ^ 64
    go (inl x) (inr y) = omega arith
    go (inl x) (inl y) = absurd (let z : ⊥ = omega arith in z)
    go (inr x) w = absurd (let z : ⊥ = omega arith in z)

-- what is left of the rest has a borrow, in its highest place, where the digit is 0
module _ (trial rest left : ℕ) (a : trial < 2 ^ 63) (b : rest < 2 ^ 63) (l : left < 2 ^ 64) (e : (left + trial) % 2 ^ 64 ≡ rest) where
  borrows : left / 2 ^ 63 ≡ 1 → rest < trial
  borrows h = omega arith

  no_borrow : (left / 2 ^ 63 ≡ 1 → ⊥) → left + trial ≡ rest
  no_borrow h = go (lt-or-le left (2 ^ 63))
    where
      go : (left < 2 ^ 63) ⊎ (2 ^ 63 ≤ left) → left + trial ≡ rest
      go (inl s) = omega arith
      go (inr s) = absurd (h (omega arith))

square_more : (q s left : ℕ) → 8 * ((q + s) * (q + s)) + 2 * left * s ≡ 8 * (q * q) + (left + (8 * q + 2 * (2 * s))) * (2 * s)
square_more q s left = omega arith

square-same : (q s rest : ℕ) → 8 * (q * q) + 2 * rest * s ≡ 8 * (q * q) + rest * (2 * s)
square-same q s rest = omega arith

pub moves_halved : (s up down down' : ℕ) → Moving (2 * s) up down → down' + s ≡ 2 ^ 64 → Moving s (up / 2 ^ 1) down'
moves_halved s up down down' v h = let a = v.one in record { one = (omega arith); none = h }

-- 3s fits in a word, so that s is small
pub small_move : (s up down : ℕ) → Moving (2 * s) up down → up < 2 ^ 64 → s ≤ 2 ^ 62
small_move s up down v h = let a = v.one in omega arith

module _ (n s rest next : ℕ) (t : Tried n (2 * s) rest next) where
  abbrev q : ℕ
  q = t.root

  sizes : (next < 2 ^ 63) × (rest < 2 ^ 63)
  sizes = let a = t.trial in let b = t.small in let c = t.room in (omega arith, omega arith)

  double : (x : ℕ) → x < 2 ^ 63 → x * 2 ^ 1 % 2 ^ 64 ≡ 2 * x
  double x h = omega arith

  next_none : (next' : ℕ) → next' ≡ 8 * q + 2 * s → rest < next → Tried n s (rest * 2 ^ 1 % 2 ^ 64) next'
  next_none next' e h =
      let d = double rest sizes.1 in
      let a = t.trial in
      let r = t.room in
      record {
        root = q;
        sum = ap (λ (x : ℕ). 8 * (q * q) + x * s) d ∙ square-same q s rest ∙ t.sum;
        small = (omega arith);
        trial = e;
        room = (omega arith);
      }

  next_one : (next' left : ℕ) → next' ≡ 8 * (q + s) + 2 * s → left + next ≡ rest → Tried n s (left * 2 ^ 1 % 2 ^ 64) next'
  next_one next' left e h =
      let z = sizes in
      let d = double left (let y : left < 2 ^ 63 = omega arith in y) in
      let a = t.trial in
      let b = t.small in
      let r = t.room in
      record {
        root = q + s;
        sum = ap (λ (x : ℕ). 8 * ((q + s) * (q + s)) + x * s) d ∙ square_more q s left ∙ ap (λ (x : ℕ). 8 * (q * q) + x * (2 * s)) (ap (λ (x : ℕ). left + x) (sym a) ∙ h) ∙ t.sum;
        small = (omega arith);
        trial = e;
        room = (omega arith);
      }

  chosen : {r r' m m' : ℕ} → r' ≡ r → m' ≡ m → Tried n s (r * 2 ^ 1 % 2 ^ 64) ((next + m) % 2 ^ 64) → Tried n s (r' * 2 ^ 1 % 2 ^ 64) ((next + m') % 2 ^ 64)
  chosen {r} {r'} {m} {m'} a b w = subst (λ (x : ℕ). Tried n s (x * 2 ^ 1 % 2 ^ 64) ((next + m') % 2 ^ 64)) (sym a) (subst (λ (x : ℕ). Tried n s (r * 2 ^ 1 % 2 ^ 64) ((next + x) % 2 ^ 64)) (sym b) w)

  module _ (up down : ℕ) (v : Moving (2 * s) up down) where
    none_next : (next + down) % 2 ^ 64 ≡ 8 * q + 2 * s
    none_next = let a = t.trial in let b = v.none in let c = t.room in omega arith

    one_next : (next + up) % 2 ^ 64 ≡ 8 * (q + s) + 2 * s
    one_next = let a = t.trial in let b = v.one in let c = t.room in omega arith

    -- from the code's two choices, both by the borrow
    pub digit : (left rest' more : ℕ) → left < 2 ^ 64 → (left + next) % 2 ^ 64 ≡ rest
        → ((left / 2 ^ 63 ≡ 1) × (rest' ≡ rest)) ⊎ ((left / 2 ^ 63 ≡ 1 → ⊥) × (rest' ≡ left))
        → ((left / 2 ^ 63 ≡ 1) × (more ≡ down)) ⊎ ((left / 2 ^ 63 ≡ 1 → ⊥) × (more ≡ up))
        → Tried n s (rest' * 2 ^ 1 % 2 ^ 64) ((next + more) % 2 ^ 64)
    digit left rest' more l e (inl c) (inl d) = chosen c.1 d.1 (next_none _ none_next (borrows next rest left sizes.0 sizes.1 l e c.0))
    digit left rest' more l e (inr c) (inr d) = chosen c.1 d.1 (next_one _ left one_next (no_borrow next rest left sizes.0 sizes.1 l e c.0))
    digit left rest' more l e (inl c) (inr d) = absurd (d.0 c.0)
    digit left rest' more l e (inr c) (inl d) = absurd (c.0 d.0)

-- ---- the loop: the digit at 2 ^ 53 is 1, and one is found at each place down to 2
pub first : (m : ℕ) → 2 ^ 55 ≤ m → m < 2 ^ 57 → Tried (m * 2 ^ 54) (2 ^ 53) ((m - 0x80_0000_0000_0000) * 2 ^ 1 % 2 ^ 64) 0x140_0000_0000_0000
first m a b = record { root = 2 ^ 53; sum = (omega arith); small = (omega arith); trial = refl; room = (omega arith) }

-- the place of the digit before the next
abbrev pub place : ℕ → ℕ
place i = 2 ^ (53 - i)

place_halves : (i : ℕ) → i < 52 → place i ≡ 2 * place (i + 1)
place_halves i h = ap (λ (x : ℕ). 2 ^ x) (let z : 53 - i ≡ suc (53 - (i + 1)) = omega arith in z) ∙ pow-suc 2 (53 - (i + 1)) ∙ mul_comm (place (i + 1)) 2

last-place : (i : ℕ) → i ≤ 52 → 52 ≤ i → place i ≡ 2
last-place i a b = ap (λ (x : ℕ). 2 ^ x) (let z : 53 - i ≡ 1 = omega arith in z)

-- what `step`, `halved` and `last_digit` ask for, after i digits
module _ (i : ℕ) (h : i < 52) where
  pub tried_above : (n rest next : ℕ) → Tried n (place i) rest next → Tried n (2 * place (i + 1)) rest next
  tried_above n rest next = subst (λ (s : ℕ). Tried n s rest next) (place_halves i h)

  pub moving_above : (up down : ℕ) → Moving (place i) up down → Moving (2 * place (i + 1)) up down
  moving_above up down = subst (λ (s : ℕ). Moving s up down) (place_halves i h)

pub tried_last : (i : ℕ) → i ≤ 52 → 52 ≤ i → (n rest next : ℕ) → Tried n (place i) rest next → Tried n 2 rest next
tried_last i a b n rest next = subst (λ (s : ℕ). Tried n s rest next) (last-place i a b)

-- the count of the digits
-- down to 1 it is the whole root
found : (m q rest : ℕ) → 8 * (q * q) + rest * 1 ≡ m * 2 ^ 54 → rest < 16 * q + 8 * 1 → q ≡ whole_root (m * 2 ^ 51)
found m q rest a b = only_root (m * 2 ^ 51) q (let z : q * q ≤ m * 2 ^ 51 = omega arith in z, let z : m * 2 ^ 51 < (q + 1) * (q + 1) = omega arith in z)

-- and the digit there is 1 where taking the trial away leaves no borrow
pub last : (m rest next left : ℕ) → Tried (m * 2 ^ 54) (2 * 1) rest next → left < 2 ^ 64 → (left + next) % 2 ^ 64 ≡ rest → next / 2 ^ 3 + 1 - left / 2 ^ 63 ≡ whole_root (m * 2 ^ 51)
unfolding next_none next_one
last m rest next left t l e = go (lt-or-le left (2 ^ 63))
  where
    q : ℕ
    q = t.root

    sized : (next < 2 ^ 63) × (rest < 2 ^ 63)
    sized = sizes (m * 2 ^ 54) 1 rest next t

    so_far : next / 2 ^ 3 ≡ q
    so_far = let a = t.trial in omega arith

    go : (left < 2 ^ 63) ⊎ (2 ^ 63 ≤ left) → next / 2 ^ 3 + 1 - left / 2 ^ 63 ≡ whole_root (m * 2 ^ 51)
    go (inl h) =
        let w = next_one (m * 2 ^ 54) 1 rest next t _ left refl (no_borrow next rest left sized.0 sized.1 l e (λ x. (let z : ⊥ = omega arith in z))) in
        let s = so_far in
        (let z : next / 2 ^ 3 + 1 - left / 2 ^ 63 ≡ q + 1 = omega arith in z) ∙ found m (q + 1) (left * 2 ^ 1 % 2 ^ 64) w.sum w.small
    go (inr h) =
        let w = next_none (m * 2 ^ 54) 1 rest next t _ refl (borrows next rest left sized.0 sized.1 l e (let z : left / 2 ^ 63 ≡ 1 = omega arith in z)) in
        let s = so_far in
        (let z : next / 2 ^ 3 + 1 - left / 2 ^ 63 ≡ q = omega arith in z) ∙ found m q (rest * 2 ^ 1 % 2 ^ 64) w.sum w.small

-- ---- the alignment: the zeros above the digits, or one less
pub zeros_bound : (n : ℕ) → 0 < n → n < 2 ^ 53 → (11 ≤ count_leading_zeros 64 n) × (count_leading_zeros 64 n ≤ 63)
zeros_bound n p h =
    let f : n < 2 ^ 64 = lt_of_lt_of_le h (let z : 2 ^ 53 ≤ 2 ^ 64 = omega arith in z) in
    let w = leading n p f in
    let z = w.1.zeros in
    let g = zeros-ge n 53 p f h in
    (omega arith, omega arith)

powers : (n e b h k : ℕ) → e + 1023 ≡ b + 2 * h → k ≡ 1074 → n * 2 ^ b * 2 ^ 51 * 4 ^ h ≡ n * 2 ^ e * 2 ^ k
powers n e b h k q z =
    ap (λ (x : ℕ). n * 2 ^ b * 2 ^ 51 * x) (sym (two_four h) ∙ sym (pow-add 2 h h))
    ∙ mul_assoc (n * 2 ^ b) (2 ^ 51) (2 ^ (h + h))
    ∙ ap (λ (x : ℕ). n * 2 ^ b * x) (sym (pow-add 2 51 (h + h)))
    ∙ mul_assoc n (2 ^ b) (2 ^ (51 + (h + h)))
    ∙ ap (λ (x : ℕ). n * x) (sym (pow-add 2 b (51 + (h + h))) ∙ ap (λ (x : ℕ). 2 ^ x) (let y : b + (51 + (h + h)) ≡ e + k = omega arith in y) ∙ pow-add 2 e k)
    ∙ sym (mul_assoc n (2 ^ e) (2 ^ k))

-- 56 or 57 places, so that what is left of the exponent is even
aligned_by : (n e b h : ℕ) → e + 1023 ≡ b + 2 * h → 2 ^ 55 ≤ n * 2 ^ b → n * 2 ^ b < 2 ^ 57 → h ≤ 1600 → Aligned n e (n * 2 ^ b % 2 ^ 64) h
aligned_by n e b h q lo hi k =
    subst (λ (y : ℕ). Aligned n e y h) (sym (mod-eq_of_lt (lt_of_lt_of_le hi (lit≤ tt)))) (record { same = powers n e b h 1074 q refl; sized = record { least = lo; most = hi; scale = k } })

pub full_aligned : (n e : ℕ) → 2 ^ 52 ≤ n → n < 2 ^ 53 → e ≤ 2045 → Aligned n e (n * 2 ^ (3 + bit_and e 1) % 2 ^ 64) ((e + 1023 - 3) / 2 ^ 1)
full_aligned n e p s l = go (bit_and e 1) (and_mask e 1)
  where
    go : (d : ℕ) → d ≡ e % 2 → Aligned n e (n * 2 ^ (3 + d) % 2 ^ 64) ((e + 1023 - 3) / 2 ^ 1)
    go zero q = aligned_by n e 3 ((e + 1023 - 3) / 2 ^ 1) (omega arith) (omega arith) (omega arith) (omega arith)
    go (suc zero) q = aligned_by n e 4 ((e + 1023 - 3) / 2 ^ 1) (omega arith) (omega arith) (omega arith) (omega arith)
    go (suc (suc d)) q = absurd (let z : ⊥ = omega arith in z)

pub is_aligned : (n e : ℕ) → 0 < n → n < 2 ^ 53 → e ≤ 2045 → (z b : ℕ) → z ≡ count_leading_zeros 64 n → b ≡ z - 7 - bit_and (e + z) 1 → Aligned n e (n * 2 ^ b % 2 ^ 64) ((e + 1023 - b) / 2 ^ 1)
is_aligned n e p s l z b q r =
    let f : n < 2 ^ 64 = lt_of_lt_of_le s (let z : 2 ^ 53 ≤ 2 ^ 64 = omega arith in z) in
    let w = leading n p f in
    let x = w.1.zeros in
    let g = zeros_bound n p s in
    let parity : bit_and (e + z) 1 ≡ (e + z) % 2 = and_mask (e + z) 1 in
    let m = moved n w.0 b (b + suc w.0) w.1 refl in
    let t : (56 ≤ b + suc w.0) × (b + suc w.0 ≤ 57) = (omega (arith, g.0), omega (arith, g.0)) in
    let u : n * 2 ^ b < 2 ^ 57 = lt_of_lt_of_le (let v = pow_pos b in let y : n * 2 ^ b < n * 2 ^ b + 2 ^ b = omega arith in y) (le_trans m.1 (pow_mono t.1)) in
    let o : 2 ^ 56 ≤ n * 2 ^ b * 2 = le_trans (pow_mono t.0) m.0 in
    aligned_by n e b ((e + 1023 - b) / 2 ^ 1) (omega (arith, g.0, g.1)) (omega arith) u (omega arith)

-- ---- the rounded root
-- 56 or 57 digits of the radicand make 54 of the root
pub root_bounds : (m r : ℕ) → 2 ^ 55 ≤ m → m < 2 ^ 57 → IsRoot (m * 2 ^ 51) r → (2 ^ 53 ≤ r) × (r < 2 ^ 54)
root_bounds m r a b w =
    let l : 2 ^ 53 < r + 1 = square-lt (2 ^ 53) (r + 1) (lt_of_le_of_lt (let z : 2 ^ 53 * 2 ^ 53 ≤ m * 2 ^ 51 = omega arith in z) w.1) in
    let h : r < 2 ^ 54 = square-lt r (2 ^ 54) (lt_of_le_of_lt w.0 (let z : m * 2 ^ 51 < 2 ^ 54 * 2 ^ 54 = omega arith in z)) in
    (let z : 2 ^ 53 ≤ r = omega arith in z, h)

-- a whole root that is odd leaves a rest where the radicand is even, so it lies above the middle
odd_square : (h m : ℕ) → (2 * h + 1) * (2 * h + 1) ≡ 2 * m → ⊥
odd_square h m e = omega arith

side : (m r : ℕ) → IsRoot (2 * m) r → nearest (r / 2) (compare (2 * m) ((2 * (r / 2) + 1) * (2 * (r / 2) + 1))) ≡ (r + 1) / 2
side m r w = go (r % 2) refl
  where
    h : ℕ
    h = r / 2

    go : (d : ℕ) → r % 2 ≡ d → nearest h (compare (2 * m) ((2 * h + 1) * (2 * h + 1))) ≡ (r + 1) / 2
    go zero e =
        let k : 2 * h ≡ r = omega arith in
        ap (nearest h) (compare_is Ordering.lt (2 * m) ((2 * h + 1) * (2 * h + 1)) (subst (λ (x : ℕ). 2 * m < (x + 1) * (x + 1)) (sym k) w.1)) ∙ (let z : h ≡ (r + 1) / 2 = omega arith in z)
    go (suc d) e =
        let k : 2 * h + 1 ≡ r = omega arith in
        let a : (2 * h + 1) * (2 * h + 1) ≤ 2 * m = subst (λ (x : ℕ). x * x ≤ 2 * m) (sym k) w.0 in
        let b : (2 * h + 1) * (2 * h + 1) < 2 * m = lt_of_le-ne a (odd_square h m) in
        ap (nearest h) (compare_is Ordering.gt (2 * m) ((2 * h + 1) * (2 * h + 1)) b) ∙ (let z : suc h ≡ (r + 1) / 2 = omega arith in z)

-- the root of S * 4 ^ j, from that of S
module _ (m j R : ℕ) (w : IsRoot (2 * m) R) (a : 2 ^ 53 ≤ R) (b : R < 2 ^ 54) where
  abbrev S : ℕ
  S = 2 * m

  abbrev P : ℕ
  P = 2 ^ j

  abbrev big : ℕ
  big = whole_root (S * 4 ^ j)

  as_square : S * 4 ^ j ≡ S * (P * P)
  as_square = ap (λ (x : ℕ). S * x) (sym (two_four j))

  lo : R * P ≤ big
  lo =
      let a : R * P * (R * P) ≤ S * 4 ^ j = le_trans (le_of_eq (mul-mul-mul_comm R P R P)) (le_trans (mul-le-mul_right (P * P) w.0) (le_of_eq (sym as_square))) in
      let b : R * P < big + 1 = square-lt (R * P) (big + 1) (lt_of_le_of_lt a (whole_root_is (S * 4 ^ j)).1) in
      omega arith

  hi : big < (R + 1) * P
  hi =
      square-lt big ((R + 1) * P)
      (lt_of_le_of_lt (whole_root_is (S * 4 ^ j)).0
      (lt_of_le_of_lt (le_of_eq as_square)
      (lt_of_lt_of_le (mul-lt-mul_of_pos_right w.1 (mul-pos (pow_pos j) (pow_pos j))) (le_of_eq (sym (mul-mul-mul_comm (R + 1) P (R + 1) P))))))

  half : big / 2 ^ suc j ≡ R / 2
  half = ap (λ (x : ℕ). big / x) (pow-suc 2 j) ∙ sym (div-div-eq-div-mul big P 2) ∙ ap (λ (x : ℕ). x / 2) (div-eq_of_lt-le P lo hi)

  drops : size big - 53 ≡ suc j
  drops =
      let z : size big ≡ suc (53 + j) =
      size_exact big (53 + j) (le_trans (le_trans (le_of_eq (pow-add 2 53 j)) (mul-le-mul_right P a)) lo)
      (lt_of_lt_of_le hi (le_trans (mul-le-mul_right P (let c : R + 1 ≤ 2 ^ 54 = omega arith in c)) (le_of_eq (sym (pow-add 2 54 j) ∙ ap (λ (x : ℕ). 2 ^ x) (suc-add 53 j))))) in
      omega arith

  squares : (q : ℕ) → compare (S * 4 ^ j * 4) ((2 * q + 1) * 2 ^ suc j * ((2 * q + 1) * 2 ^ suc j)) ≡ compare S ((2 * q + 1) * (2 * q + 1))
  squares q =
      let d = 2 * q + 1 in
      (λ i. compare ((mul_assoc S (4 ^ j) 4 ∙ ap (λ (x : ℕ). S * x) (sym (pow-suc 4 j))) i) ((mul-mul-mul_comm d (2 ^ suc j) d (2 ^ suc j) ∙ ap (λ (x : ℕ). d * d * x) (two_four (suc j))) i))
      ∙ compare_scaled S (d * d) (4 ^ suc j) (one-le-pow (suc j) 4 (zero-lt-suc 3))

  rounded_root : round_root (S * 4 ^ j) ≡ units binary64 false ((R + 1) / 2) (suc j)
  unfolding round_root
  rounded_root =
      ap (λ (k : ℕ). units binary64 false (nearest (big / 2 ^ k) (compare (S * 4 ^ j * 4) ((2 * (big / 2 ^ k) + 1) * 2 ^ k * ((2 * (big / 2 ^ k) + 1) * 2 ^ k)))) k) drops
      ∙ ap (λ (q : ℕ). units binary64 false (nearest q (compare (S * 4 ^ j * 4) ((2 * q + 1) * 2 ^ suc j * ((2 * q + 1) * 2 ^ suc j)))) (suc j)) half
      ∙ ap (λ (o : Ordering). units binary64 false (nearest (R / 2) o) (suc j)) (squares (R / 2))
      ∙ ap (λ (x : ℕ). units binary64 false x (suc j)) (side m R w)

-- ---- its pattern: the place in the exponent's field, to which the leading digit adds 1, and the digits
abbrev pub pattern : ℕ → ℕ → ℕ
pattern half r = (half + 1) * 2 ^ 52 % 2 ^ 64 + (r + 1) / 2 ^ 1

pattern_is : (half r : ℕ) → 2 ^ 53 ≤ r → r < 2 ^ 54 → half ≤ 1600 → of_bits binary64 (pattern half r) ≡ units binary64 false ((r + 1) / 2) (suc half)
pattern_is half r a b h =
    ap (of_bits binary64) (let z : pattern half r ≡ 0 + (suc half * 2 ^ 52 % 2 ^ 64 + (r + 1) / 2) = omega arith in z)
    ∙ packed_is false 0 ((r + 1) / 2) (suc half) refl (omega arith) (omega arith) (λ g. (let z : 2 ^ 52 ≤ (r + 1) / 2 = omega arith in z))

module _ (m half r : ℕ) (a : Sized m half) (e : r ≡ whole_root (m * 2 ^ 51)) where
  is_root : IsRoot (m * 2 ^ 51) r
  is_root = subst (IsRoot (m * 2 ^ 51)) (sym e) (whole_root_is (m * 2 ^ 51))

  even : m * 2 ^ 51 ≡ 2 * (m * 2 ^ 50)
  even = omega arith

  pub bounds : (2 ^ 53 ≤ r) × (r < 2 ^ 54)
  bounds = root_bounds m r a.least a.most is_root

  pub no_nan-pattern : T (not (nan_bits binary64 (pattern half r)))
  no_nan-pattern = no_nan false ((r + 1) / 2) (suc half) (pattern half r) (pattern_is half r bounds.0 bounds.1 a.scale)

  pub root_pattern : of_bits binary64 (pattern half r) ≡ round_root (m * 2 ^ 51 * 4 ^ half)
  root_pattern =
      pattern_is half r bounds.0 bounds.1 a.scale
      ∙ sym (rounded_root (m * 2 ^ 50) half r (subst (λ (x : ℕ). IsRoot x r) even is_root) bounds.0 bounds.1)
      ∙ ap (λ (x : ℕ). round_root (x * 4 ^ half)) (sym even)
