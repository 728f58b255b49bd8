-- The total of a month's files is the whole-number sum of times by finite first answers, and it never wraps: what is above zero and what is below each stay below 2 ^ 2133,
-- far from half of N. Assumes nothing.
use Rattle.std.specs.Prelude.{◌≡◌, ℕ, zero, suc, ◌+◌, ◌-◌, ◌*◌, ◌/◌, ◌%◌, ◌^◌, ◌<◌, ◌≤◌, Bool, true, false, cond, not, T, List, [], ◌∷◌, length, take, drop, ◌==◌, nat_le, slice_index, refl, Float}
use Rattle.std.proofs.Common.{sym, ap, ◌∙◌, mod-lt, mod-eq_of_lt, suc-mul, le_of_lt, lt_of_le_of_lt, lt_of_lt_of_le, mul-le-mul_right, arith, le-leb, leb-false, lit<, lit≤, pow_mono, get_or-drop}
use Rattle.std.proofs.Math.Nat.{add-mod, mod-add-mod, mod_self, zero-mod, div-add-mod}
use Rattle.std.proofs.lemmas.Bool.{lt-leb}
use Rattle.std.specs.Float.Ieee.{fits}
use Rattle.std.specs.Float.{binary64}
use Rattle.std.specs.Float.Ieee.Bits.{of_bits-fits}
use Rattle.laws.specs.Arithmetic.{+0}
use Rattle.total.specs.Total.{N, Half, complement, negative, size_of, units_of, size_of_total}
use Rattle.total.specs.laws.Limbs.{N-pos}
use Rattle.total.specs.laws.Units.{times-size-lt}
use Rattle.ledger.specs.Bytes.{number}
use Rattle.ledger.specs.Sheet.{Row, most_rows, row_place, with_times, function_in, times_in, first_in, finite_class, class_of, value_of}
use Rattle.ledger.specs.Calls.{rows_in, row_in, is_sheet_of, row_refusal, times_of}
use Rattle.month.specs.Month.{Leg, leg_at, legs_from, legs_of, total_of}
use Rattle.month.specs.Files.{File, most_files, taken, legs_in, all_legs, sheets_in, contents, Each, above, below}
use Rattle.month.specs.laws.Lists.{each_append}
use Rattle.month.specs.laws.Legs.{each_from, legs_few}
use Rattle.month.specs.laws.Sums.{sum_of, units, total_sum}

-- ---- times of bytes are below 2 ^ 16
abbrev pub Bytes : List ℕ → Type 0
Bytes s = (i : ℕ) → slice_index s i < 256

bytes_take : (n : ℕ) (l : List ℕ) → Bytes l → Bytes (take n l)
bytes_take zero l h i = omega arith
bytes_take (suc n) [] h i = omega arith
bytes_take (suc n) (x ∷ l) h zero = h zero
bytes_take (suc n) (x ∷ l) h (suc i) = bytes_take n l (λ j. h (suc j)) i

bytes_drop : (n : ℕ) (l : List ℕ) → Bytes l → Bytes (drop n l)
bytes_drop n l h i = rw (get_or-drop n l i 0) (h (n + i))

two_bytes : (l : List ℕ) → Bytes l → number (take 2 l) < 2 ^ 16
unfolding number
two_bytes [] h = omega arith
two_bytes (x ∷ []) h = omega (arith, h 0)
two_bytes (x ∷ y ∷ l) h = omega (arith, h 0, h 1)

pub times-lt : (s : List ℕ) → Bytes s → (i : ℕ) → times_of s i < 2 ^ 16
unfolding times_of times_in row_in
times-lt s h i = go (not (row_refusal s i == 0)) (is_sheet_of with_times s) (function_in (row_in s i) == 0)
  where
    w : Row
    w = take 48 (drop (row_place i) s)

    kept : number (take 2 (drop 2 w)) < 2 ^ 16
    kept = two_bytes (drop 2 w) (bytes_drop 2 w (bytes_take 48 (drop (row_place i) s) (bytes_drop (row_place i) s h)))

    go : (p q r : Bool) → cond p 0 (cond q (number (take 2 (drop 2 w))) (cond r 0 1)) < 2 ^ 16
    go true q r = omega arith
    go false true r = kept
    go false false true = omega arith
    go false false false = omega arith

pub often : (fs : List File) → Each Bytes (contents fs) → Each (λ (l : Leg). l.times < 2 ^ 16) (all_legs fs)
unfolding all_legs legs_in legs_of contents leg_at
often [] h = tt
often (f ∷ fs) h = each_append (λ (l : Leg). l.times < 2 ^ 16) (legs_in f) (all_legs fs) (go (taken f.bytes)) (often fs h.1)
  where
    go : (b : Bool) → Each (λ (l : Leg). l.times < 2 ^ 16) (cond b (legs_from f.number f.bytes 0 (rows_in f.bytes)) [])
    go true = each_from (λ (l : Leg). l.times < 2 ^ 16) f.number f.bytes 0 (rows_in f.bytes) (λ j g. times-lt f.bytes h.0 j)
    go false = tt

-- ---- a leg's size is far below N
cap : ℕ
cap = 2 ^ 2114

cap_N : cap ≤ N
unfolding cap N
cap_N = pow_mono {i = 2114} {j = 2176} (lit≤ tt)

either-fits : (b : Bool) (x y : Float) → T (fits binary64 x) → T (fits binary64 y) → T (fits binary64 (cond b x y))
either-fits true x y h g = h
either-fits false x y h g = g

value-fits : (w : Row) → T (fits binary64 (value_of w))
unfolding value_of first_in
value-fits w = either-fits (class_of w == finite_class) (first_in w) +0 (of_bits-fits binary64 _) (of_bits-fits binary64 0)

abbrev size : Leg → ℕ
size l = l.times * size_of (value_of l.bytes)

size_cap : (l : Leg) → l.times < 2 ^ 16 → size l < cap
unfolding cap
size_cap l h = times-size-lt l.times (value_of l.bytes) h (value-fits l.bytes)

-- ---- neither part reaches half of N
parts_le : (ls : List Leg) → Each (λ (l : Leg). l.times < 2 ^ 16) ls → (above ls ≤ length ls * cap) × (below ls ≤ length ls * cap)
unfolding above below
parts_le [] h = (omega arith, omega arith)
parts_le (l ∷ ls) h =
    let p = parts_le ls h.1 in
    let m = suc-mul (length ls) cap in
    let g = go (negative (value_of l.bytes)) (size l) (size_cap l h.0) in
    (omega (arith, g.0), omega (arith, g.1))
  where
    go : (b : Bool) (u : ℕ) → u < cap → (cond b 0 u ≤ cap) × (cond b u 0 ≤ cap)
    go true u h = (omega arith, omega arith)
    go false u h = (omega arith, omega arith)

room : most_rows * most_files * cap < 2 ^ 2133
unfolding cap
room = lit< tt

pub far_from_half : 2 ^ 2133 ≤ Half
unfolding Half
far_from_half = pow_mono {i = 2133} {j = 2175} (lit≤ tt)

half_of : Half + Half ≡ N
unfolding Half N
half_of = refl

-- ---- the sum modulo N is what is above less what is below
one : (b : Bool) (u : ℕ) → u ≤ N → (cond b (N - u) u % N + cond b u 0) % N ≡ cond b 0 u % N
one true u h = mod-add-mod (N - u) N u ∙ ap (λ (k : ℕ). k % N) (let e : N - u + u ≡ N = omega arith in e) ∙ mod_self N ∙ sym (zero-mod N)
one false u h = mod-add-mod u N 0 ∙ ap (λ (k : ℕ). k % N) (let e : u + 0 ≡ u = omega arith in e)

parts : (ls : List Leg) → Each (λ (l : Leg). l.times < 2 ^ 16) ls → (sum_of units ls + below ls) % N ≡ above ls % N
unfolding sum_of above below units_of complement
parts [] h = refl
parts (l ∷ ls) h =
    let s = negative (value_of l.bytes) in
    let u = units l.times l.bytes in
    let b = cond s (size l) 0 in
    let a = cond s 0 (size l) in
    ap (λ (k : ℕ). k % N) (let e : u + sum_of units ls + (b + below ls) ≡ (u + b) + (sum_of units ls + below ls) = omega arith in e)
    ∙ add-mod (u + b) (sum_of units ls + below ls) N
    ∙ (λ i. (one s (size l) (le_of_lt (lt_of_lt_of_le (size_cap l h.0) cap_N)) i + parts ls h.1 i) % N)
    ∙ sym (add-mod a (above ls) N)

-- ---- so it is their difference, in two's complement
difference : (v d a : ℕ) → v < N → d < Half → a < Half → (v + d) % N ≡ a % N → v ≡ cond (nat_le d a) (a - d) (N - (d - a))
difference v d a hv hd ha e = go ((v + d) / N) (sym (div-add-mod (v + d) N) ∙ ap (λ (k : ℕ). N * ((v + d) / N) + k) (e ∙ mod-eq_of_lt (let h : a < N = omega (arith, half_of) in h)))
  where
    go : (q : ℕ) → v + d ≡ N * q + a → v ≡ cond (nat_le d a) (a - d) (N - (d - a))
    go zero h = rw (le-leb d a (let g : d ≤ a = omega arith in g)) (omega arith)
    go (suc zero) h = rw (lt-leb d a (let g : a < d = omega arith in g)) (omega arith)
    go (suc (suc q)) h = absurd (omega (arith, half_of))

module _ (fs : List File) (few : sheets_in fs ≤ most_files) (bytes : Each Bytes (contents fs)) where
  most : length (all_legs fs) * cap < 2 ^ 2133
  most = lt_of_le_of_lt (mul-le-mul_right cap (let h : length (all_legs fs) ≤ most_rows * most_files = omega (arith, legs_few fs) in h)) room

  pub above_small : above (all_legs fs) < 2 ^ 2133
  above_small = lt_of_le_of_lt (parts_le (all_legs fs) (often fs bytes)).0 most

  pub below_small : below (all_legs fs) < 2 ^ 2133
  below_small = lt_of_le_of_lt (parts_le (all_legs fs) (often fs bytes)).1 most

  pub total_whole : total_of (all_legs fs) ≡ cond (nat_le (below (all_legs fs)) (above (all_legs fs))) (above (all_legs fs) - below (all_legs fs)) (N - (below (all_legs fs) - above (all_legs fs)))
  total_whole =
      total_sum (all_legs fs)
      ∙ difference (sum_of units (all_legs fs) % N) (below (all_legs fs)) (above (all_legs fs)) (mod-lt (sum_of units (all_legs fs)) N-pos)
      (lt_of_lt_of_le below_small far_from_half) (lt_of_lt_of_le above_small far_from_half)
      (mod-add-mod (sum_of units (all_legs fs)) N (below (all_legs fs)) ∙ parts (all_legs fs) (often fs bytes))

-- ---- and its sign and size are those of the difference
signed-whole : (v d a : ℕ) → d < Half → a < Half → v ≡ cond (nat_le d a) (a - d) (N - (d - a)) → (nat_le Half v ≡ not (nat_le d a)) × (size_of_total v ≡ cond (nat_le d a) (a - d) (d - a))
unfolding size_of_total
signed-whole v d a hd ha e = go (nat_le d a) refl e
  where
    go : (b : Bool) → nat_le d a ≡ b → v ≡ cond b (a - d) (N - (d - a)) → (nat_le Half v ≡ not b) × (cond (nat_le Half v) (N - v) v ≡ cond b (a - d) (d - a))
    go true t k = let l = lt-leb Half v (let h : v < Half = omega arith in h) in (l, rw l k)
    go false t k =
        let g = leb-false d a t in
        let l = le-leb Half v (let h : Half ≤ v = omega (arith, half_of) in h) in
        (l, rw l (omega (arith, half_of)))

pub exact-whole : (fs : List File) → sheets_in fs ≤ most_files → Each Bytes (contents fs)
    → (nat_le Half (total_of (all_legs fs)) ≡ not (nat_le (below (all_legs fs)) (above (all_legs fs))))
    × (size_of_total (total_of (all_legs fs)) ≡ cond (nat_le (below (all_legs fs)) (above (all_legs fs))) (above (all_legs fs) - below (all_legs fs)) (below (all_legs fs) - above (all_legs fs)))
exact-whole fs few bytes =
    signed-whole (total_of (all_legs fs)) (below (all_legs fs)) (above (all_legs fs)) (lt_of_lt_of_le (below_small fs few bytes) far_from_half) (lt_of_lt_of_le (above_small fs few bytes) far_from_half) (total_whole fs few bytes)
