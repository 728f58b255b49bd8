-- The total of at most 1,024 rows is the whole-number sum of times by finite first answers, and it never wraps. Assumes nothing.
use Rattle.std.specs.Prelude.{◌≡◌, refl, Bool, true, false, cond, List, ℕ, ◌+◌, ◌-◌, ◌*◌, ◌%◌, ◌^◌, ◌≤◌, ◌<◌, leb, ltb, length, Float}
use Rattle.std.proofs.Common.{ap, ◌∙◌, sym, mod-lt, mod-eq_of_lt, suc-mul, le_trans, le_of_lt, lt_of_le_of_lt, lt_of_lt_of_le, mul-le-mul_right, arith, le-leb, leb-false, ltb-true, ltb-false, lit<, lit≤, pow_mono}
use Rattle.std.proofs.Math.Nat.{add-mod, mod-add-mod, mod-eq-sub-mod, mod_self, zero-mod}
use Rattle.std.proofs.lemmas.Bool.{lt-leb}
use Rattle.std.proofs.Math.Pow.{pow-lt}
use Rattle.std.specs.Float.Ieee.{round}
use Rattle.std.specs.Float.{binary64}
use Rattle.total.specs.Total.{N, Half, complement, round_total}
use Rattle.total.specs.laws.Limbs.{N-pos}
use Rattle.ledger.specs.Sheet.{Row, most_rows, negative_in, size_in, units_in, sum}
use Rattle.demands.specs.laws.Numbers.{size_in_lt}
use Rattle.demands.specs.Edits.{above, below}
use Rattle.demands.specs.laws.Rows.{Good, Rows, none, more}

-- ---- neither part reaches half of N
cap : ℕ
cap = 2 ^ 2114

cap_N : cap ≤ N
unfolding cap N
cap_N = pow_mono {i = 2114} {j = 2176} (lit≤ tt)

size_cap : (w : Row) → Good w → size_in w < cap
unfolding cap
size_cap w g = size_in_lt w g.times

parts_le : {ws : List Row} → Rows ws → (above ws ≤ length ws * cap) × (below ws ≤ length ws * cap)
unfolding above below
parts_le none = (omega arith, omega arith)
parts_le (more {w = w} {ws = ws} good r) =
    let p = parts_le r in
    let m = suc-mul (length ws) cap in
    let g = go (negative_in w) (size_in w) (size_cap w good) in
    (omega (arith, g.0), omega (arith, g.1))
  where
    go : (b : Bool) (u : ℕ) → u < cap → (cond b 0 u ≤ cap) × (cond b u 0 ≤ cap)
    go true u h = (omega arith, omega arith)
    go false u h = (omega arith, omega arith)

room : most_rows * cap < Half
unfolding cap Half
room = pow-lt {i = 2124} {j = 2175} (lit< tt)

small : (n u : ℕ) → n ≤ most_rows → u ≤ n * cap → u < Half
small n u h g = lt_of_le_of_lt (le_trans g (mul-le-mul_right cap h)) room

half_of : Half + Half ≡ N
unfolding Half N
half_of = refl

-- ---- the sum modulo N is what is above less what is below
one : (w : Row) → Good w → (units_in w + cond (negative_in w) (size_in w) 0) % N ≡ cond (negative_in w) 0 (size_in w) % N
unfolding units_in complement
one w good = go (negative_in w) (size_in w) (le_of_lt (lt_of_lt_of_le (size_cap w good) cap_N))
  where
    go : (b : Bool) (u : ℕ) → u ≤ N → (cond b (N - u) u % N + cond b u 0) % N ≡ cond b 0 u % N
    go true u h = mod-add-mod (N - u) N u ∙ ap (λ (k : ℕ). k % N) (let e : N - u + u ≡ N = omega arith in e) ∙ mod_self N ∙ sym (zero-mod N)
    go false u h = mod-add-mod u N 0 ∙ ap (λ (k : ℕ). k % N) (let e : u + 0 ≡ u = omega arith in e)

parts : {ws : List Row} → Rows ws → (sum ws + below ws) % N ≡ above ws % N
unfolding sum above below
parts none = refl
parts (more {w = w} {ws = ws} good r) =
    let u = units_in w in
    let b = cond (negative_in w) (size_in w) 0 in
    let a = cond (negative_in w) 0 (size_in w) in
    ap (λ (k : ℕ). k % N) (let e : u + sum ws + (b + below ws) ≡ (u + b) + (sum ws + below ws) = omega arith in e)
    ∙ add-mod (u + b) (sum ws + below ws) N
    ∙ (λ i. (one w good i + parts r i) % N)
    ∙ sym (add-mod a (above ws) N)

-- v + d and a are alike modulo N
alike : (v d a : ℕ) → v < N → d < Half → a < Half → (v + d) % N ≡ a % N → v ≡ cond (leb d a) (a - d) (N - (d - a))
alike v d a hv hd ha e = go (ltb (v + d) N) refl
  where
    k : (v + d) % N ≡ a
    k = e ∙ mod-eq_of_lt (let h : a < N = omega (arith, half_of) in h)

    go : (b : Bool) → ltb (v + d) N ≡ b → v ≡ cond (leb d a) (a - d) (N - (d - a))
    go true t =
        let q : v + d ≡ a = sym (mod-eq_of_lt (ltb-true (v + d) N t)) ∙ k in
        rw (le-leb d a (let h : d ≤ a = omega arith in h)) (omega arith)
    go false t =
        let g = ltb-false (v + d) N t in
        let f : v + d - N < N = omega (arith, half_of) in
        let q : v + d - N ≡ a = sym (mod-eq_of_lt f) ∙ sym (mod-eq-sub-mod g) ∙ k in
        rw (lt-leb d a (let h : a < d = omega arith in h)) (omega arith)

module _ (ws : List Row) (r : Rows ws) (few : length ws ≤ most_rows) where
  pub above_small : above ws < Half
  above_small = small (length ws) (above ws) few (parts_le r).0

  pub below_small : below ws < Half
  below_small = small (length ws) (below ws) few (parts_le r).1

  pub total_whole : sum ws % N ≡ cond (leb (below ws) (above ws)) (above ws - below ws) (N - (below ws - above ws))
  total_whole =
      alike (sum ws % N) (below ws) (above ws) (mod-lt (sum ws) N-pos) below_small above_small (mod-add-mod (sum ws) N (below ws) ∙ parts r)

-- ---- and so is what it rounds to
pub rounded_whole : (v d a : ℕ) → d < Half → a < Half → v ≡ cond (leb d a) (a - d) (N - (d - a))
    → round_total v ≡ cond (leb d a) (round binary64 false (a - d) (2 ^ 1074)) (round binary64 true (d - a) (2 ^ 1074))
unfolding round_total
rounded_whole v d a hd ha e = ap round_of_lem e ∙ go (leb d a) refl
  where
    round_of_lem : ℕ → Float
    round_of_lem n = cond (leb Half n) (round binary64 true (N - n) (2 ^ 1074)) (round binary64 false n (2 ^ 1074))

    go : (b : Bool) → leb d a ≡ b → round_of_lem (cond b (a - d) (N - (d - a))) ≡ cond b (round binary64 false (a - d) (2 ^ 1074)) (round binary64 true (d - a) (2 ^ 1074))
    go true t = rw (lt-leb Half (a - d) (let h : a - d < Half = omega arith in h))
    go false t =
        let l = leb-false d a t in
        let h : Half ≤ N - (d - a) = omega (arith, half_of) in
        let f : N - (N - (d - a)) ≡ d - a = omega (arith, half_of) in
        rw (le-leb Half (N - (d - a)) h, f)
