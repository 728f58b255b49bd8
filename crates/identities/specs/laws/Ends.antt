-- The loop of ellipe.rs ends: from 1 and any y0 above 2 ^ -26 and at most 1 its test fails within 8 rounds, so that the bound on the rounds never shows. Assumes nothing.
use Rattle.std.specs.Prelude.{◌≡◌, List, [], ◌∷◌, Bool, true, false, not, cond, ◌&&◌, ◌||◌, ℕ, zero, suc, ◌+◌, ◌-◌, ◌*◌, ◌^◌, ◌≤◌, T, Float, Ok}
use Rattle.std.specs.Option.{option_map_or}
use Rattle.std.proofs.Math.Path.{refl}
use Rattle.std.proofs.Common.{sym, ap, ◌∙◌, subst, arith, lit≤, pow_pos}
use native.Mathlib.Nat.{le_of_lt, suc-add, zero-add}
use Rattle.std.specs.Float.{binary64}
use Rattle.std.specs.Float.Ieee.{fits, of_bits}
use Rattle.std.specs.Float.Ieee.Exact.{HasValue}
use Rattle.std.specs.Float.Ieee.Fits.{and_l, and_r}
use Rattle.laws.specs.Arithmetic.{◌⊖◌, ◌⊗◌, ◌⊘◌, ◌≤·◌, dec, 1·0}
use Rattle.laws.specs.laws.Flags.{fails}
use Rattle.root.specs.Root.{root_of}
use Rattle.answer.specs.declared.Answer.TheVariants.{One}
use Rattle.legendre.specs.Domain.{below_one_of}
use Rattle.legendre.specs.Mean.{arithmetic_of, geometric_of, goes_on_of, iterate, iterated}
use Rattle.pieces.specs.Piece.{piece_of, centre_of, e_piece_of}
use Rattle.legendre.specs.Ellipe.{√ε, e_tolerance, start_of, next_of, goes_on, last_sums_of, near_one_of, e_from_of, e_mean_of, e_below_one_of, e_negative_of, ellipe_within, ellipe_of}
use Rattle.legendre.specs.laws.Places.{Negative, Unit, Place, refused_1, refused_2, one, lowest, negative, unit, place}
use Rattle.laws.specs.laws.Sizes.{units_lt}
use Rattle.laws.specs.laws.Bounds.{Within, looser}
use Rattle.legendre.specs.laws.Rounds as rounds
use Rattle.legendre.specs.laws.Starts.{unit_start, inverse_within, m1_unit}
use Rattle.identities.specs.laws.Ratios.{rung}
use Rattle.identities.specs.laws.MeanRound.{State, step}
use Rattle.identities.specs.laws.StopTest.{near, stops}

-- the test fails within n rounds from x and y
unfoldable pub ends_in : ℕ → Float → Float → Bool
ends_in zero x y = not (goes_on_of e_tolerance x y)
ends_in (suc n) x y = not (goes_on_of e_tolerance x y) || ends_in n (arithmetic_of x y) (geometric_of x y)

-- ---- the ladder of ratios 1 + more / bottom, one for each round
record Ratio : Type 0 where
  bottom : ℕ
  more : ℕ

unfoldable descends : ℕ → ℕ → List Ratio → Bool
unfolding rung near
descends D G [] = near D G
descends D G (r ∷ rs) = rung (2 ^ 53 - 1) (2 ^ 53) (2 ^ 52) (D + G) D (r.bottom + r.more) r.bottom && descends r.bottom r.more rs

unfoldable count : List Ratio → ℕ
count [] = 0
count (r ∷ rs) = suc (count rs)

or_r : (a b : Bool) → T b → T (a || b)
or_r true b t = tt
or_r false b t = t

ends : (rs : List Ratio) (x y : Float) (D G : ℕ) → T (descends D G rs) → State x y (D + G) D → T (ends_in (count rs) x y)
unfolding descends count ends_in
ends [] x y D G g z = stops x y D G g z
ends (r ∷ rs) x y D G g z =
    let here = rung (2 ^ 53 - 1) (2 ^ 53) (2 ^ 52) (D + G) D (r.bottom + r.more) r.bottom in
    or_r (not (goes_on_of e_tolerance x y)) (ends_in (count rs) (arithmetic_of x y) (geometric_of x y))
    (ends rs (arithmetic_of x y) (geometric_of x y) r.bottom r.more (and_r here (descends r.bottom r.more rs) g)
    (step x y z.vx z.vy (D + G) D (r.bottom + r.more) r.bottom (and_l here (descends r.bottom r.more rs) g) z.up z.dn))

infix 75 ◌on◌
abbrev ◌on◌ : ℕ → ℕ → Ratio
m on b = record { bottom = b; more = m }

-- from 2 ^ 26 down to 1 + 10 / 2 ^ 54
abbrev ladder : List Ratio
ladder =
    4096 on 1 ∷ 32 on 1 ∷ 2 on 1 ∷ 16 on 100 ∷ 3 on 1000 ∷ 2 on 1000000 ∷ 1 on 1000000000000 ∷ 10 on 18014398509481984 ∷ []

ladder_holds : T (descends 1 67108863 ladder)
unfolding descends
ladder_holds = tt

pub ends_in_8 : (y0 : Float) → Within 1048 1074 y0 → T (ends_in 8 1·0 y0)
unfolding count
ends_in_8 y0 w = ends ladder 1·0 y0 1 67108863 ladder_holds (start y0 w)
  where
    widest : (a b r l u : ℕ) → a ≤ u → l ≤ b → u ≤ l * r → a * 1 ≤ b * r
    widest a b r l u p q h = let k : l * r ≤ b * r = native.Mathlib.Nat.mul-le-mul_right r q in omega arith

    start : (y0 : Float) → Within 1048 1074 y0 → State 1·0 y0 (1 + 67108863) 1
    start y0 w =
        let x : Within 1048 1074 1·0 = looser 1048 1074 (lit≤ tt) (lit≤ tt) rounds.one in
        record {
          vx = x;
          vy = w;
          up = widest x.units w.units (1 + 67108863) (2 ^ 1048) (2 ^ 1074) x.most w.least (lit≤ tt);
          dn = widest w.units x.units (1 + 67108863) (2 ^ 1048) (2 ^ 1074) w.most x.least (lit≤ tt);
        }

-- ---- the run of the sums
-- a loop whose test fails within n rounds makes no more, whatever its bound
unfoldable stops_in : {S : Type 0} → (S → Bool) → (S → S) → ℕ → S → Bool
stops_in goes round zero s = not (goes s)
stops_in goes round (suc n) s = not (goes s) || stops_in goes round n (round s)

more : {S : Type 0} (goes : S → Bool) (round : S → S) (n k : ℕ) (s : S) → T (stops_in goes round n s) → iterated goes round (n + k) s ≡ iterated goes round n s
unfolding stops_in iterate
more goes round zero k s h = ap (λ (j : ℕ). iterated goes round j s) (zero-add k) ∙ go k (goes s) h
  where
    go : (k : ℕ) (b : Bool) → T (not b) → iterate goes round k b s ≡ s
    go zero b t = refl
    go (suc k) true t = absurd t
    go (suc k) false t = refl
more goes round (suc n) k s h = ap (λ (j : ℕ). iterated goes round j s) (suc-add n k) ∙ go (more goes round n k (round s)) (goes s) h
  where
    go : (T (stops_in goes round n (round s)) → iterated goes round (n + k) (round s) ≡ iterated goes round n (round s)) → (b : Bool) → T (not b || stops_in goes round n (round s))
        → iterate goes round (suc (n + k)) b s ≡ iterate goes round (suc n) b s
    go ih false t = refl
    go ih true t = ih t

-- the sums' test reads their two means alone
by_means : (n : ℕ) (s : _) → stops_in (goes_on e_tolerance) next_of n s ≡ ends_in n s.x s.y
unfolding stops_in ends_in goes_on
by_means zero s = refl
by_means (suc n) s = ap (λ (b : Bool). not (goes_on e_tolerance s) || b) (by_means n (next_of s) ∙ (unfold next_of in refl))

enough : (n : ℕ) → 8 ≤ n → n ≡ 8 + (n - 8)
enough n h = omega arith

sums_same : (n : ℕ) (y0 : Float) → 8 ≤ n → Within 1048 1074 y0 → last_sums_of n e_tolerance y0 ≡ last_sums_of 8 e_tolerance y0
unfolding last_sums_of
sums_same n y0 h w = ap (λ (j : ℕ). iterated (goes_on e_tolerance) next_of j (start_of y0)) (enough n h) ∙ more (goes_on e_tolerance) next_of 8 (n - 8) (start_of y0) (subst T (sym (by_means 8 (start_of y0) ∙ first y0)) (ends_in_8 y0 w))
  where
    first : (y0 : Float) → ends_in 8 (start_of y0).x (start_of y0).y ≡ ends_in 8 1·0 y0
    first y0 = unfold start_of in refl

-- ---- and so of every m
√ε-value : HasValue √ε false (2 ^ 1048) (2 ^ 1074)
unfolding of_bits
√ε-value = (refl, refl)

mean_same : (n : ℕ) (y0 : Float) → 8 ≤ n → Within 537 1074 y0 → e_mean_of n y0 ≡ e_mean_of 8 y0
unfolding e_mean_of
mean_same n y0 h w = go (y0 ≤· √ε) refl
  where
    go : (b : Bool) → y0 ≤· √ε ≡ b → cond b (near_one_of y0) (e_from_of (last_sums_of n e_tolerance y0)) ≡ cond b (near_one_of y0) (e_from_of (last_sums_of 8 e_tolerance y0))
    go true t = refl
    go false t = ap e_from_of (sums_same n y0 h (record { units = w.units; value = w.value; least = le_of_lt (units_lt y0 √ε w.units (2 ^ 1048) (2 ^ 1074) (pow_pos 1074) w.value √ε-value (fails t)); most = w.most }))

below-same : (n : ℕ) (m : Float) → 8 ≤ n → Unit m → e_below_one_of n m ≡ e_below_one_of 8 m
unfolding e_below_one_of below_one_of
below-same n m h u = ap (option_map_or (λ i. e_piece_of i (m ⊖ centre_of i)) (piece_of m)) (mean_same n (root_of (1·0 ⊖ m)) h (unit_start u))

negative-same : (n : ℕ) (m : Float) → 8 ≤ n → Negative m → e_negative_of n (root_of (1·0 ⊖ m)) (m ⊘ (m ⊖ 1·0)) ≡ e_negative_of 8 (root_of (1·0 ⊖ m)) (m ⊘ (m ⊖ 1·0))
unfolding e_negative_of
negative-same n m h k = ap (λ (z : Float). c ⊗ z) (go (dec 9 1 ≤· m1) refl)
  where
    c : Float
    c = root_of (1·0 ⊖ m)

    m1 : Float
    m1 = m ⊘ (m ⊖ 1·0)

    go : (b : Bool) → dec 9 1 ≤· m1 ≡ b → cond b (e_mean_of n (1·0 ⊘ c)) (e_below_one_of n m1) ≡ cond b (e_mean_of 8 (1·0 ⊘ c)) (e_below_one_of 8 m1)
    go true t = mean_same n (1·0 ⊘ c) h (inverse_within m k)
    go false t = below-same n m1 h (m1_unit m k t)

eight : (m : Float) → T (fits binary64 m) → (n : ℕ) → 8 ≤ n → ellipe_within n m ≡ ellipe_within 8 m
unfolding ellipe_within
eight m f n h = go (place m f)
  where
    go : Place m → ellipe_within n m ≡ ellipe_within 8 m
    go (refused_1 e) = e _ _ _ _ ∙ sym (e _ _ _ _)
    go (refused_2 e) = e _ _ _ _ ∙ sym (e _ _ _ _)
    go (one e) = e _ _ _ _ ∙ sym (e _ _ _ _)
    go (lowest e) = e _ _ _ _ ∙ sym (e _ _ _ _)
    go (negative k e) = e _ _ _ _ ∙ ap (λ (v : Float). Ok (One v)) (negative-same n m h k) ∙ sym (e _ _ _ _)
    go (unit u e) = e _ _ _ _ ∙ ap (λ (v : Float). Ok (One v)) (below-same n m h u) ∙ sym (e _ _ _ _)

-- whatever the bound, from 8 rounds on
pub ellipe_ends : (m : Float) → T (fits binary64 m) → (n : ℕ) → 8 ≤ n → ellipe_within n m ≡ ellipe_of m
unfolding ellipe_of
ellipe_ends m f n h = eight m f n h ∙ sym (eight m f 32 (lit≤ tt))
