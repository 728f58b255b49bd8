-- The three functions keep Promises.antt. Assumes nothing.
use Rattle.std.specs.Prelude.{◌≡◌, Bool, true, false, cond, ℕ, ◌^◌, T, Float, Result, Err}
use Rattle.std.proofs.Math.Path.{refl}
use Rattle.std.proofs.Common.{sym, subst, lit<}
use Rattle.std.proofs.Math.Dec.{lit≤}
use Rattle.std.specs.Float.Ieee.{binary64, is_nan, fits, of_bits}
use Rattle.std.specs.Float.Ieee.Bits.{of_bits-fits}
use Rattle.std.specs.Float.Ieee.Fits.{add-fits, mul-fits, div-fits}
use Rattle.std.specs.Float.Ieee.Scale.{finite}
use Rattle.laws.specs.Arithmetic.{◌⊖◌, ◌⊗◌, ◌⊘◌, ◌<·◌, ◌≤·◌, ◌=·◌, ◌≠·◌, dec, +0, +∞, -∞, ½, 1·0, 4·0}
use Rattle.root.specs.Root.{root_of}
use Rattle.answer.specs.Answer.{refusal_of}
use Rattle.answer.specs.Numbers.{stored}
use Rattle.answer.specs.Sound.{Number, Value, Sound}
use Rattle.answer.specs.laws.Sound.{number-value}
use Rattle.answer.specs.declared.Answer.{Answer}
use Rattle.answer.specs.declared.Refusal.{Refusal}
use Rattle.answer.specs.declared.Refusal.TheVariants.{NotANumber, AboveOne}
use Rattle.legendre.specs.declared.ke.Both.{Both}
use Rattle.legendre.specs.Domain.{by_domain}
use Rattle.pieces.specs.Piece.{centre_of, k_piece_of, e_piece_of}
use Rattle.legendre.specs.Ellipk.{k_from_of, k_mean_of, k_below_one_of, ellipk_of}
use Rattle.legendre.specs.Ellipe.{√ε, e_tolerance, near_one_of, e_from_of, last_sums_of, e_mean_of, e_below_one_of, e_negative_of, ellipe_within, ellipe_of}
use Rattle.legendre.specs.Ellipke.{both_mean_of, both_piece_of, both_below_one_of, scaled_of, both_negative_of, pair_of, ellipke_of}
use Rattle.legendre.specs.Promises.{refused_of, Answers}
use Rattle.legendre.specs.laws.Decided.{below}
use Rattle.legendre.specs.laws.Places.{Negative, Unit, unit_small, Place, refused_1, refused_2, one, lowest, negative, unit, place}
use Rattle.laws.specs.laws.Sizes.{finite_of_lem}
use Rattle.laws.specs.laws.Bounds.{Small, Within, small, wider, looser, small_mul, small_div, small_add, small_sub}
use Rattle.legendre.specs.laws.Rounds as rounds
use Rattle.legendre.specs.laws.Starts.{unit_start, c-within, inverse_within, m1_unit}
use Rattle.pieces.specs.laws.Polynomials.{k_piece_small, e_piece_small, delta_small, poly_fits}
use Rattle.legendre.specs.laws.Running.{last_sums_ended, last_means_k}
use Rattle.legendre.specs.laws.Logarithms.{ln_small}

-- ---- small values are finite, and no NaN
of_small : (j : ℕ) (x : Float) → Small j x → T (finite x)
of_small j x s = finite_of_lem x s.sign s.units (2 ^ 1074) s.value

zero-sound : Number +0
unfolding of_bits
zero-sound = record { bounded = tt; fit = of_bits-fits binary64 0 }

one-sound : Number 1·0
unfolding of_bits
one-sound = record { bounded = tt; fit = of_bits-fits binary64 0x3ff0_0000_0000_0000 }

infinite : Value +∞
unfolding of_bits is_nan
infinite = record { number = refl; fit = of_bits-fits binary64 0x7ff0_0000_0000_0000 }

-- ---- K and E between 0 and 1, of a size that leaves room for the factor c
record Fine (j : ℕ) (x : Float) : Type 0 where
  size : Small j x
  fit : T (fits binary64 x)

number : {j : ℕ} {x : Float} → Fine j x → Number x
number {j} {x} f = record { bounded = of_small j x f.size; fit = f.fit }

from_fits : (x y : Float) → T (fits binary64 (k_from_of x y))
unfolding k_from_of
from_fits x y = div-fits binary64 _ _

k_mean : {y0 : Float} → Within 537 1586 y0 → Fine 1345 (k_mean_of y0)
unfolding k_mean_of
k_mean {y0} w = record { size = last_means_k y0 w; fit = from_fits _ _ }

k_piece : (m : Float) → Unit m → (i : ℕ) → Fine 1345 (k_piece_of i (m ⊖ centre_of i))
k_piece m u i = record { size = wider 1345 (lit≤ tt) (k_piece_small (m ⊖ centre_of i) (delta_small i (unit_small u)) i); fit = unfold k_piece_of in poly_fits _ _ }

k-below : (m : Float) → Unit m → Fine 1345 (k_below_one_of m)
unfolding k_below_one_of
k-below m u = below k_piece_of k_mean_of m (Fine 1345) (λ i p l. k_piece m u i) (k_mean (looser 537 1586 (lit≤ tt) (lit≤ tt) (unit_start u)))

near-one : {y0 : Float} → Within 537 1074 y0 → Fine 1569 (near_one_of y0)
unfolding near_one_of
near-one {y0} w =
    let square = small_div 1073 (lit< tt) (lit≤ tt) (small_mul 1074 (lit< tt) (lit≤ tt) (small w) (small w)) rounds.two in
    let logs = small_sub (lit< tt) (ln_small 4·0 (lit≤ tt) four) (ln_small y0 (lit≤ tt) w) in
    let factor = small_sub (lit< tt) logs (wider 1091 (lit≤ tt) half) in
    let term = small_mul 1091 (lit< tt) (lit≤ tt) square factor in
    record { size = wider 1569 (lit≤ tt) (small_add (lit< tt) (wider 1091 (lit≤ tt) (small rounds.one)) term); fit = add-fits binary64 _ _ }
  where
    four : Within 1076 1076 4·0
    four = unfold of_bits in record { units = 2 ^ 1076; value = (refl, refl); least = lit≤ tt; most = lit≤ tt }

    half : Small 1073 ½
    half = unfold of_bits in record { sign = false; units = 2 ^ 1073; value = (refl, refl); most = lit≤ tt }

e_mean : {y0 : Float} → Within 537 1074 y0 → Fine 1569 (e_mean_of 32 y0)
unfolding e_mean_of
e_mean {y0} w = go (y0 ≤· √ε)
  where
    go : (b : Bool) → Fine 1569 (cond b (near_one_of y0) (e_from_of (last_sums_of 32 e_tolerance y0)))
    go true = near-one w
    go false = record { size = (last_sums_ended e_tolerance y0 w).e; fit = unfold e_from_of in mul-fits binary64 _ _ }

e_piece : (m : Float) → Unit m → (i : ℕ) → Fine 1569 (e_piece_of i (m ⊖ centre_of i))
e_piece m u i = record { size = wider 1569 (lit≤ tt) (e_piece_small (m ⊖ centre_of i) (delta_small i (unit_small u)) i); fit = unfold e_piece_of in poly_fits _ _ }

e-below : (m : Float) → Unit m → Fine 1569 (e_below_one_of 32 m)
unfolding e_below_one_of
e-below m u = below e_piece_of (e_mean_of 32) m (Fine 1569) (λ i p l. e_piece m u i) (e_mean (unit_start u))

record FineBoth (b : Both) : Type 0 where
  k : Fine 1345 b.k
  e : Fine 1569 b.e

both_mean : {y0 : Float} → Within 537 1074 y0 → FineBoth (both_mean_of y0)
unfolding both_mean_of
both_mean {y0} w =
    let s = last_sums_ended √ε y0 w in
    record { k = record { size = s.k; fit = from_fits _ _ }; e = go (y0 ≤· √ε) s.e }
  where
    go : (b : Bool) → Small 1569 (e_from_of (last_sums_of 32 √ε y0)) → Fine 1569 (cond b (near_one_of y0) (e_from_of (last_sums_of 32 √ε y0)))
    go true h = near-one w
    go false h = record { size = h; fit = unfold e_from_of in mul-fits binary64 _ _ }

both_below : (m : Float) → Unit m → FineBoth (both_below_one_of m)
unfolding both_below_one_of both_piece_of
both_below m u = below both_piece_of both_mean_of m FineBoth (λ i p l. record { k = k_piece m u i; e = e_piece m u i }) (both_mean (unit_start u))

-- ---- below 0
module _ (m : Float) (n : Negative m) where
  abbrev c : Float
  c = root_of (1·0 ⊖ m)

  abbrev m1 : Float
  m1 = m ⊘ (m ⊖ 1·0)

  e-negative : Number (e_negative_of 32 c m1)
  unfolding e_negative_of
  e-negative = go (dec 9 1 ≤· m1) refl
    where
      times : (e : Float) → Fine 1569 e → Number (c ⊗ e)
      times e f = record { bounded = of_small 2081 (c ⊗ e) (small_mul 2081 (lit< tt) (lit≤ tt) (small (c-within m n)) f.size); fit = mul-fits binary64 c e }

      go : (b : Bool) → dec 9 1 ≤· m1 ≡ b → Number (c ⊗ cond b (e_mean_of 32 (1·0 ⊘ c)) (e_below_one_of 32 m1))
      go true t = times (e_mean_of 32 (1·0 ⊘ c)) (e_mean (inverse_within m n))
      go false t = times (e_below_one_of 32 m1) (e-below m1 (m1_unit m n t))

  both_negative : Sound (pair_of (both_negative_of c m1))
  unfolding Sound pair_of both_negative_of scaled_of
  both_negative = go (dec 9 1 ≤· m1) refl
    where
      scaled : (b : Both) → FineBoth b → Value (b.k ⊘ c) × Value (c ⊗ b.e)
      scaled b f = (
        number-value (b.k ⊘ c) (record { bounded = of_small 1345 (b.k ⊘ c) (small_div 1345 (lit< tt) (lit≤ tt) f.k.size (c-within m n)); fit = div-fits binary64 b.k c }),
        number-value (c ⊗ b.e) (record { bounded = of_small 2081 (c ⊗ b.e) (small_mul 2081 (lit< tt) (lit≤ tt) (small (c-within m n)) f.e.size); fit = mul-fits binary64 c b.e }),
      )

      go : (b : Bool) → dec 9 1 ≤· m1 ≡ b → Value ((cond b (both_mean_of (1·0 ⊘ c)) (both_below_one_of m1)).k ⊘ c) × Value (c ⊗ (cond b (both_mean_of (1·0 ⊘ c)) (both_below_one_of m1)).e)
      go true t = scaled (both_mean_of (1·0 ⊘ c)) (both_mean (inverse_within m n))
      go false t = scaled (both_below_one_of m1) (both_below m1 (m1_unit m n t))

-- ---- every m
sound_domain : (m : Float) → T (fits binary64 m) → (a b c d : Result Answer Refusal) → Sound a → Sound b → (Negative m → Sound c) → (Unit m → Sound d) → Sound (by_domain m a b c d)
unfolding Sound stored
sound_domain m f a b c d p q r s = go (place m f)
  where
    go : Place m → Sound (by_domain m a b c d)
    go (refused_1 e) = subst Sound (sym (e a b c d)) (lit≤ tt, tt)
    go (refused_2 e) = subst Sound (sym (e a b c d)) (lit≤ tt, tt)
    go (one e) = subst Sound (sym (e a b c d)) p
    go (lowest e) = subst Sound (sym (e a b c d)) q
    go (negative n e) = subst Sound (sym (e a b c d)) (r n)
    go (unit u e) = subst Sound (sym (e a b c d)) (s u)

refusal_domain : (m : Float) (a b c d : Result Answer Refusal) → refusal_of a ≡ 0 → refusal_of b ≡ 0 → refusal_of c ≡ 0 → refusal_of d ≡ 0 → refusal_of (by_domain m a b c d) ≡ refused_of m
unfolding by_domain refused_of refusal_of
refusal_domain m a b c d p q r s = go (m ≠· m) (1·0 <· m) (m =· 1·0) (m =· -∞) (m <· +0)
  where
    go : (t u v w x : Bool) → refusal_of (cond t (Err NotANumber) (cond u (Err AboveOne) (cond v a (cond w b (cond x c d))))) ≡ cond t 1 (cond u 2 0)
    go true u v w x = refl
    go false true v w x = refl
    go false false true w x = p
    go false false false true x = q
    go false false false false true = r
    go false false false false false = s

pub ellipk_answers : Answers ellipk_of
unfolding ellipk_of Sound refusal_of
ellipk_answers =
    record {
      refusal = λ m. refusal_domain m _ _ _ _ refl refl refl refl;
      sound = λ m f. sound_domain m f _ _ _ _ tt zero-sound (λ n. number (k_mean (looser 537 1586 (lit≤ tt) (lit≤ tt) (c-within m n)))) (λ u. number (k-below m u));
    }

pub ellipe_answers : Answers ellipe_of
unfolding ellipe_of ellipe_within Sound refusal_of
ellipe_answers =
    record {
      refusal = λ m. refusal_domain m _ _ _ _ refl refl refl refl;
      sound = λ m f. sound_domain m f _ _ _ _ one-sound tt (λ n. e-negative m n) (λ u. number (e-below m u));
    }

pub ellipke_answers : Answers ellipke_of
unfolding ellipke_of pair_of Sound refusal_of
ellipke_answers =
    record {
      refusal = λ m. refusal_domain m _ _ _ _ refl refl refl refl;
      sound = λ m f. sound_domain m f _ _ _ _ (infinite, number-value 1·0 one-sound) (number-value +0 zero-sound, infinite) (λ n. both_negative m n) (λ u. (number-value _ (number (both_below m u).k), number-value _ (number (both_below m u).e)));
    }
