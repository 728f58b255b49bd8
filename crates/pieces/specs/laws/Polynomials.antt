-- K and E on the pieces are finite: every coefficient is below 2 ^ 60, a test that is computed once over the tables. Assumes nothing.
use Rattle.std.specs.Prelude.{◌≡◌, ℕ, zero, suc, ◌+◌, ◌*◌, ◌^◌, ◌<◌, ◌≤◌, Bool, true, false, cond, ◌&&◌, T, List, [], ◌∷◌, length, get_or, ◌==◌, nat_le, slice_index_or, refl, Float}
use Rattle.std.proofs.Common.{sym, ⊎_elim, le_trans, le_of_eq, le_of_mul-le-mul_right, not-suc-le-zero, le_of_suc-le-suc, eqb→eq, lit≤, lit<}
use Rattle.std.proofs.Math.Path.{subst}
use native.Mathlib.Omega.{arith}
use Rattle.std.proofs.Math.Dec.{leb→le}
use Rattle.std.specs.Float.Ieee.{nan, fits, up, down, of_bits, neg}
use Rattle.std.specs.Float.{inf, fin, binary64}
use Rattle.std.specs.Float.Ieee.Bits.{of_bits-fits}
use Rattle.std.specs.Float.Ieee.Fits.{down_pos, and_l, and_r, add-fits, cond-fits}
use Rattle.std.proofs.lemmas.List.{get_or_past}
use Rattle.laws.specs.laws.Flags.{lt-or-le}
use Rattle.laws.specs.Arithmetic.{◌⊕◌, ◌⊖◌, ◌⊗◌, dec, +0}
use Rattle.pieces.specs.Coeffs.{k_rows, e_rows}
use Rattle.pieces.specs.Polyeval.{paired_of, horner_of, polyeval_of}
use Rattle.pieces.specs.Piece.{centres, centre_of, k_piece_of, e_piece_of}
use Rattle.laws.specs.laws.Units.{in_units}
use Rattle.laws.specs.laws.Bounds.{Small, wider, small_mul, small_add, small_sub}

-- ---- a test of a value's size
abbrev bounded : ℕ → Float → Bool
bounded j nan = false
bounded j (inf s) = false
bounded j (fin s m e) = nat_le (down e) (2 ^ 1074) && nat_le (m * up e * 2 ^ 1074) (2 ^ j * down e)

small_of : (j : ℕ) (x : Float) → T (bounded j x) → Small j x
small_of j nan t = absurd t
small_of j (inf s) t = absurd t
small_of j (fin s m e) t =
    let p = leb→le (down e) (2 ^ 1074) (and_l (nat_le (down e) (2 ^ 1074)) (nat_le (m * up e * 2 ^ 1074) (2 ^ j * down e)) t) in
    let q = leb→le (m * up e * 2 ^ 1074) (2 ^ j * down e) (and_r (nat_le (down e) (2 ^ 1074)) (nat_le (m * up e * 2 ^ 1074) (2 ^ j * down e)) t) in
    let u = in_units (m * up e) e p in
    record { sign = s; units = u.count; value = (refl, u.is); most = le_of_mul-le-mul_right (le_trans (le_of_eq (sym u.is)) q) (down_pos e) }

abbrev every : ℕ → List Float → Bool
every j [] = true
every j (x ∷ xs) = bounded j x && every j xs

at : (j : ℕ) (d : Float) (xs : List Float) → T (every j xs) → (i : ℕ) → i < length xs → Small j (slice_index_or xs i d)
at j d [] t i h = absurd (not-suc-le-zero h)
at j d (x ∷ xs) t zero h = small_of j x (and_l (bounded j x) (every j xs) t)
at j d (x ∷ xs) t (suc i) h = at j d xs (and_r (bounded j x) (every j xs) t) i (le_of_suc-le-suc h)

-- of a row: at most 20 coefficients, each at most 2 ^ 60
abbrev sound : List Float → Bool
sound r = nat_le (length r) 20 && every 1134 r

abbrev all_sound : List (List Float) → Bool
all_sound [] = true
all_sound (r ∷ rs) = sound r && all_sound rs

sound-at : (rs : List (List Float)) → T (all_sound rs) → (i : ℕ) → T (sound (slice_index_or rs i []))
sound-at [] t i = tt
sound-at (r ∷ rs) t zero = and_l (sound r) (all_sound rs) t
sound-at (r ∷ rs) t (suc i) = sound-at rs (and_r (sound r) (all_sound rs) t) i

k_rows_sound : T (all_sound k_rows)
unfolding k_rows dec
k_rows_sound = tt

e_rows_sound : T (all_sound e_rows)
unfolding e_rows dec neg
e_rows_sound = tt

zero_small : (j : ℕ) → Small j +0
unfolding of_bits
zero_small j = record { sign = false; units = 0; value = (refl, refl); most = none (2 ^ j) }
  where
    none : (n : ℕ) → 0 ≤ n
    none n = omega arith

-- ---- the two forms
module _ (x : Float) (s : Small 1075 x) where
  horner_small : (c : List Float) → T (every 1134 c) → length c ≤ 400 → Small (1134 + 2 * length c) (horner_of x c)
  unfolding horner_of
  horner_small [] t l = zero_small 1134
  horner_small (k ∷ ks) t l =
      let n = length ks in
      let h : n ≤ 400 = omega (arith, l) in
      let a = horner_small ks (and_r (bounded 1134 k) (every 1134 ks) t) h in
      let b = small_mul (1135 + 2 * n) (omega arith) (omega arith) a s in
      let c = wider (1135 + 2 * n) (omega arith) (small_of 1134 k (and_l (bounded 1134 k) (every 1134 ks) t)) in
      let e : suc (1135 + 2 * n) ≡ 1134 + 2 * suc n = omega arith in
      subst (λ (j : ℕ). Small j (horner_of x (k ∷ ks))) e (small_add (omega arith) b c)

  x2 : Small 1076 (x ⊗ x)
  x2 = small_mul 1076 (lit< tt) (lit≤ tt) s s

  x4 : Small 1078 (x ⊗ x ⊗ (x ⊗ x))
  x4 = small_mul 1078 (lit< tt) (lit≤ tt) x2 x2

  x8 : Small 1082 (x ⊗ x ⊗ (x ⊗ x) ⊗ (x ⊗ x ⊗ (x ⊗ x)))
  x8 = small_mul 1082 (lit< tt) (lit≤ tt) x4 x4

  paired_small : (c : List Float) → T (every 1134 c) → length c ≡ 12 → Small 1148 (paired_of x c)
  unfolding paired_of
  paired_small c t e =
      let p0 = p 0 1 (lit< tt) (lit< tt) in
      let q0 = q p0 (p 2 3 (lit< tt) (lit< tt)) in
      let q1 = q (p 4 5 (lit< tt) (lit< tt)) (p 6 7 (lit< tt) (lit< tt)) in
      let q2 = q (p 8 9 (lit< tt) (lit< tt)) (p 10 11 (lit< tt) (lit< tt)) in
      let r0 = small_add (lit< tt) (wider 1143 (lit≤ tt) q0) (small_mul 1143 (lit< tt) (lit≤ tt) q1 x4) in
      small_add (lit< tt) (wider 1147 (lit≤ tt) r0) (small_mul 1147 (lit< tt) (lit≤ tt) q2 x8)
    where
      a : (i : ℕ) → i < 12 → Small 1134 (slice_index_or c i nan)
      a i h = at 1134 nan c t i (subst (λ (n : ℕ). i < n) (sym e) h)

      p : (i j : ℕ) → i < 12 → j < 12 → Small 1136 (get_or c i nan ⊕ get_or c j nan ⊗ x)
      p i j h k = small_add (lit< tt) (wider 1135 (lit≤ tt) (a i h)) (small_mul 1135 (lit< tt) (lit≤ tt) (a j k) s)

      q : {u v : Float} → Small 1136 u → Small 1136 v → Small 1139 (u ⊕ v ⊗ (x ⊗ x))
      q u v = small_add (lit< tt) (wider 1138 (lit≤ tt) u) (small_mul 1138 (lit< tt) (lit≤ tt) v x2)

  poly_small : (c : List Float) → T (sound c) → Small 1180 (polyeval_of x c)
  unfolding polyeval_of
  poly_small c t = go (length c == 12) (eqb→eq (length c) 12)
    where
      l : length c ≤ 20
      l = leb→le (length c) 20 (and_l (nat_le (length c) 20) (every 1134 c) t)

      r : T (every 1134 c)
      r = and_r (nat_le (length c) 20) (every 1134 c) t

      go : (b : Bool) → (T b → length c ≡ 12) → Small 1180 (cond b (paired_of x c) (horner_of x c))
      go true h = wider 1180 (lit≤ tt) (paired_small c r (h tt))
      go false h = wider 1180 (omega (arith, l)) (horner_small c r (omega (arith, l)))

  pub k_piece_small : (i : ℕ) → Small 1180 (k_piece_of i x)
  unfolding k_piece_of
  k_piece_small i = poly_small (slice_index_or k_rows i []) (sound-at k_rows k_rows_sound i)

  pub e_piece_small : (i : ℕ) → Small 1180 (e_piece_of i x)
  unfolding e_piece_of
  e_piece_small i = poly_small (slice_index_or e_rows i []) (sound-at e_rows e_rows_sound i)

-- ---- the distance from the centre
centre_small : (i : ℕ) → Small 1074 (centre_of i)
unfolding centre_of dec
centre_small i = ⊎_elim (at 1074 +0 centres tt i) (λ h. let e : +0 ≡ centre_of i = sym (get_or_past centres i +0 h) in subst (λ (c : Float). Small 1074 c) e (zero_small 1074)) (lt-or-le i 10)

pub delta_small : {m : Float} (i : ℕ) → Small 1074 m → Small 1075 (m ⊖ centre_of i)
delta_small i s = small_sub (lit< tt) s (centre_small i)

-- ---- and they are f64
horner_fits : (x : Float) (c : List Float) → T (fits binary64 (horner_of x c))
unfolding horner_of
horner_fits x [] = of_bits-fits binary64 0
horner_fits x (k ∷ ks) = add-fits binary64 (horner_of x ks ⊗ x) k

paired_fits : (x : Float) (c : List Float) → T (fits binary64 (paired_of x c))
unfolding paired_of
paired_fits x c = add-fits binary64 _ _

pub poly_fits : (x : Float) (c : List Float) → T (fits binary64 (polyeval_of x c))
unfolding polyeval_of
poly_fits x c = cond-fits binary64 (length c == 12) (paired_of x c) (horner_of x c) (paired_fits x c) (horner_fits x c)
