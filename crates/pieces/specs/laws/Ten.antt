-- There are ten pieces: the one that m falls in is below 10. Assumes nothing.
use Rattle.std.specs.Prelude.{◌≡◌, ℕ, ◌-◌, ◌*◌, ◌/◌, ◌^◌, ◌<◌, Bool, true, false, cond, ◌&&◌, T, Some, None, option_map, nat_lt, Float}
use Rattle.std.proofs.Common.{sym, subst, div-lt_iff_lt-mul, arith, ltb→lt, lit<}
use Rattle.std.specs.Float.{nan, inf, fin}
use Rattle.std.specs.Float.Ieee.{up, down, lt, neg, of_bits, to_unsigned}
use Rattle.std.specs.Float.Ieee.Fits.{and_r, down_pos}
use Rattle.laws.specs.Arithmetic.{◌⊗◌, ◌<·◌, 1·0, 20·0}
use Rattle.pieces.specs.Piece.{18·0, truncated_of, row_of, piece_of}

cut-lt : (t : Float) → T (t <· 18·0) → to_unsigned 64 t < 18
unfolding lt of_bits to_unsigned
cut-lt nan h = absurd h
cut-lt (inf true) h = lit< tt
cut-lt (inf false) h = absurd h
cut-lt (fin true m e) h = lit< tt
cut-lt (fin false m e) h =
    let l : m * up e * 1 < 9 * 2 ^ 1 * down e = ltb→lt (m * up e * 1) (9 * 2 ^ 1 * down e) h in
    let q : m * up e / down e < 18 = (div-lt_iff_lt-mul (down_pos e)).1 (omega arith) in
    omega arith

row-lt : (k : ℕ) → k < 18 → row_of k < 10
unfolding row_of
row-lt k h = go (nat_lt k 16) (ltb→lt k 16)
  where
    go : (b : Bool) → (T b → k < 16) → cond b (k / 2) (k - 8) < 10
    go true p = let l : k < 16 = p tt in omega arith
    go false p = omega arith

pub ten_pieces : (m : Float) (i : ℕ) → Some i ≡ piece_of m → i < 10
unfolding piece_of truncated_of
ten_pieces m i e = go (neg 1·0 <· m ⊗ 20·0 && m ⊗ 20·0 <· 18·0) (λ h. cut-lt (m ⊗ 20·0) (and_r (neg 1·0 <· m ⊗ 20·0) (m ⊗ 20·0 <· 18·0) h)) e
  where
    go : (b : Bool) → (T b → to_unsigned 64 (m ⊗ 20·0) < 18) → Some i ≡ option_map row_of (cond b (Some (to_unsigned 64 (m ⊗ 20·0))) None) → i < 10
    go true p e =
        let q : i ≡ row_of (to_unsigned 64 (m ⊗ 20·0)) = cc in
        subst (λ (n : ℕ). n < 10) (sym q) (row-lt (to_unsigned 64 (m ⊗ 20·0)) (p tt))
    go false p e = absurd (cc)
