-- Below 18 a product is in range to be cut to a u64.
use Rattle.std.proofs.Common.{◌≡◌, ◌+◌, ◌*◌, ◌^◌, true, false, ◌&&◌, T, pos, sym, subst, arith, ltb→lt, lt→ltb, le-ltb, lt-ltb}
use lib.Ieee.{Float, nan, inf, fin, up, down, lt, neg, of_bits}
use lib.Ieee.Fits.{and_l, and_r, down_pos}
use Rattle.laws.specs.Arithmetic.{◌⊗◌, ◌<·◌, 1·0, 20·0}
use Rattle.pieces.specs.Piece.{18·0, truncated_of, row_of, piece_of}
use Rattle.pieces.proofs.coeffs.piece.Goals as goal

in_range : (t : Float) → T (t <· 18·0) → T (t <· fin false 1 (pos 64))
unfolding lt of_bits
in_range nan h = h
in_range (inf s) h = h
in_range (fin true m e) h = lt→ltb 0 (m * up e * 1 + 1 * 2 ^ 64 * down e) (let d = down_pos e in omega arith)
in_range (fin false m e) h = lt→ltb (m * up e * 1) (1 * 2 ^ 64 * down e) (let l = ltb→lt (m * up e * 1) (9 * 2 ^ 1 * down e) h in omega arith)

both : (t : Float) → (neg 1·0 <· t && t <· 18·0) ≡ true → T (neg 1·0 <· t) × T (t <· fin false 1 (pos 64))
both t e =
    let h : T (neg 1·0 <· t && t <· 18·0) = subst T (sym e) tt in
    (and_l (neg 1·0 <· t) (t <· 18·0) h, in_range t (and_r (neg 1·0 <· t) (t <· 18·0) h))

pub truncating_f64_to_u64-k-requires-clause-lower_bound : goal.truncating_f64_to_u64-k-requires-clause-lower_bound
unfolding of_bits neg
truncating_f64_to_u64-k-requires-clause-lower_bound c = (both (c.args.m ⊗ 20·0) c.if-t.true).0

pub truncating_f64_to_u64-k-requires-clause-upper_bound : goal.truncating_f64_to_u64-k-requires-clause-upper_bound
unfolding of_bits neg
truncating_f64_to_u64-k-requires-clause-upper_bound c = (both (c.args.m ⊗ 20·0) c.if-t.true).1

pub returns-then-k-lt16 : goal.returns-then-k-lt16
unfolding of_bits neg piece_of truncated_of row_of
returns-then-k-lt16 c = simp (c.if-t.true, ← c.truncating_f64_to_u64-k.ensures, lt-ltb _ _ c.if-k-lt16.true)

pub returns-else-k-lt16 : goal.returns-else-k-lt16
unfolding of_bits neg piece_of truncated_of row_of
returns-else-k-lt16 c = simp (c.if-t.true, ← c.truncating_f64_to_u64-k.ensures, le-ltb _ _ c.if-k-lt16.false)

pub returns : goal.returns
unfolding of_bits neg piece_of truncated_of row_of
returns c = simp c.if-t.false
