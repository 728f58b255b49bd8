-- A function to whole numbers, by what it picks of a value's fraction: the same of any fraction of that value; and from 2 ^ 52 on, and where it is not finite, the value stays. Assumes nothing.
use Rattle.std.specs.Prelude.{◌≡◌, refl, Bool, true, false, ◌&&◌, ℕ, zero, suc, ◌+◌, ◌-◌, ◌*◌, ◌^◌, ◌≤◌, ◌<◌, T, ltb, ℤ, pos, negsuc, Float}
use Rattle.std.proofs.Common.{sym, ap, ◌∙◌, subst, true≢false, le_trans, le_of_eq, lt_of_lt_of_le, lt_of_le_of_lt, lt_irrefl, mul-one, mul_assoc, mul_right_comm, mul-le-mul, mul-le-mul_left, mul-le-mul_right, le_of_mul-le-mul_right, arith, ltb→lt, lt→ltb, le→leb, nltb→le, lit<, pow-add, pow_pos, pow_mono}
use Rattle.std.proofs.Math.Arith.{le→nltb}
use Rattle.std.proofs.Math.Nat.{eq_of_mul-eq-mul_right}
use Rattle.std.specs.Float.{nan, inf, fin, binary64}
use Rattle.std.specs.Float.Ieee.{up, down, round, fits, neg, of_int, in_float}
use Rattle.std.specs.Float.Ieee.Bits.{is_true, is_false}
use Rattle.std.specs.Float.Ieee.Exact.{HasValue}
use Rattle.std.specs.Float.Ieee.Fits.{down_pos}
use Rattle.std.specs.Float.Ieee.Scale.{finite}
use Rattle.laws.specs.laws.Exact.{fits_bounds, round_of_value, round-neg}
use Rattle.laws.specs.laws.Flags.{holds, fails, both_true}
use Rattle.bits.specs.Parts.{Decoded, PartsOf}

-- ---- the function

-- of ± a / c it picks a whole number, the same for equal fractions, and a whole number itself
pub record Picks (F : Float → Float) (pick : Bool → ℕ → ℕ → ℕ) : Type 0 where
  pub other : (x : Float) → finite x ≡ false → F x ≡ x
  pub at : (s : Bool) (m : ℕ) (e : ℤ) → F (fin s m e) ≡ round binary64 s (pick s (m * up e) (down e)) 1
  pub same : (s : Bool) (a c A C : ℕ) → 0 < c → 0 < C → a * C ≡ A * c → pick s a c ≡ pick s A C
  pub one : (s : Bool) (n : ℕ) → pick s n 1 ≡ n

-- ---- every value from 2 ^ 52 on is whole: it has at most 53 digits
pub digits_lt : (s : Bool) (m : ℕ) (e : ℤ) → T (fits binary64 (fin s m e)) → m < 2 ^ 53
digits_lt s zero e h = pow_pos 53
digits_lt s (suc m) e h = (fits_bounds binary64 s m e h).0

large_whole : (x : Float) (s : Bool) (a c : ℕ) → 0 < c → T (fits binary64 x) → HasValue x s a c → 2 ^ 52 * c ≤ a → (n : ℕ) × HasValue x s n 1
large_whole nan s a c C f h l = absurd h
large_whole (inf t) s a c C f h l = absurd h
large_whole (fin t m (pos k)) s a c C f h l = (m * 2 ^ k, (h.0, refl))
large_whole (fin t m (negsuc k)) s a c C f h l = absurd (lt_irrefl (2 ^ 52 * 2 ^ suc k) (lt_of_le_of_lt size (lt_of_lt_of_le (digits_lt t m (negsuc k) f) room)))
  where
    size : 2 ^ 52 * 2 ^ suc k ≤ m
    size =
        le_of_mul-le-mul_right
        (le_trans (le_of_eq (mul_right_comm (2 ^ 52) (2 ^ suc k) c)) (le_trans (mul-le-mul_right (2 ^ suc k) l) (le_of_eq (sym h.1 ∙ ap (λ (z : ℕ). z * c) (mul-one m))))) C

    room : 2 ^ 53 ≤ 2 ^ 52 * 2 ^ suc k
    room = mul-le-mul_left (2 ^ 52) (pow_mono {i = 1} (let z : 1 ≤ suc k = omega arith in z))

-- ---- a whole number with a sign
pub in_float_lem : (n : ℕ) → n ≤ 2 ^ 53 → T (in_float binary64 (pos n))
unfolding in_float
in_float_lem n h = le→leb n (2 ^ 53) h

pub signed-neg : (s : Bool) (n : ℕ) → s ≡ true → neg (of_int binary64 (pos n)) ≡ round binary64 s n 1
unfolding of_int
signed-neg s n e = sym (ap (λ (b : Bool). round binary64 b n 1) e ∙ round-neg binary64 false n 1)

pub signed_pos : (s : Bool) (n : ℕ) → s ≡ false → of_int binary64 (pos n) ≡ round binary64 s n 1
unfolding of_int
signed_pos s n e = sym (ap (λ (b : Bool). round binary64 b n 1) e)

-- ---- a value's parts, below 2 ^ 52
module _ (x : Float) (f s : Bool) (d e : ℕ) (p : PartsOf x f s d e) (q : (f && ltb e 1074) ≡ true) where
  pub decoded : Decoded x s d e
  decoded = p.decoded (sym p.kind ∙ (both_true f (ltb e 1074) q).0)

  pub under : e < 1074
  under = ltb→lt e 1074 (holds (both_true f (ltb e 1074) q).1)

  value : HasValue x s d (2 ^ (1074 - e))
  value = rescale x (subst (λ (z : ℕ). HasValue x s (d * 2 ^ e) z) (ap (λ (z : ℕ). 2 ^ z) (let u = under in let z : 1074 ≡ 1074 - e + e = omega arith in z) ∙ pow-add 2 (1074 - e) e) decoded.value)
    where
      rescale : (x : Float) → HasValue x s (d * 2 ^ e) (2 ^ (1074 - e) * 2 ^ e) → HasValue x s d (2 ^ (1074 - e))
      rescale nan h = h
      rescale (inf t) h = h
      rescale (fin t m k) h = (h.0, eq_of_mul-eq-mul_right (2 ^ e) (pow_pos e) (m * up k * 2 ^ (1074 - e)) (d * down k) (mul_assoc (m * up k) (2 ^ (1074 - e)) (2 ^ e) ∙ h.1 ∙ mul_right_comm d (2 ^ e) (down k)))

-- ---- what it picks
module _ (F : Float → Float) (pick : Bool → ℕ → ℕ → ℕ) (w : Picks F pick) where
  pub fraction : (x : Float) (s : Bool) (a c : ℕ) → 0 < c → HasValue x s a c → F x ≡ round binary64 s (pick s a c) 1
  fraction nan s a c q h = absurd h
  fraction (inf t) s a c q h = absurd h
  fraction (fin t m e) s a c q h = w.at t m e ∙ (λ i. round binary64 (h.0 i) (pick (h.0 i) (m * up e) (down e)) 1) ∙ ap (λ (n : ℕ). round binary64 s n 1) (w.same s (m * up e) (down e) a c (down_pos e) q h.1)

  whole : (x : Float) (s : Bool) (n : ℕ) → T (fits binary64 x) → HasValue x s n 1 → F x ≡ x
  whole x s n f h = fraction x s n 1 (lit< tt) h ∙ ap (λ (k : ℕ). round binary64 s k 1) (w.one s n) ∙ round_of_value binary64 x s n 1 (lit< tt) f h

  pub large : (x : Float) (s : Bool) (a c : ℕ) → 0 < c → T (fits binary64 x) → HasValue x s a c → 2 ^ 52 * c ≤ a → F x ≡ x
  large x s a c C f h l = let v = large_whole x s a c C f h l in whole x s v.0 f v.1

  module _ (x : Float) (f s : Bool) (d e : ℕ) (p : PartsOf x f s d e) where
    -- below 2 ^ 52: of d / 2 ^ (1074 - e)
    module _ (q : (f && ltb e 1074) ≡ true) (n : ℕ) (z : n ≡ pick s d (2 ^ (1074 - e))) where
      pub low : round binary64 s n 1 ≡ F x
      low = ap (λ (y : ℕ). round binary64 s y 1) z ∙ sym (fraction x s d (2 ^ (1074 - e)) (pow_pos (1074 - e)) (value x f s d e p q))

    -- the others stay as they are
    pub stays : T (fits binary64 x) → (f && ltb e 1074) ≡ false → x ≡ F x
    stays h q = go (finite x) refl
      where
        high : (b : Bool) → f ≡ b → finite x ≡ true → ltb e 1074 ≡ false
        high true r z = sym (ap (λ (b : Bool). b && ltb e 1074) r) ∙ q
        high false r z = absurd (true≢false (sym z ∙ sym p.kind ∙ r))

        go : (b : Bool) → finite x ≡ b → x ≡ F x
        go false z = sym (w.other x z)
        go true z =
            let v = p.decoded z in
            let u : 1074 ≤ e = nltb→le e 1074 (fails (high f refl z)) in
            sym (large x s (d * 2 ^ e) (2 ^ 1074) (pow_pos 1074) h v.value (mul-le-mul (v.lead (let y : 0 < e = omega arith in y)) (pow_mono u)))

  -- the same by the parts of a finite value, and by there being none
  pub picked : (x : Float) (s : Bool) (d e : ℕ) → PartsOf x true s d e → e < 1074 → (n : ℕ) → n ≡ pick s d (2 ^ (1074 - e)) → round binary64 s n 1 ≡ F x
  picked x s d e p h = low x true s d e p (is_true (ltb e 1074) (lt→ltb e 1074 h))

  pub far : (x : Float) (s : Bool) (d e : ℕ) → PartsOf x true s d e → T (fits binary64 x) → 1074 ≤ e → x ≡ F x
  far x s d e p f h = stays x true s d e p f (is_false (ltb e 1074) (le→nltb e 1074 h))

  pub no_parts : (x : Float) → PartsOf x false false 0 0 → x ≡ F x
  no_parts x p = sym (w.other x (sym p.kind))
