-- `root_of` by the kinds of its argument, and by the parts of a finite one. Assumes nothing.
use Rattle.std.proofs.Common.{◌≡◌, ℕ, zero, suc, ◌+◌, ◌*◌, ◌^◌, ◌<◌, Bool, true, false, T, ltb, ℤ, pos, sym, refl, ◌∙◌, true≢false, zero-lt-suc, mul-pos, arith, ltb→lt, lt→ltb, pow_pos}
use mathlib.Core.Bool.{false≢true}
use lib.Ieee.{Float, nan, inf, fin, up, down, lt}
use lib.Ieee.Bits.{is_true}
use lib.Ieee.Exact.{HasValue}
use lib.Ieee.Fits.{up_pos}
use lib.Ieee.Positive.{positive, first_pos, value_pos}
use lib.Ieee.Scale.{finite}
use Rattle.laws.specs.laws.Flags.{holds}
use Rattle.root.specs.Root.{root_of}

-- ---- what the tests against zero say
abbrev zero64 : Float
zero64 = fin false 0 (pos 0)

pub root_negative : (x : Float) → lt x zero64 ≡ true → nan ≡ root_of x
unfolding lt root_of
root_negative nan t = absurd (false≢true t)
root_negative (inf true) t = refl
root_negative (inf false) t = absurd (false≢true t)
root_negative (fin true zero e) t = absurd (let h = ltb→lt 0 (0 * up e * 1 + 0 * 1 * down e) (holds t) in let z : ⊥ = omega arith in z)
root_negative (fin true (suc m) e) t = refl
root_negative (fin false m e) t = absurd (let h = ltb→lt (m * up e * 1) (0 * 1 * down e) (holds t) in let z : ⊥ = omega arith in z)

pub root_infinite : (x : Float) → lt zero64 x ≡ true → finite x ≡ false → x ≡ root_of x
unfolding lt root_of
root_infinite nan a b = refl
root_infinite (inf true) a b = absurd (false≢true a)
root_infinite (inf false) a b = refl
root_infinite (fin s m e) a b = absurd (true≢false b)

pub is_positive : (x : Float) → lt zero64 x ≡ true → finite x ≡ true → T (positive x)
unfolding lt
is_positive nan a f = absurd (false≢true f)
is_positive (inf s) a f = absurd (false≢true f)
is_positive (fin true m e) a f = absurd (false≢true a)
is_positive (fin false zero e) a f = absurd (let h = ltb→lt (0 * 1 * down e) (0 * up e * 1) (holds a) in let z : ⊥ = omega arith in z)
is_positive (fin false (suc m) e) a f = lt→ltb 0 (suc m) (zero-lt-suc m)

-- neither above zero nor below it: a zero or NaN
above_zero : (m : ℕ) (e : ℤ) → lt zero64 (fin false (suc m) e) ≡ true
unfolding lt
above_zero m e = is_true (ltb (0 * 1 * down e) (suc m * up e * 1)) (lt→ltb (0 * 1 * down e) (suc m * up e * 1) (let p : 0 < suc m * up e = mul-pos (zero-lt-suc m) (up_pos e) in let z : 0 * 1 * down e < suc m * up e * 1 = omega arith in z))

below-zero : (m : ℕ) (e : ℤ) → lt (fin true (suc m) e) zero64 ≡ true
unfolding lt
below-zero m e = is_true (ltb 0 (suc m * up e * 1 + 0 * 1 * down e)) (lt→ltb 0 (suc m * up e * 1 + 0 * 1 * down e) (let p : 0 < suc m * up e = mul-pos (zero-lt-suc m) (up_pos e) in let z : 0 < suc m * up e * 1 + 0 * 1 * down e = omega arith in z))

pub root_self : (x : Float) → lt zero64 x ≡ false → lt x zero64 ≡ false → x ≡ root_of x
unfolding lt root_of
root_self nan a b = refl
root_self (inf true) a b = absurd (true≢false b)
root_self (inf false) a b = absurd (true≢false a)
root_self (fin s zero e) a b = refl
root_self (fin true (suc m) e) a b = absurd (true≢false (sym (below-zero m e) ∙ b))
root_self (fin false (suc m) e) a b = absurd (true≢false (sym (above_zero m e) ∙ a))

pub some_digits : (x : Float) (s : Bool) (d e : ℕ) → T (positive x) → HasValue x s (d * 2 ^ e) (2 ^ 1074) → 0 < d
some_digits x s d e p h = first_pos d (2 ^ e) (value_pos x (d * 2 ^ e) (2 ^ 1074) p (pow_pos 1074) (unsigned x p h))
  where
    unsigned : (x : Float) → T (positive x) → HasValue x s (d * 2 ^ e) (2 ^ 1074) → HasValue x false (d * 2 ^ e) (2 ^ 1074)
    unsigned (fin true m e) p h = absurd p
    unsigned (fin false m e) p h = (refl, h.1)
    unsigned nan p h = elim p [ ]
    unsigned (inf _) p h = elim p [ ]
