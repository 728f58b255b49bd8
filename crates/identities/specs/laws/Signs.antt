-- A sign goes through a product and a quotient, for all values. Assumes nothing.
use Rattle.std.specs.Prelude.{◌≡◌, refl, ℕ, zero, suc, ◌+◌, ◌*◌, ◌^◌, Bool, true, false, not, cond, T, eqb, ltb, pos, Float}
use Rattle.std.proofs.Common.{sym, ap, ◌∙◌}
use Rattle.std.specs.Float.{nan, inf, fin, Format}
use Rattle.std.specs.Float.Ieee.{prec, low, emax, up, down, odd, units, round, neg, mul, div, unlike}
use Rattle.laws.specs.laws.Exact.{round-neg}

unlike_not : (s t : Bool) → unlike (not s) t ≡ not (unlike s t)
unlike_not true true = refl
unlike_not true false = refl
unlike_not false true = refl
unlike_not false false = refl

-- where the result is NaN or an infinity
choose : (b s t : Bool) → cond b nan (inf (unlike (not s) t)) ≡ neg (cond b nan (inf (unlike s t)))
unfolding neg
choose true s t = refl
choose false s t = ap inf (unlike_not s t)

-- where it is rounded
rounds : (f : Format) (s t : Bool) (a c : ℕ) → round f (unlike (not s) t) a c ≡ neg (round f (unlike s t) a c)
rounds f s t a c = ap (λ (b : Bool). round f b a c) (unlike_not s t) ∙ round-neg f (unlike s t) a c

pub mul-neg : (f : Format) (x y : Float) → mul f (neg x) y ≡ neg (mul f x y)
unfolding mul neg
mul-neg f nan y = refl
mul-neg f (inf s) nan = refl
mul-neg f (inf s) (inf t) = ap inf (unlike_not s t)
mul-neg f (inf s) (fin t n d) = choose (eqb n 0) s t
mul-neg f (fin s m e) nan = refl
mul-neg f (fin s m e) (inf t) = choose (eqb m 0) s t
mul-neg f (fin s m e) (fin t n d) = rounds f s t (m * up e * (n * up d)) (down e * down d)

pub div-neg : (f : Format) (x y : Float) → div f (neg x) y ≡ neg (div f x y)
unfolding div neg
div-neg f nan y = refl
div-neg f (inf s) nan = refl
div-neg f (inf s) (inf t) = refl
div-neg f (inf s) (fin t n d) = ap inf (unlike_not s t)
div-neg f (fin s m e) nan = refl
div-neg f (fin s m e) (inf t) = ap (λ (b : Bool). fin b 0 (pos 0)) (unlike_not s t)
div-neg f (fin s m e) (fin t n d) = go (eqb n 0)
  where
    a : ℕ
    a = m * up e * down d

    c : ℕ
    c = n * up d * down e

    go : (b : Bool) → cond b (cond (eqb m 0) nan (inf (unlike (not s) t))) (round f (unlike (not s) t) a c) ≡ neg (cond b (cond (eqb m 0) nan (inf (unlike s t))) (round f (unlike s t) a c))
    go true = choose (eqb m 0) s t
    go false = rounds f s t a c

pub neg-neg : (x : Float) → neg (neg x) ≡ x
unfolding neg
neg-neg nan = refl
neg-neg (inf true) = refl
neg-neg (inf false) = refl
neg-neg (fin true m e) = refl
neg-neg (fin false m e) = refl

-- a square has no sign
like : (s : Bool) → unlike s s ≡ false
like true = refl
like false = refl

turned : (s : Bool) → unlike (not s) (not s) ≡ unlike s s
turned s = like (not s) ∙ sym (like s)

pub square-neg : (f : Format) (x : Float) → mul f (neg x) (neg x) ≡ mul f x x
unfolding mul neg
square-neg f nan = refl
square-neg f (inf s) = ap inf (turned s)
square-neg f (fin s m e) = ap (λ (b : Bool). round f b (m * up e * (m * up e)) (down e * down e)) (turned s)

-- an infinity or a number without a sign
unfoldable pub plain : Float → Bool
plain nan = false
plain (inf s) = not s
plain (fin s m e) = not s

units-plain : (f : Format) (q k : ℕ) → T (plain (units f false q k))
unfolding plain units odd
units-plain f q k = go (ltb (q * 2 ^ k) (2 ^ (low f + suc (emax f)))) q
  where
    go : (b : Bool) (q : ℕ) → T (plain (cond b (odd (suc (prec f)) false q k (low f)) (inf false)))
    go true zero = tt
    go true (suc q) = tt
    go false q = tt

pub round-plain : (f : Format) (a c : ℕ) → T (plain (round f false a c))
unfolding round
round-plain f a c = units-plain f _ _
