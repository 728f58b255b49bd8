-- `trunc` and `floor` are functions to whole numbers: what they pick of a fraction. Assumes nothing.
use Rattle.std.specs.Prelude.{◌≡◌, refl, Bool, true, false, cond, ℕ, zero, suc, ◌+◌, ◌*◌, ◌/◌, ◌%◌, ◌<◌, ltb, Float}
use Rattle.std.proofs.Common.{sym, ap, ◌∙◌, true≢false, le_of_eq, lt_of_lt_of_le, lt_irrefl, mul-pos, div-add-mod', div-one, zero-mul, zero-lt-suc, arith}
use Rattle.std.proofs.Math.Nat.{mod-one}
use Rattle.std.specs.Float.{nan, inf, fin}
use Rattle.std.specs.Float.Ieee.Nearest.{div_same}
use Rattle.std.specs.Float.Ieee.Scale.{finite}
use Rattle.laws.specs.laws.Flags.{is_some}
use Rattle.whole.specs.laws.Wholes.{Picks}
use Rattle.floor.specs.Floor.{trunc_of, floor_of, ceiling}

-- ---- equal fractions a / c and A / C
rest_same : (a c A C : ℕ) → 0 < c → 0 < C → a * C ≡ A * c → a % c * C ≡ A % C * c
rest_same a c A C p q e = go (a / c) (A / C) (a % c) (A % C) (div_same a c A C p q e) (div-add-mod' a c) (div-add-mod' A C)
  where
    go : (n n' r r' : ℕ) → n ≡ n' → n * c + r ≡ a → n' * C + r' ≡ A → r * C ≡ r' * c
    go n n' r r' z x y =
        let x' : (n * c + r) * C ≡ a * C = ap (λ (w : ℕ). w * C) x in
        let y' : (n * C + r') * c ≡ A * c = ap (λ (w : ℕ). (w * C + r') * c) z ∙ ap (λ (w : ℕ). w * c) y in
        omega (arith, x', y', e)

some_same : (r R c C : ℕ) → 0 < c → 0 < C → r * C ≡ R * c → ltb 0 r ≡ ltb 0 R
some_same zero zero c C p q e = refl
some_same zero (suc R) c C p q e = absurd (lt_irrefl 0 (lt_of_lt_of_le (mul-pos (zero-lt-suc R) p) (le_of_eq (sym e ∙ zero-mul C))))
some_same (suc r) zero c C p q e = absurd (lt_irrefl 0 (lt_of_lt_of_le (mul-pos (zero-lt-suc r) q) (le_of_eq (e ∙ zero-mul c))))
some_same (suc r) (suc R) c C p q e = is_some (suc r) (zero-lt-suc r) ∙ sym (is_some (suc R) (zero-lt-suc R))

ceiling-same : (a c A C : ℕ) → 0 < c → 0 < C → a * C ≡ A * c → ceiling a c ≡ ceiling A C
unfolding ceiling
ceiling-same a c A C p q e = λ i. div_same a c A C p q e i + cond (some_same (a % c) (A % C) c C p q (rest_same a c A C p q e) i) 1 0

down_same : (s : Bool) (a c A C : ℕ) → 0 < c → 0 < C → a * C ≡ A * c → cond s (ceiling a c) (a / c) ≡ cond s (ceiling A C) (A / C)
down_same s a c A C p q e = λ i. cond s (ceiling-same a c A C p q e i) (div_same a c A C p q e i)

-- ---- whole numbers
ceiling-one : (n : ℕ) → ceiling n 1 ≡ n
unfolding ceiling
ceiling-one n = (λ i. div-one n i + cond (ltb 0 (mod-one n i)) 1 0) ∙ omega arith

both : (s : Bool) (a n : ℕ) → a ≡ n → cond s a n ≡ n
both true a n e = e
both false a n e = refl

down_one : (s : Bool) (n : ℕ) → cond s (ceiling n 1) (n / 1) ≡ n
down_one s n = ap (cond s (ceiling n 1)) (div-one n) ∙ both s (ceiling n 1) n (ceiling-one n)

-- ---- NaN and the infinities
trunc_other : (x : Float) → finite x ≡ false → trunc_of x ≡ x
unfolding trunc_of
trunc_other nan h = refl
trunc_other (inf s) h = refl
trunc_other (fin s m e) h = absurd (true≢false h)

floor_other : (x : Float) → finite x ≡ false → floor_of x ≡ x
unfolding floor_of
floor_other nan h = refl
floor_other (inf s) h = refl
floor_other (fin s m e) h = absurd (true≢false h)

-- ---- so
pub trunc_picks : Picks trunc_of (λ (s : Bool) (a c : ℕ). a / c)
unfolding trunc_of
trunc_picks = record { other = trunc_other; at = λ s m e. refl; same = λ s. div_same; one = λ s. div-one }

pub floor_picks : Picks floor_of (λ (s : Bool) (a c : ℕ). cond s (ceiling a c) (a / c))
unfolding floor_of
floor_picks = record { other = floor_other; at = λ s m e. refl; same = down_same; one = down_one }
