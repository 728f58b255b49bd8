-- Weights of legs added up, and the total as their sum. Assumes nothing.
use Rattle.std.specs.Prelude.{◌≡◌, ℕ, ◌+◌, ◌%◌, List, [], ◌∷◌, ◌++◌}
use Rattle.std.proofs.Common.{sym, ap, ◌∙◌, add_comm, add-zero, arith}
use Rattle.std.proofs.Math.Nat.{mod-add-mod, mod-mod, zero-mod}
use Rattle.total.specs.declared.Total.{Total}
use Rattle.total.specs.Total.{val, limbs_of, N, units_of, add_of}
use Rattle.total.specs.laws.Limbs.{val_limbs, limbs_mod}
use Rattle.ledger.specs.Sheet.{Row, value_of}
use Rattle.month.specs.Month.{Leg, fold, total_of}

-- a leg's weight is one of its times and its bytes
unfoldable pub sum_of : (ℕ → Row → ℕ) → List Leg → ℕ
sum_of w [] = 0
sum_of w (l ∷ ls) = w l.times l.bytes + sum_of w ls

pub sum-append : (w : ℕ → Row → ℕ) (l m : List Leg) → sum_of w (l ++ m) ≡ sum_of w l + sum_of w m
unfolding sum_of
sum-append w [] m = omega arith
sum-append w (a ∷ l) m = omega (arith, sum-append w l m)

-- ---- the total
abbrev pub units : ℕ → Row → ℕ
units k w = units_of k (value_of w)

pub total_sum : (ls : List Leg) → total_of ls ≡ sum_of units ls % N
unfolding total_of sum_of add_of
total_sum [] = sym (zero-mod N)
total_sum (l ∷ ls) =
    ap (λ (t : ℕ). (t + units l.times l.bytes) % N) (total_sum ls)
    ∙ mod-add-mod (sum_of units ls) N (units l.times l.bytes)
    ∙ ap (λ (t : ℕ). t % N) (add_comm (sum_of units ls) (units l.times l.bytes))

abbrev pub of_limbs : ℕ → Total
of_limbs v = record { limbs = limbs_of v }

unfoldable pub total_on : Total → Leg → Total
total_on t l = of_limbs (add_of (val t.limbs) l.times (value_of l.bytes))

added : (v u : ℕ) → limbs_of ((val (limbs_of v) + u) % N) ≡ limbs_of (v + u)
added v u = ap (λ (x : ℕ). limbs_of ((x + u) % N)) (val_limbs v) ∙ ap limbs_of (mod-add-mod v N u) ∙ limbs_mod (v + u)

limbs_on : (v : ℕ) (ls : List Leg) → fold total_on (of_limbs v) ls ≡ of_limbs (v + sum_of units ls)
unfolding fold total_on sum_of add_of
limbs_on v [] = ap of_limbs (sym (add-zero v))
limbs_on v (l ∷ ls) =
    let u = units l.times l.bytes in
    ap (λ (t : List ℕ). fold total_on (record { limbs = t }) ls) (added v u) ∙ limbs_on (v + u) ls ∙ ap of_limbs (let e : v + u + sum_of units ls ≡ v + (u + sum_of units ls) = omega arith in e)

pub limbs_total : (ls : List Leg) → fold total_on (of_limbs 0) ls ≡ of_limbs (total_of ls)
limbs_total ls =
    limbs_on 0 ls
    ∙ ap of_limbs (let e : 0 + sum_of units ls ≡ sum_of units ls = omega arith in e)
    ∙ ap (λ (t : List ℕ). record { limbs = t }) (sym (limbs_mod (sum_of units ls)))
    ∙ ap of_limbs (sym (total_sum ls))

pub val_total : (ls : List Leg) → val (limbs_of (total_of ls)) ≡ total_of ls
val_total ls = val_limbs (total_of ls) ∙ ap (λ (t : ℕ). t % N) (total_sum ls) ∙ mod-mod (sum_of units ls) N ∙ sym (total_sum ls)
