-- The counts and the sum of rows, and what one row in another's place makes of them. Assumes nothing.
use Rattle.std.specs.Prelude.{◌≡◌, refl, Bool, true, false, cond, List, [], ◌∷◌, ℕ, zero, suc, ◌+◌, ◌-◌, ◌*◌, ◌%◌, ◌≤◌, ◌<◌, eqb, length, get_or, set}
use Rattle.std.proofs.Common.{ap, ◌∙◌, sym, le_of_suc-le-suc, not-suc-le-zero, add_assoc, arith, eq-eqb, eqb-true, length-set, get_or-set_same, get_or-set_other, ext_get_or}
use Rattle.std.proofs.Math.Nat.{mod-add-mod, add-mul-mod_self_left}
use Rattle.std.proofs.lemmas.Bool.{eqb-false}
use Rattle.total.specs.Total.{N}
use Rattle.ledger.specs.Sheet.{Row, class_of, units_in, retotal, count, counts, sum}
use Rattle.ledger.specs.Calls.{plus, recount}
use Rattle.demands.specs.laws.Numbers.{units_in_le}
use Rattle.ledger.specs.laws.Refusals.{class-lt, length-recount}
use Rattle.demands.specs.laws.Rows.{Rows, none, more}

-- 1 for class k, 0 for another
abbrev pub hit : ℕ → ℕ → ℕ
hit k c = cond (eqb k c) 1 0

hit-le : (b : Bool) → cond b 1 0 ≤ 1
hit-le true = omega arith
hit-le false = omega arith

pub hit_self : (k : ℕ) → hit k k ≡ 1
hit_self k = rw (eq-eqb k k refl)

-- ---- one class
pub count_set : (k : ℕ) (ws : List Row) (i : ℕ) (x : Row) → i < length ws → count k (set ws i x) + hit k (class_of (get_or ws i [])) ≡ count k ws + hit k (class_of x)
unfolding count
count_set k [] i x h = absurd (not-suc-le-zero h)
count_set k (w ∷ ws) zero x h = omega arith
count_set k (w ∷ ws) (suc i) x h = omega (arith, count_set k ws i x (le_of_suc-le-suc h))

pub count_has : (k : ℕ) (ws : List Row) (i : ℕ) → i < length ws → hit k (class_of (get_or ws i [])) ≤ count k ws
unfolding count
count_has k [] i h = absurd (not-suc-le-zero h)
count_has k (w ∷ ws) zero h = omega arith
count_has k (w ∷ ws) (suc i) h = omega (arith, count_has k ws i (le_of_suc-le-suc h))

pub count-le : (k : ℕ) (ws : List Row) → count k ws ≤ length ws
unfolding count
count-le k [] = omega arith
count-le k (w ∷ ws) = omega (arith, count-le k ws, hit-le (eqb k (class_of w)))

-- ---- the five
hits : (c : ℕ) → c < 5 → hit 0 c + hit 1 c + hit 2 c + hit 3 c + hit 4 c ≡ 1
hits zero h = refl
hits (suc zero) h = refl
hits (suc (suc zero)) h = refl
hits (suc (suc (suc zero))) h = refl
hits (suc (suc (suc (suc zero)))) h = refl
hits (suc (suc (suc (suc (suc n))))) h = absurd (omega arith)

all_five : {ws : List Row} → Rows ws → count 0 ws + count 1 ws + count 2 ws + count 3 ws + count 4 ws ≡ length ws
unfolding count
all_five none = refl
all_five (more {w = w} {ws = ws} g r) = omega (arith, all_five r, hits (class_of w) (class-lt w g.whole))

pub counts_all : {ws : List Row} → Rows ws → plus (counts ws) ≡ length ws
unfolding plus
counts_all {ws} r = omega (arith, all_five r)

pub counts-at : (ws : List Row) (k : ℕ) → k < 5 → get_or (counts ws) k 0 ≡ count k ws
counts-at ws zero h = refl
counts-at ws (suc zero) h = refl
counts-at ws (suc (suc zero)) h = refl
counts-at ws (suc (suc (suc zero))) h = refl
counts-at ws (suc (suc (suc (suc zero)))) h = refl
counts-at ws (suc (suc (suc (suc (suc n))))) h = absurd (omega arith)

moved : (cs : List ℕ) (o n k : ℕ) (p q : Bool) → eqb k o ≡ p → eqb k n ≡ q → o < length cs → n < length cs → 0 < get_or cs o 0
    → get_or (recount cs o n) k 0 + cond p 1 0 ≡ get_or cs k 0 + cond q 1 0
unfolding recount
moved cs o n k p true hp hq ho hn h =
    let less = set cs o (get_or cs o 0 - 1) in
    let e : k ≡ n = eqb-true k n hq in
    rw (e, get_or-set_same less n (get_or less n 0 + 1) 0 (omega (arith, length-set cs o (get_or cs o 0 - 1)))) (go p (rw e at hp))
  where
    go : (p : Bool) → eqb n o ≡ p → get_or (set cs o (get_or cs o 0 - 1)) n 0 + 1 + cond p 1 0 ≡ get_or cs n 0 + 1
    go true t = let e : n ≡ o = eqb-true n o t in rw (e, get_or-set_same cs o (get_or cs o 0 - 1) 0 ho) (omega arith)
    go false t = rw (get_or-set_other cs o n (get_or cs o 0 - 1) 0 (eqb-false n o t)) (omega arith)
moved cs o n k p false hp hq ho hn h =
    let less = set cs o (get_or cs o 0 - 1) in
    rw (get_or-set_other less n k (get_or less n 0 + 1) 0 (eqb-false k n hq)) (go p hp)
  where
    go : (p : Bool) → eqb k o ≡ p → get_or (set cs o (get_or cs o 0 - 1)) k 0 + cond p 1 0 ≡ get_or cs k 0 + 0
    go true t = let e : k ≡ o = eqb-true k o t in rw (e, get_or-set_same cs o (get_or cs o 0 - 1) 0 ho) (omega arith)
    go false t = rw (get_or-set_other cs o k (get_or cs o 0 - 1) 0 (eqb-false k o t))

pub counts-set : (ws : List Row) (i : ℕ) (x : Row) → i < length ws → class_of (get_or ws i []) < 5 → class_of x < 5
    → recount (counts ws) (class_of (get_or ws i [])) (class_of x) ≡ counts (set ws i x)
counts-set ws i x h a b =
    let o = class_of (get_or ws i []) in
    let n = class_of x in
    let l : length (recount (counts ws) o n) ≡ 5 = length-recount (counts ws) o n in
    let c : 0 < get_or (counts ws) o 0 = rw (counts-at ws o a) (omega (arith, count_has o ws i h, hit_self o)) in
    ext_get_or 0 (recount (counts ws) o n) (counts (set ws i x)) l
    (λ k g. let k5 : k < 5 = omega arith in
    let m = moved (counts ws) o n k (eqb k o) (eqb k n) refl refl a b c in
    let s = count_set k ws i x h in
    omega (arith, m, s, counts-at ws k k5, counts-at (set ws i x) k k5))

-- ---- the sum
sum-set : (ws : List Row) (i : ℕ) (x : Row) → i < length ws → sum (set ws i x) + units_in (get_or ws i []) ≡ sum ws + units_in x
unfolding sum
sum-set [] i x h = absurd (not-suc-le-zero h)
sum-set (w ∷ ws) zero x h = omega arith
sum-set (w ∷ ws) (suc i) x h = omega (arith, sum-set ws i x (le_of_suc-le-suc h))

pub sum_moved : (ws : List Row) (i : ℕ) (x : Row) → i < length ws → retotal (sum ws % N) (get_or ws i []) x ≡ sum (set ws i x) % N
unfolding retotal
sum_moved ws i x h =
    let o = units_in (get_or ws i []) in
    let l : o ≤ N = units_in_le (get_or ws i []) in
    let u = units_in x in
    let e : sum ws + (N - o) + u ≡ sum (set ws i x) + N * 1 = omega (arith, sum-set ws i x h) in
    ap (λ (n : ℕ). n % N) (add_assoc (sum ws % N) (N - o) u)
    ∙ mod-add-mod (sum ws) N (N - o + u)
    ∙ ap (λ (n : ℕ). n % N) (sym (add_assoc (sum ws) (N - o) u) ∙ e)
    ∙ add-mul-mod_self_left (sum (set ws i x)) N 1
