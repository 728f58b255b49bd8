-- The rows that differ, counted.
use Rattle.std.proofs.Common.{◌≡◌, refl, ◌∙◌, ap, ℕ, ◌+◌, length, length-append, append-nil, add-zero, zero-add, add-one, map, map-id, sym, arith, rules, tests, not, cond, Bool, true, false, List, [], ◌∷◌, ◌++◌, zero, suc}
use Rattle.std.specs.List.{filter, range_with_len}
use Rattle.std.proofs.lemmas.Iterator.{YieldsList-from_range}
use Rattle.std.proofs.lemmas.Iterator.Consumers.{YieldsList-from_filter, count_from_yields_List}
use Rattle.std.proofs.lemmas.List.FromFn.{filter_of_map_range_with_len_more}
use Rattle.ledger.specs.laws.Refusals.{sheet_few, sheet_refused, sheet_taken}
use Rattle.difference.specs.Difference.{agree, changes, rows_of}
use Rattle.difference.proofs.changed_rows.Goals as goal

filter-range_more : (p : ℕ → Bool) (n : ℕ) → filter p (range_with_len 0 (suc n)) ≡ filter p (range_with_len 0 n) ++ cond (p n) (n ∷ []) []
filter-range_more p n =
    ap (filter p) (sym (map-id (range_with_len 0 (suc n))) ∙ ap (λ k. map (λ i. i) (range_with_len 0 k)) (sym (add-one n)))
    ∙ filter_of_map_range_with_len_more p (λ i. i) 0 n n (zero-add n)
    ∙ ap (λ xs. filter p xs ++ cond (p n) (n ∷ []) []) (map-id (range_with_len 0 n))

one_more : (b : Bool) (n : ℕ) (j : ℕ) (xs : List ℕ) → length xs ≡ n → length (xs ++ cond (not b) (j ∷ []) []) ≡ n + cond b 0 1
one_more true n j xs e = rw append-nil (e ∙ sym (add-zero n))
one_more false n j xs e = length-append xs (j ∷ []) ∙ ap (λ (k : ℕ). k + 1) e

changes_are : (s t : List ℕ) (n : ℕ) → length (filter (λ i. not (agree s t i)) (range_with_len 0 n)) ≡ changes s t n
unfolding changes
changes_are s t zero = refl
changes_are s t (suc n) = ap length (filter-range_more (λ i. not (agree s t i)) n) ∙ one_more (agree s t n) (changes s t n) n _ (changes_are s t n)

pub returns-then-is_err : goal.returns-then-is_err
unfolding rows_of changes
returns-then-is_err c = let b = c.total_refusal in rw (sheet_refused _ _ b.ensures (sym c.if-is_err.ensures.value)) refl

pub overflow_cast-rows : goal.overflow_cast-rows
overflow_cast-rows c = omega (arith, c.rows_in-rows.ensures, sheet_few _ (sheet_taken _ _ c.total_refusal.ensures (sym c.if-is_err.ensures.value)))

pub returns : goal.returns
unfolding rows_of
returns c =
    let s = c.args.old.now in
    let t = c.args.new.now in
    rw (sheet_taken _ _ c.total_refusal.ensures (sym c.if-is_err.ensures.value))
    (count_from_yields_List c.filter.result _ c.count.ensures.ran (YieldsList-from_filter _ (λ i. not (agree s t i)) (YieldsList-from_range 0 c.rows_in-rows.result c.rows_in-rows.result (cc) (omega arith)) c.filter.ensures.closure (λ x b q k. search (rules, tests)))
    ∙ changes_are s t c.rows_in-rows.result
    ∙ ap (changes s t) c.rows_in-rows.ensures)
