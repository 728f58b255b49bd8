-- A line of written numbers, with a comma between, says these numbers. Assumes nothing.
use Rattle.std.specs.Prelude.{◌≡◌, ℕ, zero, suc, ◌+◌, ◌≤◌, Bool, true, false, cond, ◌||◌, get_or, eqb}
use Rattle.std.proofs.Math.Path.{refl, ap}
use Rattle.std.proofs.Common.{sym, ◌∙◌, add-zero, zero-add, add-suc, suc-add, arith, length-append}
use mathlib.Core.List.{List, [], ◌∷◌, ◌++◌}
use Rattle.std.proofs.Math.ListN.{length}
use borrow.Author.Tests.{lt-leb}
use Rattle.laws.specs.Ladder.{when◌gives◌else◌}
use Rattle.std.specs.Prelude.{Option, Some, None}
use Rattle.std.specs.Option.{unwrap_or}
use Rattle.text.specs.Text.{decimal}
use Rattle.hexfloat.specs.Spelled.{spelled_of}
use Rattle.hexfloat.specs.Reading.{before}
use Rattle.hexline.specs.Parts.{part_at, next_of, place_of}
use Rattle.hexline.specs.Fields.{field_of, says_of, bad_from, stop_at, stop_of, value_in}
use Rattle.spelt.specs.laws.Fractions.{Without}
use Rattle.hexkept.specs.laws.Parts.{part_there, next_there, past}
use Rattle.hexkept.specs.laws.Plain.{Plain, without-both, without-first, without-second, plain-decimal, plain_spelled}

-- ---- the line

-- field j, written: 0 function, 4 times, 5 refusal; the others are floats
unfoldable pub written_of : ℕ → ℕ → List ℕ
written_of j v =
    when eqb j 0 || eqb j 4 || eqb j 5 gives decimal v else
    spelled_of v

-- fields from j on, each behind a comma
unfoldable pub behind : ℕ → List ℕ → List ℕ
behind j [] = []
behind j (v ∷ vs) = 44 ∷ (written_of j v ++ behind (suc j) vs)

plain-written : (j v : ℕ) → Plain (written_of j v)
unfolding written_of
plain-written j v = by (eqb j 0 || eqb j 4 || eqb j 5) where
  by : (t : Bool) → Plain (cond t (decimal v) (spelled_of v))
  by true = plain-decimal v
  by false = plain_spelled v

no_comma : (j v : ℕ) → Without 44 44 (written_of j v)
no_comma j v = without-first 44 10 (written_of j v) (plain-written j v)

-- no line end in it
in_front : (j v : ℕ) (s : List ℕ) → Without 10 10 s → Without 10 10 (written_of j v ++ s)
in_front j v s h = without-both 10 10 (written_of j v) s (without-second 44 10 (written_of j v) (plain-written j v)) h

no_end-behind : (j : ℕ) (vs : List ℕ) → Without 10 10 (behind j vs)
unfolding behind
no_end-behind j [] = tt
no_end-behind j (v ∷ vs) = (refl, in_front j v (behind (suc j) vs) (no_end-behind (suc j) vs))

pub no_end : (v : ℕ) (vs : List ℕ) → Without 10 10 (written_of 0 v ++ behind 1 vs)
no_end v vs = in_front 0 v (behind 1 vs) (no_end-behind 1 vs)

-- a comma, or the end
ends : (j : ℕ) (vs : List ℕ) → before 44 44 (behind j vs) ≡ 0
unfolding behind before
ends j [] = refl
ends j (v ∷ vs) = refl

-- ---- its places

-- field j of the line t is v, and vs are those behind it
record At (t : List ℕ) (j v : ℕ) (vs : List ℕ) : Type 0 where
  front : List ℕ
  is : t ≡ front ++ (written_of j v ++ behind (suc j) vs)
  place : place_of 44 t j ≡ length front

module _ (t : List ℕ) (j v : ℕ) (vs : List ℕ) (A : At t j v vs) where
  next : place_of 44 t (suc j) ≡ length (A.front ++ (written_of j v ++ (44 ∷ [])))
  unfolding place_of
  next =
      ap (next_of 44 t) A.place
      ∙ ap (λ (s : List ℕ). next_of 44 s (length A.front)) A.is
      ∙ next_there 44 A.front (written_of j v) (behind (suc j) vs) (no_comma j v) (ends (suc j) vs)

  says_field : says_of t j ≡ field_of j (written_of j v)
  unfolding says_of
  says_field =
      ap (field_of j)
      (ap (part_at 44 t) A.place
      ∙ ap (λ (s : List ℕ). part_at 44 s (length A.front)) A.is
      ∙ part_there 44 A.front (written_of j v) (behind (suc j) vs) (no_comma j v) (ends (suc j) vs))

onward : (t : List ℕ) (j v u : ℕ) (us : List ℕ) → At t j v (u ∷ us) → At t (suc j) u us
unfolding behind
onward t j v u us A = record {
  front = A.front ++ (written_of j v ++ (44 ∷ []));
  is = A.is ∙ past 44 A.front (written_of j v) (written_of (suc j) u ++ behind (suc (suc j)) us);
  place = next t j v (u ∷ us) A;
}

-- ---- what it says

-- each number from field j on is read as it was written
abbrev pub AllRead : ℕ → List ℕ → Type 0
AllRead j [] = Unit {0}
AllRead j (v ∷ vs) = (field_of j (written_of j v) ≡ Some v) × AllRead (suc j) vs

says_at : (t : List ℕ) (k j v : ℕ) (vs : List ℕ) → k ≤ length vs → At t j v vs → AllRead j (v ∷ vs) → says_of t (j + k) ≡ Some (get_or (v ∷ vs) k 0)
says_at t zero j v vs h A R = rw (add-zero j) (says_field t j v vs A ∙ R.0)
says_at t (suc k) j v [] h A R = absurd (omega arith)
says_at t (suc k) j v (u ∷ us) h A R =
    rw (add-suc j k, ← suc-add j k) (says_at t k (suc j) u us (omega arith) (onward t j v u us A) R.1)

none_bad : (t : List ℕ) (j v : ℕ) (vs : List ℕ) → At t j v vs → AllRead j (v ∷ vs) → bad_from t (suc (length vs)) j ≡ None
unfolding bad_from
none_bad t j v [] A R = rw (says_field t j v [] A, R.0) refl
none_bad t j v (u ∷ us) A R =
    rw (says_field t j v (u ∷ us) A, R.0) (none_bad t (suc j) u us (onward t j v u us A) R.1)

place_end : (t : List ℕ) (j v : ℕ) (vs : List ℕ) → At t j v vs → place_of 44 t (suc (j + length vs)) ≡ length t + 1
unfolding behind
place_end t j v [] A =
    rw (add-zero j) (next t j v [] A ∙ rw A.is (simp length-append (omega arith)))
place_end t j v (u ∷ us) A =
    ap (place_of 44 t) (let e : suc (j + length (u ∷ us)) ≡ suc (suc j + length us) = omega arith in e)
    ∙ place_end t (suc j) u us (onward t j v u us A)

-- eight numbers
module _ (v : ℕ) (vs : List ℕ) (eight : length vs ≡ 7) (R : AllRead 0 (v ∷ vs)) where
  abbrev line : List ℕ
  line = written_of 0 v ++ behind 1 vs

  start : At line 0 v vs
  unfolding place_of
  start = record { front = []; is = refl; place = refl }

  pub line_stops : stop_of line ≡ None
  unfolding stop_of stop_at
  line_stops =
      let bad : bad_from line 8 0 ≡ None = rw eight at (none_bad line 0 v vs start R) in
      let place : place_of 44 line 8 ≡ length line + 1 = rw eight at (place_end line 0 v vs start) in
      rw (bad, place, lt-leb (length line + 1) (length line) (omega arith)) refl

  pub line_says : (k : ℕ) → k ≤ 7 → value_in line k ≡ get_or (v ∷ vs) k 0
  unfolding value_in
  line_says k h = ap (λ (o : Option ℕ). unwrap_or o 0) (ap (says_of line) (sym (zero-add k)) ∙ says_at line k 0 v vs (omega arith) start R)
