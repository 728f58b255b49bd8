-- WHAT IS ENTERED IS WHAT IS PRINTED. A row count and a list of edits, each written as a line: where every edit is accepted, the page is that of the rows worked
-- out afresh from the last edit of each row, with their counts and exact total, as demand 3 says; else the number of the first line that is refused. Assumes nothing.
use Rattle.std.specs.Prelude.{◌≡◌, ℕ, suc, ◌≤◌, ◌<◌, Bool, eqb}
use Rattle.std.proofs.Math.Path.{refl, ap}
use Rattle.std.proofs.Common.{◌∙◌, arith}
use Rattle.std.proofs.Math.Bool.{true, false, cond}
use mathlib.Core.List.{List, [], ◌∷◌, ◌++◌, append_assoc, append-nil}
use Rattle.std.proofs.lemmas.List.{length-replicate}
use borrow.Author.Tests.{le-ltb, eq-eqb, ne_eqb}
use Rattle.line.specs.Line.{decimal_of, cut, line_of}
use Rattle.ledger.specs.Sheet.{most_rows, size_for, blank_row, encode}
use Rattle.ledger.specs.Calls.{blank_refusal, blank_of}
use Rattle.demands.specs.Edits.{Edit, answer, after, run, answer_in, accepted, fresh, blanks}
use Rattle.demands.proofs.Demand3.{demand_3}
use Rattle.text.specs.Text.{decimal}
use Rattle.page.specs.Page.{page_of, bad_line}
use Rattle.ending.specs.Outcome.{Outcome, Start, Sheet, Bad, printed}
use Rattle.runner.specs.Run.{zeros, count_on, edit_on, line_on, lines_on, lines_of, closed, ran_of, run_of}
use Rattle.entered.specs.Input.{text_of, edit_lines, sheet_text, AllFit, Fits, refused_line}
use Rattle.runner.specs.laws.Lengths.{length-zeros}
use Rattle.runner.specs.laws.Parts.{lines_bad}
use Rattle.spelt.specs.laws.Digits.{read-decimal, from_decimal, from_less, cut-before}
use Rattle.entered.specs.laws.Written.{written, no_end}

-- ---- its lines

texts : List Edit → List (List ℕ)
texts [] = []
texts (e ∷ es) = text_of e ∷ texts es

lines_edits : (es : List Edit) → cut 10 [] (edit_lines es) ≡ texts es
unfolding edit_lines texts cut
lines_edits [] = refl
lines_edits (e ∷ es) =
    cut-before 10 [] (text_of e) (edit_lines es) (no_end e.row e.entry.function e.entry.a e.entry.b e.entry.c e.entry.times) ∙ ap (λ (ls : List (List ℕ)). text_of e ∷ ls) (lines_edits es)

lines_entered : (r : ℕ) (es : List Edit) → lines_of (sheet_text r es) ≡ decimal r ∷ texts es
unfolding lines_of sheet_text
lines_entered r es =
    cut-before 10 [] (decimal r) (edit_lines es) (from_less 11 33 (decimal r) (omega arith) (from_decimal r)) ∙ ap (λ (ls : List (List ℕ)). decimal r ∷ ls) (lines_edits es)

-- ---- what they come to

-- and what is printed of it
shown : Outcome → List ℕ
shown o = printed page_of (closed o)

run_more : (s : List ℕ) (es : List Edit) (e : Edit) → run s (es ++ (e ∷ [])) ≡ after (run s es) e
unfolding run
run_more s [] e = refl
run_more s (d ∷ es) e = run_more (after s d) es e

module _ (r : ℕ) (few : r ≤ most_rows) where
  z : List ℕ
  z = zeros (size_for r)

  made : blank_refusal z r ≡ 0
  unfolding blank_refusal z
  made = simp (le-ltb most_rows r few, eq-eqb _ _ (length-zeros (size_for r)))

  refused_as : (done : List Edit) (e : Edit) → answer (run (blank_of z r) done) e ≡ answer_in r e
  refused_as done e = (demand_3 z r made).refusals done e ∙ ap (λ (n : ℕ). answer_in n e) (length-replicate r blank_row)

  -- the sheet after the edits so far
  sheet : List Edit → List ℕ
  sheet done = run (blank_of z r) done

  counted : count_on (decimal_of (decimal r)) ≡ Sheet (sheet [])
  unfolding count_on sheet run z
  counted = rw (read-decimal r (omega arith)) (simp (le-ltb most_rows r few, eq-eqb _ 0 made))

  one_edit : (k : ℕ) (done : List Edit) (e : Edit) → Fits e → edit_on k (sheet done) (line_of (text_of e)) ≡ cond (accepted r e) (Sheet (sheet (done ++ (e ∷ [])))) (Bad k)
  unfolding edit_on accepted sheet z
  one_edit k done e fits =
      rw (written e.row e.entry.function e.entry.a e.entry.b e.entry.c e.entry.times fits.row fits.function fits.a fits.b fits.c fits.times)
      (rw (refused_as done e, run_more (blank_of z r) done e) refl)

  edits : (k : ℕ) (done es : List Edit) → AllFit es → 0 < k
      → shown (lines_on k (Sheet (sheet done)) (texts es)) ≡ cond (eqb (refused_line r k es) 0) (page_of (sheet (done ++ es))) (bad_line (refused_line r k es))
  unfolding lines_on line_on shown closed printed texts refused_line
  edits k done [] fits pos = rw append-nil refl
  edits k done (e ∷ es) fits pos =
      ap (λ (o : Outcome). shown (lines_on (suc k) o (texts es))) (one_edit k done e fits.0)
      ∙ by (accepted r e) (edits (suc k) (done ++ (e ∷ [])) es fits.1 (omega arith)) where
        by : (t : Bool)
            → shown (lines_on (suc k) (Sheet (sheet (done ++ (e ∷ [])))) (texts es)) ≡ cond (eqb (refused_line r (suc k) es) 0) (page_of (sheet ((done ++ (e ∷ [])) ++ es))) (bad_line (refused_line r (suc k) es))
            → shown (lines_on (suc k) (cond t (Sheet (sheet (done ++ (e ∷ [])))) (Bad k)) (texts es))
            ≡ cond (eqb (cond t (refused_line r (suc k) es) k) 0) (page_of (sheet (done ++ (e ∷ es)))) (bad_line (cond t (refused_line r (suc k) es) k))
        by true rest = rest ∙ rw (append_assoc done (e ∷ []) es) refl
        by false rest = rw (lines_bad (suc k) k (texts es)) (simp (ne_eqb k 0 (λ q. omega arith)))

-- ---- the law

pub entered : (r : ℕ) (es : List Edit) → r ≤ most_rows → AllFit es → let k = refused_line r 2 es in
    run_of (sheet_text r es) ≡ cond (eqb k 0) (page_of (encode (fresh (blanks r) es))) (bad_line k)
unfolding run_of ran_of lines_on line_on sheet shown
entered r es few fits =
    ap (λ (ls : List (List ℕ)). shown (lines_on 1 Start ls)) (lines_entered r es)
    ∙ ap (λ (o : Outcome). shown (lines_on 2 o (texts es))) (counted r few)
    ∙ edits r few 2 [] es fits (omega arith)
    ∙ ap (λ (s : List ℕ). cond (eqb (refused_line r 2 es) 0) (page_of s) (bad_line (refused_line r 2 es))) ((demand_3 (z r few) r (made r few)).sheet es)
