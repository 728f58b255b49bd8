-- A sheet that was made blank and edited has rows that were entered, and no others. Assumes nothing.
use Rattle.std.specs.Prelude.{◌≡◌, refl, ℕ, zero, suc, Bool, true, false, cond, ◌&&◌, List, [], ◌∷◌, leb, eqb}
use Rattle.std.proofs.Common.{zero-le, arith, lit<, eqb-true}
use Rattle.std.proofs.lemmas.Bool.{eqb-false}
use Rattle.ledger.specs.Sheet.{Row}
use Rattle.ledger.specs.Calls.{function_rungs, rungs}
use Rattle.ledger.specs.laws.Refusals.{past_function}
use Rattle.sheet.specs.Edit.{row_of}
use Rattle.demands.specs.Edits.{Edit, accepted, worked, last_row, fresh_from, blanks}
use Rattle.hexkept.specs.Entered.{Fits, Entered, AllEntered, AllFit}

pub blanks_entered : (r : ℕ) → AllEntered (blanks r)
unfolding row_of
blanks_entered zero = tt
blanks_entered (suc r) = (
  record {
    entry = record { function = 0; a = 0; b = 0; c = 0; times = 0 };
    fits = record { a = lit< tt; b = lit< tt; c = lit< tt; times = lit< tt };
    known = zero-le;
    stays = λ z. omega arith;
    is = refl;
  },
  blanks_entered r,
)

-- an edit that is accepted
worked_entered : (r : ℕ) (e : Edit) → Fits e.entry → accepted r e ≡ true → Entered (worked e)
unfolding accepted rungs
worked_entered r e F h = by (leb r e.row) (eqb-true _ _ h) where
  by : (t : Bool) → cond t 8 (function_rungs e.entry.function 0) ≡ 0 → Entered (worked e)
  by true z = absurd (omega arith)
  by false z =
      let f = past_function e.entry.function 0 z in
      record { entry = e.entry; fits = F; known = f.1; stays = eqb-false _ _ f.0; is = refl }

last_entered : (r i : ℕ) (w : Row) → Entered w → (es : List Edit) → AllFit es → Entered (last_row r i w es)
unfolding last_row
last_entered r i w E [] F = E
last_entered r i w E (e ∷ es) (F, Fs) = last_entered r i (cond (accepted r e && eqb e.row i) (worked e) w) (by (accepted r e) (eqb e.row i) refl) es Fs where
  by : (p q : Bool) → accepted r e ≡ p → Entered (cond (p && q) (worked e) w)
  by true true h = worked_entered r e F h
  by true false h = E
  by false q h = E

pub fresh_entered : (r i : ℕ) (ws : List Row) → AllEntered ws → (es : List Edit) → AllFit es → AllEntered (fresh_from r i ws es)
unfolding fresh_from
fresh_entered r i [] E es F = tt
fresh_entered r i (w ∷ ws) (E, Es) es F = (last_entered r i w E es F, fresh_entered r (suc i) ws Es es F)
