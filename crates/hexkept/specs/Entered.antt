-- Rows as they are entered: what fits a row's fields, of the functions that may be entered. Definitions only.
use Rattle.std.specs.Prelude.{◌≡◌, ◌^◌, ◌≤◌, ◌<◌, List, [], ◌∷◌}
use Rattle.answer.specs.Numbers.{last}
use Rattle.ledger.specs.Sheet.{Row, withdrawn}
use Rattle.sheet.specs.declared.Entry.{Entry}
use Rattle.sheet.specs.Edit.{row_of}
use Rattle.demands.specs.Edits.{Edit}

-- arguments are bit patterns, and times are two bytes
pub record Fits (e : Entry) : Type 0 where
  pub a : e.a < 2 ^ 64
  pub b : e.b < 2 ^ 64
  pub c : e.c < 2 ^ 64
  pub times : e.times < 2 ^ 16

-- a row that such an entry gives: its function is none above the last, and not the one that goes out (02, [13])
pub record Entered (w : Row) : Type 0 where
  pub entry : Entry
  pub fits : Fits entry
  pub known : entry.function ≤ last
  pub stays : entry.function ≡ withdrawn → ⊥
  pub is : w ≡ row_of entry

abbrev pub AllEntered : List Row → Type 0
AllEntered [] = Unit {0}
AllEntered (w ∷ ws) = Entered w × AllEntered ws

-- edits whose entries fit, of whatever row and function
abbrev pub AllFit : List Edit → Type 0
AllFit [] = Unit {0}
AllFit (e ∷ es) = Fits e.entry × AllFit es
