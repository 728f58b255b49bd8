-- By the refusal, then by the row.
use Rattle.std.proofs.Common.{◌≡◌, refl, false}
use Rattle.std.specs.Prelude.{eqb}
use Rattle.answer.specs.declared.Refusal.{Refusal}
use Rattle.answer.specs.declared.Refusal.TheVariants.{NotANumber, AboveOne, Beyond, CharacteristicOne, Unmet, NotFinite, NotASheet, NoSuchRow, NoSuchFunction, Damaged, TooManyRows, OutOfRange, Unequal, DrivenOften, Malformed, Withdrawn}
use Rattle.answer.specs.Numbers.{number}
use Rattle.turning.specs.Turning.{stop_line}
use borrow.Author.Tests.{eq-eqb, ne_eqb}
use Rattle.turning.proofs.put_stop.Goals as goal

pub returns-in-NotASheet : goal.returns-in-NotASheet
unfolding stop_line
returns-in-NotASheet c = rw c.in-NotASheet.is c.refused_7.ensures

pub returns-in-DrivenOften : goal.returns-in-DrivenOften
unfolding stop_line
returns-in-DrivenOften c = rw c.in-DrivenOften.is c.put_number.ensures

-- no other refusal has either's number
other : (r : Refusal) → (r ≡ NotASheet → ⊥) → (r ≡ DrivenOften → ⊥) → (eqb (number r) 7 ≡ false) × (eqb (number r) 17 ≡ false)
other NotANumber h k = (refl, refl)
other AboveOne h k = (refl, refl)
other Beyond h k = (refl, refl)
other CharacteristicOne h k = (refl, refl)
other Unmet h k = (refl, refl)
other NotFinite h k = (refl, refl)
other NotASheet h k = absurd (h refl)
other NoSuchRow h k = (refl, refl)
other NoSuchFunction h k = (refl, refl)
other Damaged h k = (refl, refl)
other TooManyRows h k = (refl, refl)
other OutOfRange h k = (refl, refl)
other Unequal h k = (refl, refl)
other DrivenOften h k = absurd (k refl)
other Malformed h k = (refl, refl)
other Withdrawn h k = (refl, refl)

pub returns-in_default : goal.returns-in_default
unfolding stop_line
returns-in_default c =
    let o = other c.args.stop.refusal c.in_default.not-NotASheet c.in_default.not-DrivenOften in
    rw (o.0, o.1, eq-eqb _ _ c.if-stop-rows.true) c.put.ensures

pub returns-in_default-2 : goal.returns-in_default-2
unfolding stop_line
returns-in_default-2 c =
    let o = other c.args.stop.refusal c.in_default-2.not-NotASheet c.in_default-2.not-DrivenOften in
    rw (o.0, o.1, ne_eqb _ _ c.if-stop-rows.false) c.put_number-in_default-2.ensures
