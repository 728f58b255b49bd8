-- What a refusal's number is not. Assumes nothing.
use mathlib.Core.Path.{◌≡◌, refl}
use native.Mathlib.Omega.{arith}
use Rattle.answer.specs.declared.Refusal.{Refusal}
use Rattle.answer.specs.declared.Refusal.TheVariants.{NotANumber, AboveOne, Beyond, CharacteristicOne, Unmet, NotFinite, NotASheet, NoSuchRow, NoSuchFunction, Damaged, TooManyRows, OutOfRange, Unequal, DrivenOften, Malformed, Withdrawn}
use Rattle.answer.specs.Numbers.{number}

pub other : (q : Refusal) → (q ≡ Malformed → ⊥) → (q ≡ Withdrawn → ⊥) → (number q ≡ 18 → ⊥) × (number q ≡ 22 → ⊥)
other NotANumber m w = (λ e. omega arith, λ e. omega arith)
other AboveOne m w = (λ e. omega arith, λ e. omega arith)
other Beyond m w = (λ e. omega arith, λ e. omega arith)
other CharacteristicOne m w = (λ e. omega arith, λ e. omega arith)
other Unmet m w = (λ e. omega arith, λ e. omega arith)
other NotFinite m w = (λ e. omega arith, λ e. omega arith)
other NotASheet m w = (λ e. omega arith, λ e. omega arith)
other NoSuchRow m w = (λ e. omega arith, λ e. omega arith)
other NoSuchFunction m w = (λ e. omega arith, λ e. omega arith)
other Damaged m w = (λ e. omega arith, λ e. omega arith)
other TooManyRows m w = (λ e. omega arith, λ e. omega arith)
other OutOfRange m w = (λ e. omega arith, λ e. omega arith)
other Unequal m w = (λ e. omega arith, λ e. omega arith)
other DrivenOften m w = (λ e. omega arith, λ e. omega arith)
other Malformed m w = absurd (m refl)
other Withdrawn m w = absurd (w refl)
