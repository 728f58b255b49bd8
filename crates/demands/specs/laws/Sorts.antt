-- Which sort each argument is (01: amplitude, characteristic and parameter are three sorts of number). The three are three types in a statement as they
-- are in a call: where one belongs, another is refused. Shown in proofs/Sorts.
use Rattle.std.specs.Prelude.{◌≡◌, ℕ, Result}
use Rattle.laws.specs.Arithmetic.{float}
use Rattle.answer.specs.declared.Answer.{Answer}
use Rattle.answer.specs.declared.Refusal.{Refusal}
use Rattle.answer.specs.declared.Amplitude.{Amplitude}
use Rattle.answer.specs.declared.Characteristic.{Characteristic}
use Rattle.answer.specs.declared.Parameter.{Parameter}
use Rattle.legendre.specs.Ellipk.{ellipk_of}
use Rattle.legendre.specs.Ellipe.{ellipe_of}
use Rattle.legendre.specs.Ellipke.{ellipke_of}
use Rattle.ellippi.specs.Ellippi.{ellippi_of}
use Rattle.ellipeinc.specs.Ellipeinc.{ellipeinc_of}
use Rattle.ellipf.specs.Ellipf.{ellipf_of}
use Rattle.sheet.specs.Functions.{evaluate_of}

abbrev amplitude : ℕ → Amplitude
amplitude p = record { 0 = float p }

abbrev characteristic : ℕ → Characteristic
characteristic p = record { 0 = float p }

abbrev parameter : ℕ → Parameter
parameter p = record { 0 = float p }

-- what the public calls ensure
abbrev k : Parameter → Result Answer Refusal
k m = ellipk_of m.0

abbrev e : Parameter → Result Answer Refusal
e m = ellipe_of m.0

abbrev ke : Parameter → Result Answer Refusal
ke m = ellipke_of m.0

abbrev pi : Characteristic → Parameter → Result Answer Refusal
pi n m = ellippi_of n.0 m.0

abbrev einc : Amplitude → Parameter → Result Answer Refusal
einc φ m = ellipeinc_of φ.0 m.0

abbrev f : Amplitude → Parameter → Result Answer Refusal
f φ m = ellipf_of φ.0 m.0

pub record Sorts (a b c : ℕ) : Type 0 where
  pub first : evaluate_of 1 a b c ≡ k (parameter a)
  pub second : evaluate_of 2 a b c ≡ e (parameter a)
  pub both : evaluate_of 3 a b c ≡ ke (parameter a)
  pub third : evaluate_of 4 a b c ≡ pi (characteristic a) (parameter b)
  pub incomplete : evaluate_of 5 a b c ≡ einc (amplitude a) (parameter b)
  pub incomplete_first : evaluate_of 6 a b c ≡ f (amplitude a) (parameter b)
