-- The answer for -φ beside that for φ: what an odd function's tests and arms need. Assumes nothing.
use Rattle.std.specs.Prelude.{◌≡◌, refl, ℕ, Bool, true, false, not, cond, Float, Result}
use Rattle.std.proofs.Common.{sym, ap, ◌∙◌}
use Rattle.std.specs.Float.{nan, inf, fin}
use Rattle.std.specs.Float.Ieee.{neg, is_nan}
use Rattle.laws.specs.Arithmetic.{◌≠·◌, 1·0}
use Rattle.laws.specs.laws.Kinds.{differs_is}
use Rattle.identities.specs.laws.Signs.{neg-neg}
use Rattle.answer.specs.declared.Answer.{Answer}
use Rattle.answer.specs.declared.Refusal.{Refusal}
use Rattle.answer.specs.declared.Counted.{Counted}
use Rattle.answer.specs.Settle.{handed_of}
use Rattle.identities.specs.Turned.{turn_of}

pub same_kind : (φ : Float) → (neg φ ≠· neg φ) ≡ (φ ≠· φ)
unfolding neg is_nan
same_kind φ = differs_is (neg φ) ∙ kind φ ∙ sym (differs_is φ)
  where
    kind : (φ : Float) → is_nan (neg φ) ≡ is_nan φ
    kind nan = refl
    kind (inf s) = refl
    kind (fin s m e) = refl

pub one-turned : (b : Bool) → cond (not b) (neg 1·0) 1·0 ≡ neg (cond b (neg 1·0) 1·0)
one-turned true = sym (neg-neg 1·0)
one-turned false = refl

pub after : (n : ℕ) {a b : Result Answer Refusal} → a ≡ b → ◌≡◌ {A = Counted} (record { answer = a; rounds = n }) (record { answer = b; rounds = n })
after n e = ap (λ (a : Result Answer Refusal). record { answer = a; rounds = n }) e

-- down the tests, arm by arm; `turn` is one of the two
pub rung : {A : Type 0} (turn : A → A) (t u : Bool) (a b c d : A) → t ≡ u → a ≡ turn c → b ≡ turn d → cond t a b ≡ turn (cond u c d)
rung turn t u a b c d e p q = ap (λ (t : Bool). cond t a b) e ∙ go u
  where
    go : (u : Bool) → cond u a b ≡ turn (cond u c d)
    go true = p
    go false = q

pub handed_odd : (u v : Float) → u ≡ neg v → handed_of u ≡ turn_of (handed_of v)
unfolding handed_of turn_of neg
handed_odd u v e = ap handed_of e ∙ go v
  where
    go : (v : Float) → handed_of (neg v) ≡ turn_of (handed_of v)
    go nan = refl
    go (inf s) = refl
    go (fin s m e) = refl
