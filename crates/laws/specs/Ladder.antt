-- Down a list of tests: the first that holds decides. Assumes nothing.
use Rattle.std.specs.Prelude.{◌≡◌, Bool, true, false, cond}
use Rattle.std.proofs.Common.{sym, ◌∙◌, ap}

infixr 2 when◌gives◌else◌
abbrev pub when◌gives◌else◌ : {A : Type 0} → Bool → A → A → A
when◌gives◌else◌ t a b = cond t a b

pub held : {A : Type 0} (a b : A) {t : Bool} {r : A} → t ≡ true → r ≡ a → r ≡ cond t a b
held a b e h = h ∙ sym (ap (λ (t : Bool). cond t a b) e)

pub passed : {A : Type 0} (a b : A) {t : Bool} {r : A} → t ≡ false → r ≡ b → r ≡ cond t a b
passed a b e h = h ∙ sym (ap (λ (t : Bool). cond t a b) e)
