-- No text, not opened, or read as far as the buffer goes and closed.
use Rattle.std.proofs.Common.{rules, ◌≡◌, length, MatchResult, ℕ, List, Bor}
use Rattle.std.specs.Prelude.{Some, None, Ok, Err, Result, IsUtf8}
use Rattle.std.specs.Fd.{file_raw_fd}
use Rattle.std.specs.Result.{result_ok}
use Rattle.loading.specs.Load.{most, no_text, unopened, opened, broken}
use Rattle.loading.proofs.load.Goals as goal

abbrev Read : {E : Type 0} → List ℕ → (E → Type 0) → Result (Bor (List ℕ)) E → Type 0
Read name Q r = MatchResult r (λ s. (s.now ≡ name) × IsUtf8 name) (λ e. (IsUtf8 name → ⊥) × Q e)

no_name : {E : Type 0} (name : List ℕ) (Q : E → Type 0) (r : Result (Bor (List ℕ)) E) → Read name Q r → None ≡ result_ok r → IsUtf8 name → ⊥
no_name name Q (Ok s) h e = cc
no_name name Q (Err f) h e = h.0

named : {E : Type 0} (name : List ℕ) (Q : E → Type 0) (r : Result (Bor (List ℕ)) E) (s : Bor (List ℕ)) → Read name Q r → Some s ≡ result_ok r → s.now ≡ name
named name Q (Ok t) s h e = cc
named name Q (Err f) s h e = cc

pub returns-in_err-text-clause-load : goal.returns-in_err-text-clause-load
returns-in_err-text-clause-load c = rw c.from_residual.ensures (no_text (no_name _ _ c.from_utf8.result c.from_utf8.ensures.cases c.in_err-text.ensures.value))

pub returns-in_err-file-clause-load : goal.returns-in_err-file-clause-load
returns-in_err-file-clause-load c =
    let is : c.in_ok-text.text.now ≡ c.args.name.now = named _ _ c.from_utf8.result _ c.from_utf8.ensures.cases c.in_ok-text.ensures.value in
    rw c.from_residual-in_err-file.ensures (unopened (rw is at c.in_err-file.ensures))

pub returns-in-Ok-clause-load : goal.returns-in-Ok-clause-load
returns-in-Ok-clause-load c =
    let is : c.in_ok-text.text.now ≡ c.args.name.now = named _ _ c.from_utf8.result _ c.from_utf8.ensures.cases c.in_ok-text.ensures.value in
    let room : length c.args.into.now ≡ most = search rules in
    opened (file_raw_fd c.in_ok-file.file) (rw is at c.in_ok-file.ensures) (rw room at c.in-Ok.ensures.brought) c.close.ensures

pub returns-in-Err-clause-load : goal.returns-in-Err-clause-load
returns-in-Err-clause-load c =
    let is : c.in_ok-text.text.now ≡ c.args.name.now = named _ _ c.from_utf8.result _ c.from_utf8.ensures.cases c.in_ok-text.ensures.value in
    let room : length c.args.into.now ≡ most = search rules in
    broken (file_raw_fd c.in_ok-file.file) (rw is at c.in_ok-file.ensures) (rw room at c.in-Err.ensures.brought) c.close.ensures
