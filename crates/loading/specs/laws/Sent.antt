-- What was put at the start of a buffer and sent from there is that text. Assumes nothing.
use Rattle.std.proofs.Common.{subst}
use Rattle.std.specs.Prelude.{ℕ, ◌-◌, List, take}
use Rattle.std.proofs.Math.Nat.{sub-zero}
use Rattle.text.specs.Writing.{Put}
use Rattle.text.specs.laws.Writing.{front}
use Rattle.files.specs.declared.sending.Output.{Output}
use Rattle.files.specs.Output.{Wrote}

pub sent_front : {old new text : List ℕ} {n : ℕ} {out last : Output} → Put old new 0 n text → Wrote out (take (n - 0) new) last → Wrote out text last
sent_front {n = n} {out = out} {last = last} put w = subst (λ (t : List ℕ). Wrote out t last) (front put) (rw (sub-zero n) at w)
