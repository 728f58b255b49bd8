-- Texts sent one after the other are one text. Assumes nothing.
use Rattle.std.specs.Prelude.{◌≡◌, ℕ, Bool, true, false, List, [], ◌++◌}
use Rattle.std.proofs.Common.{sym, ap, ◌∙◌, arith, append_assoc, append-nil}
use Rattle.files.specs.declared.sending.Output.{Output}
use Rattle.files.specs.Calls.{sends, Called}
use Rattle.files.specs.Output.{after_send, Wrote, none, sent, lost}

-- after a failure nothing more is sent
still_lost : {o u : Output} {t : List ℕ} (s : List ℕ) → o.ok ≡ false → Wrote o t u → Wrote o s u
still_lost s bad none = lost bad
still_lost s bad (sent piece rest ok e good c w) =
    let z : true ≡ false = sym good ∙ bad in
    let y : ◌≡◌ {A = ℕ} 0 1 = cc in
    absurd (omega arith)
still_lost s bad (lost also) = lost bad

pub wrote_both : {o u v : Output} {s t : List ℕ} → Wrote o s u → Wrote u t v → Wrote o (s ++ t) v
wrote_both none w = w
wrote_both {t = t} (sent piece rest ok e good c first) w =
    sent piece (rest ++ t) ok (ap (λ (x : List ℕ). x ++ t) e ∙ append_assoc piece rest t) good c (wrote_both first w)
wrote_both {s = s} {t = t} (lost bad) w = still_lost (s ++ t) bad w

-- one piece
pub wrote_piece : {o : Output} {text : List ℕ} (ok : Bool) → o.ok ≡ true → Called (sends o.file o.sends text ok) → Wrote o text (after_send o ok)
wrote_piece {text = text} ok good c = sent text [] ok (sym (append-nil text)) good c none
