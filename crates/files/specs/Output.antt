-- Text sent to an output, one piece after the other. Definitions only.
use Rattle.std.specs.Prelude.{◌≡◌, ℕ, ◌+◌, ◌%◌, ◌^◌, Bool, true, false, List, [], ◌++◌, ℤ, pos}
use Rattle.files.specs.declared.sending.Output.{Output}
use Rattle.files.specs.Calls.{sends, Called}

-- nothing was sent yet
abbrev pub output_of : ℤ → Output
output_of file = record { file = file; sends = 0; ok = true }

-- one more piece was sent
abbrev pub after_send : Output → Bool → Output
after_send o ok = record { file = o.file; sends = (o.sends + 1) % 2 ^ 64; ok = ok }

-- the text was sent, from where the output stood at first to where it stands: in pieces, each once and in their order, up to the first that was not taken whole;
-- after that one nothing more is sent
pub data Wrote : Output → List ℕ → Output → Type 0 where
  none : {o : Output} → Wrote o [] o
  sent : {o u : Output} {text : List ℕ} (piece rest : List ℕ) (ok : Bool) → text ≡ piece ++ rest → o.ok ≡ true → Called (sends o.file o.sends piece ok)
      → Wrote (after_send o ok) rest u → Wrote o text u
  lost : {o : Output} {text : List ℕ} → o.ok ≡ false → Wrote o text o

-- standard error was told this, after the program's name
pub record Told (program what : List ℕ) : Type 0 where
  pub last : Output
  pub wrote : Wrote (output_of (pos 2)) (program ++ what) last
