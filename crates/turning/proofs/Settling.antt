-- What comes of bytes that were read, from the answers of the calls. Assumes nothing.
use mathlib.Core.Path.{◌≡◌, refl, sym, ap, ◌∙◌}
use Prim.Native.Nat.{ℕ}
use mathlib.Core.Bool.{Bool, true, false}
use mathlib.Core.List.{List}
use Rattle.ledger.specs.Calls.{rows_in}
use Rattle.conversion.specs.Conversion.{Stopped, stop_of, converted_of}
use Rattle.files.specs.Save.{Save}
use Rattle.files.specs.Notes.{cannot_write}
use Rattle.files.specs.declared.sending.Output.{Output}
use Rattle.files.specs.Output.{Wrote}
use Rattle.turning.specs.Turning.{stop_line, rows_line, refused, unwritten, written, Answered}

-- nothing refused the sheet
pub none_left : (bytes : List ℕ) (forth : Bool) (stop : Stopped) → stop ≡ stop_of forth bytes → stop.refusal ≡ 0 → (stop_of forth bytes).refusal ≡ 0
none_left bytes forth stop s zero = ap (λ (t : Stopped). t.refusal) (sym s) ∙ zero

module _ (bytes to : List ℕ) (forth : Bool) (out end : Output) (stop : Stopped) (rows : ℕ) (s : stop ≡ stop_of forth bytes) (r : rows ≡ rows_in bytes) where
  pub settled_refused : (stop.refusal ≡ 0 → ⊥) → Wrote out (stop_line stop rows) end → Answered bytes to forth out end
  settled_refused h w = record {
    text = stop_line stop rows;
    settled = refused (λ z. h (ap (λ (t : Stopped). t.refusal) s ∙ z)) (ap (λ (t : Stopped). stop_line t rows) s ∙ ap (stop_line (stop_of forth bytes)) r);
    wrote = w;
  }

  module _ (zero : stop.refusal ≡ 0) (new : List ℕ) (n : new ≡ converted_of forth bytes) (ok : Bool) (done : Save to new ok) where
    pub settled_unwritten : ok ≡ false → Wrote out (cannot_write to) end → Answered bytes to forth out end
    settled_unwritten e w = record { text = cannot_write to; settled = unwritten (none_left bytes forth stop s zero) (rw (n, e) at done) refl; wrote = w }

    pub settled_written : ok ≡ true → Wrote out (rows_line rows) end → Answered bytes to forth out end
    settled_written e w = record { text = rows_line rows; settled = written (none_left bytes forth stop s zero) (rw (n, e) at done) (ap rows_line r); wrote = w }
