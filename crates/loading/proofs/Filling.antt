-- A buffer that is filled read by read. Assumes nothing.
use mathlib.Core.Path.{◌≡◌, refl, sym, ap, ◌∙◌}
use Prim.Native.Nat.{ℕ, ◌+◌, ◌-◌, ◌≤◌, ◌<◌}
use native.Mathlib.Nat.{add-zero}
use native.Mathlib.Omega.{arith}
use mathlib.Core.Bool.{Bool, true, false}
use mathlib.Core.List.{List, [], ◌∷◌, ◌++◌, append_assoc, append-nil}
use Rattle.std.proofs.Common.{ℤ}
use Rattle.std.specs.Prelude.{Option, Some, None, is_none}
use lib.ListN.{length, take, drop, length-drop}
use lib.Seq.{take_all, take-add, length-take-le}
use Rattle.files.specs.Calls.{Read, read, reads, Called}
use Rattle.files.specs.Reads.{count_of, brought_of, failed_of, input_of}
use Rattle.loading.specs.Load.{Fills, full, ends, broke, more, Brought}

-- all of what is left of the buffer
pub rest_whole : (xs : List ℕ) (a : ℕ) → take (length xs - a) (drop a xs) ≡ drop a xs
rest_whole xs a = take_all (length xs - a) (drop a xs) (simp length-drop (omega arith))

-- ---- the reads so far

input_more : (rs : List Read) (r : Read) → input_of (rs ++ (r ∷ [])) ≡ input_of rs ++ brought_of r
unfolding input_of
input_more [] r = append-nil (brought_of r)
input_more (q ∷ rs) r = ap (λ (s : List ℕ). brought_of q ++ s) (input_more rs r) ∙ sym (append_assoc (brought_of q) (input_of rs) (brought_of r))

-- they brought the bytes up to the place, and whatever reads follow, all of them together are the file's
pub record SoFar (room : ℕ) (file : ℤ) (at : ℕ) (into : List ℕ) : Type 0 where
  pub done : List Read
  pub bytes : input_of done ≡ take at into
  pub then : (rs : List Read) (ok : Bool) → Fills room file at rs ok → Fills room file 0 (done ++ rs) ok

pub none_yet : (room : ℕ) (file : ℤ) (into : List ℕ) → SoFar room file 0 into
unfolding input_of
none_yet room file into = record { done = []; bytes = refl; then = λ rs ok f. f }

pub all_full : (room : ℕ) (file : ℤ) (at : ℕ) (into : List ℕ) → SoFar room file at into → at ≡ room → Brought room file (take at into) true
all_full room file at into h e = record { reads = h.done; fills = rw append-nil at (h.then [] true (rw e full)); is = sym h.bytes }

-- a read that fails brings nothing
failed_none : (got : Option ℕ) (n : ℕ) → is_none got ≡ true → 0 ≡ count_of got n
failed_none None n e = refl
failed_none (Some k) n e = let z : ◌≡◌ {A = ℕ} 0 1 = cc in absurd (omega arith)

-- one more read, into the rest of the buffer
module _ (room : ℕ) (file : ℤ) (at : ℕ) (old new : List ℕ) (got : Option ℕ) (h : SoFar room file at old) (kept : take at new ≡ take at old)
    (c : Called (reads file at (read got (drop at new)))) where
  abbrev it : Read
  it = read got (drop at new)

  joined : (n : ℕ) → n ≡ count_of got (length (drop at new)) → input_of (h.done ++ (it ∷ [])) ≡ take (at + n) new
  unfolding brought_of
  joined n e = input_more h.done it ∙ rw (← e, h.bytes, ← kept) (sym (take-add at n new))

  -- the last one, which brings nothing
  nothing : (ok : Bool) → 0 ≡ count_of got (length (drop at new)) → Fills room file at (it ∷ []) ok → Brought room file (take at new) ok
  nothing ok e f = record { reads = h.done ++ (it ∷ []); fills = h.then (it ∷ []) ok f; is = sym (joined 0 e ∙ ap (λ (k : ℕ). take k new) (add-zero at)) }

  pub stopped : failed_of it ≡ true → Brought room file (take at new) false
  unfolding failed_of
  stopped e = nothing false (failed_none got (length (drop at new)) e) (broke c e)

  pub ended : failed_of it ≡ false → 0 ≡ count_of got (length (drop at new)) → Brought room file (take at new) true
  unfolding brought_of
  ended fine e =
      let none : brought_of it ≡ [] = rw (← e) refl in
      nothing true e (ends c fine none)

  pub goes_on_lem : failed_of it ≡ false → (n : ℕ) → n ≡ count_of got (length (drop at new)) → n ≤ length (drop at new) → 0 < n → SoFar room file (at + n) new
  unfolding brought_of
  goes_on_lem fine n e fits some =
      let long : length (brought_of it) ≡ n = rw (← e) (length-take-le n (drop at new) fits) in
      record {
        done = h.done ++ (it ∷ []);
        bytes = joined n e;
        then = λ rs ok f. rw append_assoc (h.then (it ∷ rs) ok (more c fine (omega arith) (rw long f)));
      }
