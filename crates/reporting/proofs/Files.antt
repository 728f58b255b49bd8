-- Files one after the other: what is held after each. Assumes nothing.
use mathlib.Core.Path.{◌≡◌, refl, sym, ap, ◌∙◌, subst}
use Prim.Native.Nat.{ℕ, ◌+◌, ◌<◌}
use native.Mathlib.Numerals.{add-one}
use mathlib.Core.Bool.{Bool, true, false}
use mathlib.Core.List.{List, [], ◌∷◌, ◌++◌}
use lib.ListN.{length, take, get_or, set}
use lib.Seq.{take-suc, take-suc-set}
use Rattle.month.specs.declared.parts.Report.{Report}
use Rattle.std.specs.Prelude.{Result, Ok, Err, ⊤}
use Rattle.std.proofs.Common.{append-nil}
use Rattle.month.specs.declared.parts.Stop.{Stop}
use Rattle.month.specs.Month.{stop_of, added_of}
use Rattle.monthly.specs.Monthly.{report_text}
use Rattle.files.specs.Calls.{Called, words}
use Rattle.loading.specs.Load.{Load}
use Rattle.files.specs.declared.sending.Output.{Output}
use Rattle.files.specs.Output.{Wrote, none}
use Rattle.files.specs.laws.Outputs.{wrote_both}
use Rattle.reporting.specs.declared.parts.Apart.{Apart}
use Rattle.reporting.specs.declared.parts.Apart.TheVariants.{Unread, Stopped}
use Rattle.reporting.specs.Reporting.{Fate, stopped_by, fate_of, after_file, apart_of, Met, Took, Line, Lines, Told, ToldAll, Reported}

-- ---- one file

module _ (n : ℕ) (r : Report) (name bytes : List ℕ) (named : Called (words n name)) (read : Bool) (l : Load name bytes read) where
  pub met_unread : read ≡ false → Met n r r (Err Unread)
  unfolding fate_of after_file
  met_unread e = record { name = name; bytes = bytes; read = false; named = named; loaded = subst (Load name bytes) e l; fate = refl; report = refl }

  module _ (e : read ≡ true) (d : Result ⊤ Stop) (s : d ≡ stop_of bytes) where
    pub met_stopped : (stop : Stop) → d ≡ Err stop → Met n r r (Err (Stopped stop))
    unfolding fate_of after_file added_of
    met_stopped stop k = record {
      name = name;
      bytes = bytes;
      read = true;
      named = named;
      loaded = subst (Load name bytes) e l;
      fate = ap stopped_by (sym k ∙ s);
      report = rw (sym s ∙ k) refl;
    }

    pub met_taken : (u : ⊤) (new : Report) → d ≡ Ok u → new ≡ added_of r n bytes → Met n r new (Ok tt)
    unfolding fate_of after_file
    met_taken u new k a = record {
      name = name;
      bytes = bytes;
      read = true;
      named = named;
      loaded = subst (Load name bytes) e l;
      fate = ap stopped_by (sym k ∙ s);
      report = a;
    }

-- ---- files so far

-- one more, in its place: what was met, kept as it was
pub took_more : {i : ℕ} {r new kept : Report} (fates : List Fate) {f g : Fate} → i < length fates → Took i r (take i fates) → Met (i + 1) r new f → new ≡ kept → f ≡ g
    → Took (i + 1) kept (take (i + 1) (set fates i g))
took_more {i} fates {f} {g} there t m same alike =
    let all : take (i + 1) (set fates i g) ≡ take i fates ++ (g ∷ []) = rw add-one (take-suc-set fates i g there) in
    rw (all, ← same, ← alike) (Took.more t m)

-- ---- lines so far

pub told-all-none : (fates : List Fate) (out : Output) → ToldAll 0 (take 0 fates) out out
told-all-none fates out = record { text = []; are = Lines.none; wrote = none }

module _ (i : ℕ) (fates : List Fate) (d : Fate) (h : i < length fates) {out mid : Output} (all : ToldAll i (take i fates) out mid) where
  more-is : take (i + 1) fates ≡ take i fates ++ (get_or fates i d ∷ [])
  more-is = rw add-one (take-suc fates i d h)

  pub told-all_more : {a : Apart} {last : Output} → get_or fates i d ≡ Err a → Told (i + 1) a mid last → ToldAll (i + 1) (take (i + 1) fates) out last
  told-all_more {a} e one = record { text = all.text ++ one.text; are = rw (more-is, e) (Lines.more all.are one.is); wrote = wrote_both all.wrote one.wrote }

  pub told-all_taken : {u : ⊤} → get_or fates i d ≡ Ok u → ToldAll (i + 1) (take (i + 1) fates) out mid
  told-all_taken {u} e = record { text = all.text ++ []; are = rw (more-is, e) (Lines.more all.are Line.no_line); wrote = rw (append-nil all.text) all.wrote }

-- ---- all of it

pub reported : {n apart : ℕ} {r : Report} {fs : List Fate} {out page last : Output} → Took n r fs → apart ≡ apart_of fs → Wrote out (report_text apart r) page
    → ToldAll n fs page last → Reported out n last
reported {r = r} {fs = fs} took a first rest = record {
  report = r;
  fates = fs;
  text = rest.text;
  took = took;
  lines = rest.are;
  wrote = wrote_both (rw a at first) rest.wrote;
}
