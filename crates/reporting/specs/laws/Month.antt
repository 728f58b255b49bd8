-- The report that a run sends is the one that month's laws are about (02, [2]): of the files that were read, each under the number of its word. Assumes nothing.
use Rattle.std.specs.Prelude.{◌≡◌, refl, ℕ, ◌+◌, ◌≤◌, Bool, true, false, cond, List, [], ◌∷◌, ◌++◌, Result, Ok, Err, ⊤}
use Rattle.std.proofs.Common.{sym, ap, ◌∙◌, subst, add_assoc, add_comm, arith}
use Rattle.std.specs.Result.{is_ok}
use Rattle.month.specs.declared.parts.Stop.{Stop}
use Rattle.month.specs.declared.parts.Report.{Report}
use Rattle.month.specs.Month.{stop_of, start_of, added_of}
use Rattle.month.specs.Files.{File, most_files, taken, month_on, sheets_in, Meaning}
use Rattle.month.specs.laws.Month.{month}
use Rattle.reporting.specs.Reporting.{Fate, stopped_by, fate_of, after_file, apart_of, Took, none, more}

-- ---- one file more

pub apart_more : (fs : List Fate) (f : Fate) → apart_of (fs ++ (f ∷ [])) ≡ apart_of fs + cond (is_ok f) 0 1
unfolding apart_of
apart_more [] f = add_comm (cond (is_ok f) 0 1) 0
apart_more (g ∷ fs) f = ap (λ (k : ℕ). cond (is_ok g) 0 1 + k) (apart_more fs f) ∙ sym (add_assoc (cond (is_ok g) 0 1) (apart_of fs) (cond (is_ok f) 0 1))

month_more : (r : Report) (fs : List File) (f : File) → month_on r (fs ++ (f ∷ [])) ≡ added_of (month_on r fs) f.number f.bytes
unfolding month_on
month_more r [] f = refl
month_more r (g ∷ fs) f = month_more (added_of r g.number g.bytes) fs f

sheets_more : (fs : List File) (f : File) → sheets_in (fs ++ (f ∷ [])) ≡ sheets_in fs + cond (taken f.bytes) 1 0
unfolding sheets_in
sheets_more [] f = add_comm (cond (taken f.bytes) 1 0) 0
sheets_more (g ∷ fs) f = ap (λ (k : ℕ). cond (taken g.bytes) 1 0 + k) (sheets_more fs f) ∙ sym (add_assoc (cond (taken g.bytes) 1 0) (sheets_in fs) (cond (taken f.bytes) 1 0))

one_of_both : (b : Bool) → cond b 1 0 + cond b 0 1 ≡ 1
one_of_both true = refl
one_of_both false = refl

-- ---- all of them

-- the files that were read; those taken and those not are all n
pub record Read (n : ℕ) (r : Report) (fates : List Fate) : Type 0 where
  pub files : List File
  pub report : r ≡ month_on start_of files
  pub all : sheets_in files + apart_of fates ≡ n

stopped-ok : (r : Result ⊤ Stop) → is_ok (stopped_by r) ≡ is_ok r
stopped-ok (Ok x) = refl
stopped-ok (Err s) = refl

one_more_lem : (n : ℕ) (r new : Report) (fs : List Fate) (f : Fate) (read : Bool) (bytes : List ℕ) → f ≡ fate_of read bytes → new ≡ after_file r (n + 1) read bytes → Read n r fs
    → Read (n + 1) new (fs ++ (f ∷ []))
unfolding fate_of after_file
one_more_lem n r new fs f true bytes e a h =
    let file : File = record { number = n + 1; bytes = bytes } in
    let is : is_ok f ≡ taken bytes = ap is_ok e ∙ stopped-ok (stop_of bytes) in
    let apart : apart_of (fs ++ (f ∷ [])) ≡ apart_of fs + cond (taken bytes) 0 1 = apart_more fs f ∙ ap (λ (b : Bool). apart_of fs + cond b 0 1) is in
    record {
      files = h.files ++ (file ∷ []);
      report = a ∙ ap (λ (q : Report). added_of q (n + 1) bytes) h.report ∙ sym (month_more start_of h.files file);
      all = omega (arith, sheets_more h.files file, apart, h.all, one_of_both (taken bytes));
    }
one_more_lem n r new fs f false bytes e a h =
    let apart : apart_of (fs ++ (f ∷ [])) ≡ apart_of fs + 1 = apart_more fs f ∙ ap (λ (g : Fate). apart_of fs + cond (is_ok g) 0 1) e in
    record { files = h.files; report = a ∙ h.report; all = omega (arith, apart, h.all) }

pub took_read : {n : ℕ} {r : Report} {fs : List Fate} → Took n r fs → Read n r fs
unfolding month_on sheets_in apart_of
took_read none = record { files = []; report = refl; all = refl }
took_read (more {n} {r} {new} {fs} {f} t m) = one_more_lem n r new fs f m.read m.bytes m.fate m.report (took_read t)

module _ {n : ℕ} {r : Report} {fs : List Fate} (t : Took n r fs) (few : n ≤ most_files) where
  -- it says what 02 asks of those files
  pub took_month : Meaning (took_read t).files r
  took_month =
      let h = took_read t in
      let most : sheets_in h.files ≤ most_files = omega (arith, h.all) in
      subst (Meaning h.files) (sym h.report) (month h.files most)

  -- `sheets` and `apart` add up to the files that were named
  pub all-counted : r.sheets + apart_of fs ≡ n
  all-counted = let h = took_read t in ap (λ (k : ℕ). k + apart_of fs) took_month.sheets ∙ h.all
