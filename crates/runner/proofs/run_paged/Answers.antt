-- What was read, kept and written.
use Rattle.std.proofs.Common.{◌≡◌, true, false, refl, List, ℕ, not, Bool, sym, ◌∙◌, Bor, Option}
use Rattle.std.specs.Prelude.{Result, Ok, Err, IfErr}
use Rattle.std.specs.Result.{is_ok, is_err}
use Rattle.files.specs.declared.sending.Output.{Output}
use Rattle.files.specs.Output.{Wrote, output_of}
use Rattle.ending.specs.Outcome.{state_of, text_of}
use Rattle.ending.specs.Ending.{kept_or, done_text}
use Rattle.runner.specs.Run.{zeros}
use Rattle.runner.specs.Done.{named}
use Rattle.runner.proofs.run_paged.Goals as goal

-- the text of a run whose sheet was saved or not, by its file's name
text_kept : (page : List ℕ → List ℕ) (name : List ℕ) (saved : Result (Unit {0}) (Bor (List ℕ))) → IfErr saved (λ n. n.now ≡ name) → (failed : Bool) (st : _) (m : List ℕ)
    → kept_or saved (text_of page failed st m) ≡ done_text page name (is_ok saved) failed st m
unfolding done_text
text_kept page name (Ok x) h failed st m = refl
text_kept page name (Err n) h failed st m = rw h refl

pub begin-st-requires : goal.begin-st-requires
unfolding zeros
begin-st-requires g c = refl

pub returns : goal.returns
unfolding zeros
returns g c =
    let all = c.take_all-end in
    let saved = c.keep-saved in
    record {
      st = state_of all.result;
      m = all.new.sheet;
      failed = is_err all.result;
      ran = record { begin = _; begins = c.begin-st.ensures; took = all.ensures };
      ok = is_ok saved.result;
      keeps = saved.ensures.keeps;
      last = c.write_page-out.result;
      wrote = rw (text_kept g.P.Page.text (named c.args.file) saved.result saved.ensures.name (is_err all.result) (state_of all.result) all.new.sheet) at c.write_page-out.ensures;
    }
