-- What a stored row says: its times, and for a function that is not 0 all that was entered and answered. Assumes nothing.
use Rattle.std.specs.Prelude.{◌≡◌, refl, ℕ, ◌^◌, ◌<◌}
use Rattle.std.proofs.Common.{◌∙◌, ne_eqb, arith, lit<}
use Rattle.answer.specs.Answer.{refusal_of, first_of}
use Rattle.ledger.specs.Bytes.{bytes, number}
use Rattle.ledger.specs.Sheet.{Row, row_bytes, function_in, refusal_in, times_in, first_in}
use Rattle.ledger.specs.laws.Fields.{number-bytes}
use Rattle.sheet.specs.declared.Entry.{Entry}
use Rattle.sheet.specs.Edit.{kept_of, answer_of, answered, row_of}
use Rattle.sheet.specs.laws.Stored.{function_answered, refusal_answered, first-answered, either}

times-answered : (e : Entry) → times_in (answered e) ≡ number (bytes 2 e.times)
unfolding times_in answered row_bytes bytes
times-answered e = refl

-- two bytes
times_small : (k : ℕ) → number (bytes 2 k) < 2 ^ 16
unfolding number bytes
times_small k = omega arith

pub times_row_of : (e : Entry) → times_in (row_of e) < 2 ^ 16
unfolding kept_of times_in number
times_row_of e = either e (λ (w : Row). times_in w < 2 ^ 16) (λ h. lit< tt) (rw (times-answered (kept_of e)) (times_small e.times))

-- what a stored row says, for a function that is not 0
pub record Says (e : Entry) (w : Row) : Type 0 where
  pub function : function_in w ≡ e.function
  pub times : e.times < 2 ^ 16 → times_in w ≡ e.times
  pub refusal : refusal_in w ≡ refusal_of (answer_of (kept_of e))
  pub first : first_in w ≡ first_of (answer_of (kept_of e))

pub says : (e : Entry) → (e.function ≡ 0 → ⊥) → Says e (row_of e)
unfolding row_of kept_of
says e h = rw (ne_eqb e.function 0 h) (record {
  function = function_answered (kept_of e);
  times = λ h. times-answered (kept_of e) ∙ number-bytes 2 e.times h;
  refusal = refusal_answered (kept_of e);
  first = first-answered (kept_of e);
})
