-- What the engine makes of the bytes that the read counts.
use Rattle.std.proofs.Common.{◌≡◌, ℕ, Bool, true, false, not, ◌&&◌, ltb, List, length, take, ap, sym, ◌∙◌, ◌≤◌, length-take-le, Option, rules}
use Rattle.std.specs.Prelude.{is_none}
use Rattle.files.specs.Calls.{read}
use Rattle.files.specs.Reads.{count_of, brought_of, failed_of}
use Rattle.runner.specs.Machine.{Room, feed_of}
use Rattle.runner.specs.Reads.{goes_on, Next}
use Rattle.runner.proofs.Runs.{none_counted}
use Rattle.runner.proofs.reading.take_part.Goals as goal

led : (w v : Room) (got : Option ℕ) (part : List ℕ) (n : ℕ) → n ≡ count_of got (length part) → n ≤ length part → v ≡ feed_of w (take n part)
    → (more failed : Bool) → (ltb 0 n && not v.st.bad) ≡ more → is_none got ≡ failed → Next w (read got part) v more failed
unfolding brought_of failed_of goes_on
led w v got part n brought few fed more failed on fails =
    record {
      fed = fed ∙ ap (λ (k : ℕ). feed_of w (take k part)) brought;
      goes_on_lem = sym on ∙ ap (λ (k : ℕ). ltb 0 k && not v.st.bad) (sym (length-take-le n part few) ∙ ap (λ (k : ℕ). length (take k part)) brought);
      fails = sym fails;
    }

pub returns-then-is_none : goal.returns-then-is_none
returns-then-is_none c =
    let n = c.count-n in
    let none : is_none c.args.got ≡ true = search rules in
    let zero : n.result ≡ 0 = n.ensures.value ∙ none_counted c.args.got _ none in
    led _ _ c.args.got c.args.part.now n.result n.ensures.value n.ensures.upper_bound c.feed-next.ensures false true (ap (λ (k : ℕ). ltb 0 k && not c.feed-next.result.bad) zero) none

pub returns-then-n-next : goal.returns-then-n-next
returns-then-n-next c =
    let n = c.count-n in
    led _ _ c.args.got c.args.part.now n.result n.ensures.value n.ensures.upper_bound c.feed-next.ensures true false c.if-n-next.true (search rules)

pub returns : goal.returns
returns c =
    let n = c.count-n in
    led _ _ c.args.got c.args.part.now n.result n.ensures.value n.ensures.upper_bound c.feed-next.ensures false false c.if-n-next.false (search rules)
