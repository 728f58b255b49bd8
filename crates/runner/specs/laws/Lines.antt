-- How many lines the machine counts: as many as there are line ends, as long as none was bad. Assumes nothing.
use Rattle.std.specs.Prelude.{◌≡◌, ℕ, suc, ◌+◌, ◌^◌, ◌<◌, Bool, true, false, cond, Option, Some, None, List, [], ◌∷◌, length, take, ◌==◌, nat_lt, refl}
use Rattle.std.proofs.Common.{sym, ap, ◌∙◌, mod-eq_of_lt, arith}
use Rattle.line.specs.declared.Edit.{Edit}
use Rattle.line.specs.Line.{decimal_of, line_of}
use Rattle.ending.specs.declared.outcome.State.{State}
use Rattle.runner.specs.Machine.{longest, Held, Room, line_number, count_line, edit_line, take_line, end_of, join_of, step_of, feed_of}
use Rattle.runner.specs.laws.Steps.{step_idle}
use Rattle.line.specs.Line.{line_ends}

-- a bad line stays so
stays_bad : (bs : List ℕ) (w : Room) → w.st.bad ≡ true → (feed_of w bs).st.bad ≡ true
unfolding feed_of
stays_bad [] w bad = bad
stays_bad (b ∷ bs) w bad = stays_bad bs (step_of w b) (ap (λ (v : Room). v.st.bad) (sym (step_idle w.st w.line w.sheet b bad)) ∙ bad)

good_before : (bs : List ℕ) (w : Room) → (feed_of w bs).st.bad ≡ false → w.st.bad ≡ false
good_before bs w good = by w.st.bad refl where
  by : (t : Bool) → w.st.bad ≡ t → w.st.bad ≡ false
  by false e = e
  by true e = let z : true ≡ false = sym (stays_bad bs w e) ∙ good in cc

either : {A : Type 0} (f : A → ℕ) (t : Bool) {x y : A} {k : ℕ} → f x ≡ k → f y ≡ k → f (cond t x y) ≡ k
either f true e g = e
either f false e g = g

-- a line end counts one line, a bad one too
line-counted : (st : State) (s m : List ℕ) → (take_line st s m).st.lines ≡ line_number st
unfolding take_line count_line edit_line
line-counted st s m = either (λ (h : Held). h.st.lines) st.begun (edit (line_of s)) (count (decimal_of s)) where
  count : (x : Option ℕ) → (count_line (line_number st) m x).st.lines ≡ line_number st
  count None = refl
  count (Some r) = either (λ (h : Held). h.st.lines) (nat_lt 1024 r) refl refl

  edit : (x : Option Edit) → (edit_line (line_number st) st.size m x).st.lines ≡ line_number st
  edit None = refl
  edit (Some e) = refl

end-counted : (w : Room) → (end_of w).st.lines ≡ line_number w.st
unfolding end_of
end-counted w = either (λ (v : Room). v.st.lines) (nat_lt longest w.st.held) refl (line-counted w.st (take w.st.held w.line) w.sheet)

-- no other byte does
join_counted : (w : Room) (b : ℕ) → (join_of w b).st.lines ≡ w.st.lines
unfolding join_of
join_counted w b = either (λ (v : Room). v.st.lines) (nat_lt longest w.st.held) refl refl

stepped : (w : Room) (b : ℕ) → w.st.bad ≡ false → w.st.lines + 1 < 2 ^ 64 → (step_of w b).st.lines ≡ cond (b == 10) (w.st.lines + 1) w.st.lines
unfolding step_of
stepped w b good few = simp good (by (b == 10)) where
  by : (t : Bool) → (cond t (end_of w) (join_of w b)).st.lines ≡ cond t (w.st.lines + 1) w.st.lines
  by true = end-counted w ∙ mod-eq_of_lt few
  by false = join_counted w b

-- the lines of bytes that left no bad line
pub counted : (bs : List ℕ) (w : Room) → (feed_of w bs).st.bad ≡ false → w.st.lines + length bs < 2 ^ 64 → (feed_of w bs).st.lines ≡ w.st.lines + line_ends bs
unfolding feed_of line_ends
counted [] w good few = omega arith
counted (b ∷ bs) w good few =
    let now : w.st.bad ≡ false = good_before (b ∷ bs) w good in
    by (b == 10) (stepped w b now (omega arith)) (counted bs (step_of w b) good) where
      by : (t : Bool) → (step_of w b).st.lines ≡ cond t (w.st.lines + 1) w.st.lines
          → ((step_of w b).st.lines + length bs < 2 ^ 64 → (feed_of (step_of w b) bs).st.lines ≡ (step_of w b).st.lines + line_ends bs)
          → (feed_of (step_of w b) bs).st.lines ≡ w.st.lines + cond t (suc (line_ends bs)) (line_ends bs)
      by true e rest = omega (arith, rest (omega (arith, e)), e)
      by false e rest = omega (arith, rest (omega (arith, e)), e)
