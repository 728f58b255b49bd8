-- The fields passed read, so the first one that does not is the first from here.
use mathlib.Core.Path.{◌≡◌, refl, ap, ◌∙◌}
use Prim.Native.Nat.{ℕ, suc, ◌+◌, ◌-◌, ◌≤◌, ◌<◌}
use native.Mathlib.Numerals.{add-one}
use native.Mathlib.Omega.{arith}
use mathlib.Core.Bool.{true, false, not}
use mathlib.Core.List.{List}
use Rattle.std.specs.Prelude.{Some, None}
use Rattle.std.specs.Option.{is_some}
use Rattle.laws.specs.Ladder.{held, passed}
use Rattle.hexline.specs.Fields.{says_of, bad_from}
use Rattle.hexline.proofs.fields.bad.Goals as goal

module _ (l : List ℕ) (j : ℕ) (h : j < 8) where
  one_less : 8 - j ≡ suc (8 - suc j)
  one_less = omega arith

  ends : is_some (says_of l j) ≡ false → Some j ≡ bad_from l (8 - j) j
  unfolding bad_from
  ends e = rw one_less (held _ _ (ap not e) refl)

  goes_on_lem : is_some (says_of l j) ≡ true → bad_from l (8 - (j + 1)) (j + 1) ≡ bad_from l (8 - j) j
  unfolding bad_from
  goes_on_lem e = rw (add-one, one_less) (passed _ _ (ap not e) refl)

all_read : (l : List ℕ) (j : ℕ) → 8 ≤ j → None ≡ bad_from l (8 - j) j
unfolding bad_from
all_read l j h = let none : 8 - j ≡ 0 = omega arith in rw none refl

pub returns-then-is_none : goal.returns-then-is_none
returns-then-is_none c =
    ends c.args.line.now c.loop-j.j c.loop-j-test.true (rw c.says.ensures at c.if-is_none.ensures) ∙ c.loop-j.invariant

pub loop-j-preserved : goal.loop-j-preserved
loop-j-preserved c =
    goes_on_lem c.args.line.now c.loop-j.j c.loop-j-test.true (rw c.says.ensures at c.if-is_none.ensures) ∙ c.loop-j.invariant

pub returns : goal.returns
returns c = all_read c.args.line.now c.loop-j.j (omega arith) ∙ c.loop-j.invariant
